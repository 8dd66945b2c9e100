use Rattle.std.proofs.Common.{◌≡◌, ◌∙◌, ◌≤◌, ◌++◌, ℕ, List, ap, arith, drop, length, length-append, take, take_all}
use Rattle.vfs_segments.specs.Written.{Written, wrote}
use Rattle.vfs_wire.specs.Fields.{bytes_of, lone_number}
use Rattle.vfs_wire.specs.FieldLaws.{length-bytes_of}
use Rattle.test_uses.proofs.segments.two_numbers.Goals as goal

-- what fits is put
six_put : (old new : Written) (x y : List ℕ) → length x ≡ 4 → length y ≡ 2 → 6 ≤ length old.left →
    new ≡ wrote old (take (length old.left) (x ++ y)) → (length (x ++ y) ≡ 6) × (new ≡ wrote old (x ++ y))
six_put old new x y four two room put =
    let long : length (x ++ y) ≡ 6 = omega (arith, four, two, length-append x y) in
    (long, put ∙ ap (wrote old) (take_all (length old.left) (x ++ y) (omega (arith, long, room))))

pub returns-clause-wrote : goal.returns-clause-wrote
returns-clause-wrote c =
    let x = bytes_of (lone_number 4) c.args.first in
    let y = bytes_of (lone_number 2) c.args.second in
    let put = six_put c.args.writer.now c.write_pair.new.self x y (length-bytes_of (lone_number 4) c.args.first c.write_pair.ensures.in_width) (length-bytes_of (lone_number 2) c.args.second c.write_pair.ensures.second_in_width) c.requires c.write_pair.ensures.wrote in
    ap (λ (w : Written). w.passed) put.1

pub returns-clause-left : goal.returns-clause-left
returns-clause-left c =
    let x = bytes_of (lone_number 4) c.args.first in
    let y = bytes_of (lone_number 2) c.args.second in
    let put = six_put c.args.writer.now c.write_pair.new.self x y (length-bytes_of (lone_number 4) c.args.first c.write_pair.ensures.in_width) (length-bytes_of (lone_number 2) c.args.second c.write_pair.ensures.second_in_width) c.requires c.write_pair.ensures.wrote in
    ap (λ (w : Written). w.left) put.1 ∙ ap (λ k. drop k c.args.writer.now.left) put.0
