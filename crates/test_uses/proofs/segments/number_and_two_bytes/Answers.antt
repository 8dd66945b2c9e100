use Rattle.std.proofs.Common.{◌≡◌, ◌∙◌, ◌≤◌, ℕ, List, [], ◌∷◌, ◌++◌, ap, arith, drop, length, length-append, take, take_all}
use Rattle.vfs_segments.specs.Written.{Written, wrote}
use Rattle.vfs_wire.specs.Fields.{bytes_of, lone_number}
use Rattle.vfs_wire.specs.FieldLaws.{length-bytes_of}
use Rattle.test_uses.proofs.segments.number_and_two_bytes.Goals as goal

-- what fits is put
eight_put : (old new : Written) (x bytes : List ℕ) → length x ≡ 4 → length bytes ≡ 2 → 8 ≤ length old.left →
    new ≡ wrote old (take (length old.left) (x ++ (bytes ++ 0 ∷ 0 ∷ []))) →
    (length (x ++ (bytes ++ 0 ∷ 0 ∷ [])) ≡ 8) × (new ≡ wrote old (x ++ (bytes ++ 0 ∷ 0 ∷ [])))
eight_put old new x bytes four two room put =
    let bs = x ++ (bytes ++ 0 ∷ 0 ∷ []) in
    let long : length bs ≡ 8 = length-append x (bytes ++ 0 ∷ 0 ∷ []) ∙ omega (arith, four, two, length-append bytes (0 ∷ 0 ∷ [])) in
    (long, put ∙ ap (wrote old) (take_all (length old.left) bs (omega (arith, long, room))))

pub returns-clause-wrote : goal.returns-clause-wrote
returns-clause-wrote c =
    let x = bytes_of (lone_number 4) c.args.number in
    let put = eight_put c.args.writer.now c.write_padded.new.self x c.args.bytes.now (length-bytes_of (lone_number 4) c.args.number c.write_padded.ensures.in_width) c.requires.two c.requires.room c.write_padded.ensures.wrote in
    ap (λ (w : Written). w.passed) put.1

pub returns-clause-left : goal.returns-clause-left
returns-clause-left c =
    let x = bytes_of (lone_number 4) c.args.number in
    let put = eight_put c.args.writer.now c.write_padded.new.self x c.args.bytes.now (length-bytes_of (lone_number 4) c.args.number c.write_padded.ensures.in_width) c.requires.two c.requires.room c.write_padded.ensures.wrote in
    ap (λ (w : Written). w.left) put.1 ∙ ap (λ k. drop k c.args.writer.now.left) put.0
