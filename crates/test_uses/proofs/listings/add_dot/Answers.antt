use Rattle.std.proofs.Common.{◌≡◌, ◌∙◌, ℕ, List, None, arith, ap, codes, length, refl}
use Rattle.vfs_segments.specs.Written.{wrote}
use Rattle.vfs_wire.specs.Fields.{little}
use Rattle.vfs_grammar.specs.Listing.{dirent_bytes}
use Rattle.vfs_grammar.specs.Words.{record_bytes}
use Rattle.vfs_grammar.specs.Samples.{record_of_dot}
use Rattle.test_uses.proofs.SmallCallers.{put_whole}
use Rattle.test_uses.proofs.listings.add_dot.Goals as goal

dot_bytes : (name : List ℕ) → name ≡ codes "."
    → record_bytes None (record { ino = 1; offset = 1; type_ = 4; name = name }) ≡ record_of_dot
unfolding dirent_bytes little
dot_bytes name e = rw e refl

pub returns-clause-bytes : goal.returns-clause-bytes
returns-clause-bytes c =
    let one = ap length c.requires.name in
    put_whole 32 None (record { ino = 1; offset = 1; type_ = 4; name = c.args.dot.bytes.now })
    c.args.w.now c.add_dirent.new.w c.add_dirent.result c.add_dirent.ensures
    (omega (arith, one)) (omega (arith, one)) (omega (arith, one))
    ∙ ap (λ (l : List ℕ). wrote c.args.w.now l) (dot_bytes c.args.dot.bytes.now c.requires.name)
