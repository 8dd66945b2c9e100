use Rattle.std.proofs.Common.{◌≡◌, ◌+◌, None, length, take, min, ap, ◌∙◌, arith}
use Rattle.fs_nodes.specs.Pages.{byte_at, byte_over}
use Rattle.fs_nodes.proofs.Fills.{fills_all}
use Rattle.fs_nodes.proofs.transfer.fill.Goals as goal

pub returns-clause-keys : goal.returns-clause-keys
returns-clause-keys g c =
    let t = c.write_to_file_at.ensures in
    (fills_all (g.R.ZeroCopyReader.left c.args.r.now) None c.args.count c.args.off c.requires.low _ _ _ _
    (λ m less. c.requires.held (c.args.off + m) (omega arith) (omega arith)) t.2).0

pub returns-clause-bytes : goal.returns-clause-bytes
returns-clause-bytes g c =
    λ place.
    let t = c.write_to_file_at.ensures in
    let left = g.R.ZeroCopyReader.left c.args.r.now in
    let all : min c.args.count (length left) ≡ c.args.count = omega (arith, c.requires.left) in
    (fills_all left None c.args.count c.args.off c.requires.low _ _ _ _
    (λ m less. c.requires.held (c.args.off + m) (omega arith) (omega arith)) t.2).1 place
    ∙ ap (λ k. byte_over c.args.off (take k left) (byte_at c.args.pages.now) place) all
