use Rattle.std.proofs.Common.{◌==◌, ap, ◌∙◌, sym, get_or}
use Rattle.std.specs.Option.{option_copied}
use Rattle.fs_small.specs.MemFs.{Stored, Stock}
use Rattle.fs_small.proofs.Searches.{find_is, find_none}
use Rattle.fs_small.proofs.memfs.MemFs.find_node.Goals as goal

pub returns-in_err-place : goal.returns-in_err-place
returns-in_err-place c =
    ap option_copied c.from_residual.ensures
    ∙ sym (find_none (λ (file : Stored). file.node == c.args.node) c.args.self.now.files
    (sym c.in_err-place.ensures.place))

pub returns : goal.returns
returns c =
    sym (find_is (λ (file : Stored). file.node == c.args.node) c.args.self.now.files
    c.in_ok-place.place c.index.result.now (sym c.in_ok-place.ensures.place)
    (c.index.ensures
    ∙ ap (λ (s : Stock). get_or s.files c.in_ok-place.place c.index.result.now) c.self.view_is))
