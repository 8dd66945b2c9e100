use Rattle.std.proofs.Common.{nat_cmp, ◌∙◌, ap}
use Rattle.std.specs.BTreeMap.{is_at}
use Rattle.std.specs.Map.{keys_of}
use Rattle.fs_nodes.specs.Pages.{Pages, holds}
use Rattle.fs_nodes.proofs.HeldPages.{found-any}
use Rattle.fs_nodes.proofs.pages.Pages.holds.Goals as goal

pub returns : goal.returns
returns c =
    c.contains_key.ensures ∙ found-any (is_at (nat_cmp c.args.page)) c.self.inside.pages.entries
    ∙ ap (λ (es : Pages). holds (keys_of es) c.args.page) c.self.view_is
