use Rattle.std.proofs.Common.{ap, ◌∙◌}
use Rattle.std.specs.Map.{keys_of}
use Rattle.fs_nodes.specs.Pages.{Pages, first_from}
use Rattle.fs_nodes.proofs.First.{first_is}
use Rattle.fs_nodes.proofs.pages.Pages.first_from.Goals as goal

pub returns : goal.returns
returns c =
    first_is c.self.inside.pages.entries c.range.result c.args.page c.first_key.result
    (c.range.ensures.between tt) c.first_key.ensures
    ∙ ap (λ (p : Pages). first_from (keys_of p) c.args.page) c.self.view_is
