use Rattle.std.proofs.Common.{is_some, ap, ◌∙◌}
use Rattle.std.specs.Map.{keys_of}
use Rattle.fs_nodes.specs.Pages.{Pages, first_from}
use Rattle.fs_nodes.proofs.First.{some_from}
use Rattle.fs_nodes.proofs.pages.Pages.holds_from.Goals as goal

pub returns-in-Some : goal.returns-in-Some
returns-in-Some c =
    let es = c.self.inside.pages.entries in
    let last = c.in-Some.last.now in
    some_from es last c.args.page (ap is_some c.in-Some.ensures.value) c.in-Some.ensures.greatest
    ∙ ap (λ (es : Pages). is_some (first_from (keys_of es) c.args.page)) c.self.view_is
