use Rattle.std.proofs.Common.{ℕ, List, ap, ◌∙◌}
use Rattle.fs_nodes.specs.Pages.{undone}
use Rattle.fs_nodes.proofs.HeldPages.{undone-append}
use Rattle.fs_nodes.proofs.pages.Pages.add_noted.Goals as goal

pub returns-in-Ok-add-clause-noted : goal.returns-in-Ok-add-clause-noted
returns-in-Ok-add-clause-noted c =
    ap (λ (ns : List ℕ). undone ns c.add.new.self) c.in-Ok.ensures.items
    ∙ undone-append c.args.added.now.items c.args.page c.add.new.self
    ∙ ap (undone c.args.added.now.items) c.in-Ok-add.ensures.undone
