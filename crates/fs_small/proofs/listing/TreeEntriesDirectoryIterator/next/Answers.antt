use Rattle.std.proofs.Common.{refl, sym, ◌∙◌, arith}
use Rattle.fs_small.specs.Tables.{items_of}
use Rattle.fs_small.proofs.Items.{first_read, none_read}
use Rattle.fs_small.proofs.listing.TreeEntriesDirectoryIterator.next.Goals as goal

pub overflow_add-self : goal.overflow_add-self
overflow_add-self g c = omega (arith, c.in-Some.ensures.few)

pub returns-in-None : goal.returns-in-None
returns-in-None g c =
    let items = items_of (g.T.ReadTree.tables c.self.inside.tree) c.self.inside.node in
    let none = none_read items c.self.inside.next c.in-None.ensures.item in
    ((refl, λ _. tt, (sym c.self.view_is ∙ none, none)), tt)

pub returns-in-Some : goal.returns-in-Some
returns-in-Some g c =
    let items = items_of (g.T.ReadTree.tables c.self.inside.tree) c.self.inside.node in
    let first = first_read items c.self.inside.next _ c.in-Some.ensures.item in
    ((refl, λ _. tt, sym c.self.view_is ∙ first), tt)
