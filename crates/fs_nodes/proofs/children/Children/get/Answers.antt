use Rattle.std.proofs.Common.{Some, sym, ap, ◌∙◌}
use Rattle.fs_nodes.specs.Children.{Link, Children, child_named}
use Rattle.fs_nodes.proofs.Indexed.{link_found, link_missing}
use Rattle.fs_nodes.proofs.children.Children.get.Goals as goal

pub returns-in-Some : goal.returns-in-Some
returns-in-Some c =
    let s = c.self.inside in
    ap (λ (l : Link). Some l.child) c.link.view_is
    ∙ link_found s.links.entries s.places s.next s.directories c.self.invariant c.args.name.now
    c.in_ok-place.place.now (sym c.in_ok-place.ensures.value) c.in-Some.link.now
    (sym c.in-Some.ensures.value)
    ∙ ap (λ (children : Children). child_named children c.args.name.now) c.self.view_is

pub returns-in-None : goal.returns-in-None
returns-in-None c =
    let s = c.self.inside in
    absurd (link_missing s.links.entries s.places s.next s.directories c.self.invariant
    c.args.name.now c.in_ok-place.place.now (sym c.in_ok-place.ensures.value)
    (sym c.in-None.ensures.value))
