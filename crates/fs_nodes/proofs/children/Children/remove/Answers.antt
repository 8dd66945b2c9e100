use Rattle.std.proofs.Common.{◌≡◌, ◌-◌, true, None, sym, ap, ◌∙◌, arith}
use Rattle.std.specs.Int.{from_bool}
use Rattle.fs_nodes.specs.Children.{Link, is_directory, leading}
use Rattle.fs_nodes.proofs.Index.{one_for, none_removed}
use Rattle.fs_nodes.proofs.Indexed.{not_indexed, link_missing, link_removed, indexed_removed, link_counted}
use Rattle.fs_nodes.proofs.children.Children.remove.Goals as goal

pub returns-in_default : goal.returns-in_default
returns-in_default c =
    let s = c.self.inside in
    ap (λ es. record { links = es; next = s.next })
    (sym (none_removed c.args.name.now s.links.entries
    (not_indexed s.links.entries s.places s.next s.directories c.self.invariant c.args.name.now
    (sym c.in_default.ensures.value))))
    ∙ ap (leading c.args.name.now true None) c.self.view_is

pub invariant_of-self-in_default-remove : goal.invariant_of-self-in_default-remove
invariant_of-self-in_default-remove c =
    let s = c.self.inside in
    absurd (link_missing s.links.entries s.places s.next s.directories c.self.invariant
    c.args.name.now c.in-Some.place (sym c.in-Some.ensures.value)
    (sym c.in_default-remove.ensures.value))

pub returns-in_default-remove : goal.returns-in_default-remove
returns-in_default-remove c =
    let s = c.self.inside in
    absurd (link_missing s.links.entries s.places s.next s.directories c.self.invariant
    c.args.name.now c.in-Some.place (sym c.in-Some.ensures.value)
    (sym c.in_default-remove.ensures.value))

pub overflow_sub-self : goal.overflow_sub-self
overflow_sub-self c =
    let s = c.self.inside in
    let link = c.in-Some-remove.link in
    let one : c.from.result ≡ one_for link =
    c.from.ensures
    ∙ ap from_bool (c.is_directory.ensures
    ∙ ap (λ (l : Link). is_directory l.child.kind) c.link.view_is) in
    let some = link_counted s.links.entries s.places s.next s.directories c.self.invariant
    c.in-Some.place link (sym c.in-Some-remove.ensures.value) in
    omega (arith, one, some)

pub invariant_of-self-2 : goal.invariant_of-self-2
invariant_of-self-2 c =
    let s = c.self.inside in
    let link = c.in-Some-remove.link in
    let one : c.from.result ≡ one_for link =
    c.from.ensures
    ∙ ap from_bool (c.is_directory.ensures
    ∙ ap (λ (l : Link). is_directory l.child.kind) c.link.view_is) in
    let some = link_counted s.links.entries s.places s.next s.directories c.self.invariant
    c.in-Some.place link (sym c.in-Some-remove.ensures.value) in
    indexed_removed s.links.entries s.places s.next s.directories c.self.invariant c.args.name.now
    c.in-Some.place (sym c.in-Some.ensures.value) link (sym c.in-Some-remove.ensures.value)
    c.remove-2.new.self.entries c.remove-2.ensures.entries c.remove.new.self
    c.remove.ensures.updates (s.directories - c.from.result) (omega (arith, one, some))

pub returns : goal.returns
returns c =
    let s = c.self.inside in
    ap (λ es. record { links = es; next = s.next })
    (c.remove-2.ensures.entries
    ∙ link_removed s.links.entries s.places s.next s.directories c.self.invariant c.args.name.now
    c.in-Some.place (sym c.in-Some.ensures.value))
    ∙ ap (leading c.args.name.now true None) c.self.view_is
