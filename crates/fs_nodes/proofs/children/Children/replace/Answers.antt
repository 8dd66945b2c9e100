use Rattle.std.proofs.Common.{◌≡◌, ◌+◌, ◌-◌, true, Some, sym, ap, ◌∙◌, arith}
use Rattle.std.specs.Int.{from_bool}
use Rattle.std.specs.Ordering.{nat_cmp}
use Rattle.std.specs.Map.{set_value}
use Rattle.std.specs.BTreeMap.{is_at}
use Rattle.fs_nodes.specs.Children.{Link, is_directory, leading}
use Rattle.fs_nodes.proofs.Index.{one_for, none_relinked}
use Rattle.fs_nodes.proofs.Indexed.{not_indexed, link_missing, link_counted, link_replaced, indexed_replaced, directories_replaced}
use Rattle.fs_nodes.proofs.children.Children.replace.Goals as goal

pub returns-in_default : goal.returns-in_default
returns-in_default c =
    let s = c.self.inside in
    sym c.self.view_is
    ∙ ap (λ es. record { links = es; next = s.next })
    (sym (none_relinked c.args.name.now c.args.child s.links.entries
    (not_indexed s.links.entries s.places s.next s.directories c.self.invariant c.args.name.now
    (sym c.in_default.ensures.value))))
    ∙ ap (leading c.args.name.now true (Some c.args.child)) c.self.view_is

pub returns-in_default-get_mut : goal.returns-in_default-get_mut
returns-in_default-get_mut c =
    let s = c.self.inside in
    absurd (link_missing s.links.entries s.places s.next s.directories c.self.invariant
    c.args.name.now c.in-Some.place.now (sym c.in-Some.ensures.value)
    (sym c.in_default-get_mut.ensures.value))

pub overflow_sub-self : goal.overflow_sub-self
overflow_sub-self c =
    let s = c.self.inside in
    let link = c.in-Some-get_mut.link.now in
    let one : c.from.result ≡ one_for link =
    c.from.ensures
    ∙ ap from_bool (c.is_directory-was.ensures
    ∙ ap (λ (l : Link). is_directory l.child.kind) c.link.view_is) in
    let some = link_counted s.links.entries s.places s.next s.directories c.self.invariant
    c.in-Some.place.now link (sym c.in-Some-get_mut.ensures.value) in
    omega (arith, one, some)

pub overflow_add-self : goal.overflow_add-self
overflow_add-self c =
    let s = c.self.inside in
    let link = c.in-Some-get_mut.link.now in
    let new : Link = record link { child = c.args.child } in
    let found = sym c.in-Some-get_mut.ensures.value in
    let one : c.from.result ≡ one_for link =
    c.from.ensures
    ∙ ap from_bool (c.is_directory-was.ensures
    ∙ ap (λ (l : Link). is_directory l.child.kind) c.link.view_is) in
    let other : c.from-2.result ≡ one_for new =
    c.from-2.ensures ∙ ap from_bool c.is_directory.ensures in
    let some = link_counted s.links.entries s.places s.next s.directories c.self.invariant
    c.in-Some.place.now link found in
    let few = directories_replaced s.links.entries s.places s.next s.directories c.self.invariant
    c.args.name.now c.in-Some.place.now (sym c.in-Some.ensures.value) c.args.child link found
    (s.directories - c.from.result + c.from-2.result) (omega (arith, one, other, some)) in
    record { fits = omega (arith, few) }

pub invariant_of-self-2 : goal.invariant_of-self-2
invariant_of-self-2 c =
    let s = c.self.inside in
    let link = c.in-Some-get_mut.link.now in
    let new : Link = record link { child = c.args.child } in
    let written : Link = record { name = c.link.inside.name; child = c.args.child } in
    let same : written ≡ new =
    ap (λ (l : Link). record l { child = c.args.child }) c.link.view_is in
    let found = sym c.in-Some-get_mut.ensures.value in
    let one : c.from.result ≡ one_for link =
    c.from.ensures
    ∙ ap from_bool (c.is_directory-was.ensures
    ∙ ap (λ (l : Link). is_directory l.child.kind) c.link.view_is) in
    let other : c.from-2.result ≡ one_for new =
    c.from-2.ensures ∙ ap from_bool c.is_directory.ensures in
    let some = link_counted s.links.entries s.places s.next s.directories c.self.invariant
    c.in-Some.place.now link found in
    indexed_replaced s.links.entries s.places s.next s.directories c.self.invariant
    c.args.name.now c.in-Some.place.now (sym c.in-Some.ensures.value) c.args.child link found
    (c.get_mut.follows.lender written).entries
    ((c.get_mut.follows.holds written).0
    ∙ ap (set_value (is_at (nat_cmp c.in-Some.place.now)) s.links.entries) same)
    (s.directories - c.from.result + c.from-2.result) (omega (arith, one, other, some))

pub returns : goal.returns
returns c =
    let s = c.self.inside in
    let link = c.in-Some-get_mut.link.now in
    let new : Link = record link { child = c.args.child } in
    let written : Link = record { name = c.link.inside.name; child = c.args.child } in
    let same : written ≡ new =
    ap (λ (l : Link). record l { child = c.args.child }) c.link.view_is in
    ap (λ es. record { links = es; next = s.next })
    ((c.get_mut.follows.holds written).0
    ∙ ap (set_value (is_at (nat_cmp c.in-Some.place.now)) s.links.entries) same
    ∙ link_replaced s.links.entries s.places s.next s.directories c.self.invariant c.args.name.now
    c.in-Some.place.now (sym c.in-Some.ensures.value) c.args.child link
    (sym c.in-Some-get_mut.ensures.value))
    ∙ ap (leading c.args.name.now true (Some c.args.child)) c.self.view_is
