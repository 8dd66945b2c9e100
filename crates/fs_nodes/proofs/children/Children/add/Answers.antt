use Rattle.std.proofs.Common.{◌≡◌, ◌+◌, ◌-◌, ℕ, List, false, Some, None, refl, sym, ap, ◌∙◌, subst, find, arith}
use Rattle.std.specs.Int.{from_bool}
use Rattle.std.specs.Cmp.Lexicographic.{slice_cmp}
use Rattle.std.specs.Ordering.{nat_cmp}
use Rattle.std.specs.BTreeMap.{UpdatesBy, insert_entry}
use Rattle.vfs_files.proofs.Indexes.{mapped_none}
use Rattle.vfs_files.specs.Values.{name_text}
use Rattle.fs_nodes.specs.Children.{Children, Link, child_named, leading, is_named}
use Rattle.fs_nodes.specs.Index.{AreIndexed}
use Rattle.fs_nodes.proofs.Index.{one_for}
use Rattle.fs_nodes.proofs.Indexed.{directories_fit, indexed_same, indexed_added, link_added, add_undone}
use Rattle.fs_nodes.proofs.Results.{ok_clause, err_clause}
use Rattle.fs_nodes.proofs.children.Children.add.Goals as goal

-- what was put in and taken out again
undone : (c : goal.Joined-remove) → c.remove.new.self.entries ≡ c.self.inside.links.entries
undone c =
    let s = c.self.inside in
    let link : Link = record { name = c.in_ok-new.field-0; child = c.args.child } in
    let put : c.insert.new.self.entries ≡ insert_entry nat_cmp s.links.entries s.next link =
    ok_clause c.insert.result c.is_err.result c.is_err.ensures.value c.if-is_err.false
    c.insert.ensures.entries in
    add_undone s.links.entries s.places s.next s.directories c.self.invariant link.name link.child
    c.insert.new.self.entries c.remove.new.self.entries put c.remove.ensures.entries

pub invariant_of-self-then-is_err-2 : goal.invariant_of-self-then-is_err-2
invariant_of-self-then-is_err-2 c =
    let s = c.self.inside in
    let same : c.insert-2.new.self.entries ≡ s.places.entries =
    err_clause c.insert-2.result c.is_err-2.result c.is_err-2.ensures.value
    c.if-is_err-2.true c.insert-2.ensures.err in
    subst (λ (es : List (ℕ × Link)). AreIndexed es c.insert-2.new.self s.next s.directories)
    (sym (undone c))
    (indexed_same s.links.entries s.places s.next s.directories c.self.invariant
    c.insert-2.new.self same)

pub returns-then-is_err-2-clause-err : goal.returns-then-is_err-2-clause-err
returns-then-is_err-2-clause-err c =
    (refl, ap (λ es. record { links = es; next = c.self.inside.next }) (undone c) ∙ c.self.view_is)

pub overflow_add-self : goal.overflow_add-self
overflow_add-self c =
    let s = c.self.inside in
    let link : Link = record { name = c.in_ok-new.field-0; child = c.args.child } in
    let one : c.from.result ≡ one_for link = c.from.ensures ∙ ap from_bool c.is_directory.ensures in
    record {
      fits = directories_fit s.links.entries s.places s.next s.directories c.self.invariant
          link c.from.result one;
    }

pub invariant_of-self-2 : goal.invariant_of-self-2
invariant_of-self-2 c =
    let s = c.self.inside in
    let own = c.in_ok-new.field-0 in
    let link : Link = record { name = own; child = c.args.child } in
    let named : own ≡ name_text c.args.name = c.in_ok-new.ensures.same in
    let keyed : c.in_ok-key.key.items ≡ own =
    c.in_ok-key.ensures.same ∙ c.to_bytes.ensures ∙ sym named in
    let updates = ok_clause c.insert-2.result c.is_err-2.result c.is_err-2.ensures.value
    c.if-is_err-2.false c.insert-2.ensures.updates in
    let put : c.insert.new.self.entries ≡ insert_entry nat_cmp s.links.entries s.next link =
    ok_clause c.insert.result c.is_err.result c.is_err.ensures.value c.if-is_err.false
    c.insert.ensures.entries in
    let one : c.from.result ≡ one_for link = c.from.ensures ∙ ap from_bool c.is_directory.ensures in
    let free : child_named (record { links = s.links.entries; next = s.next }) own ≡ None =
    ap (λ (children : Children). child_named children own) c.self.view_is
    ∙ ap (child_named c.args.self.now) named ∙ c.requires.free in
    let none =
    mapped_none (λ (l : ℕ × Link). l.1.child) (find (is_named own) s.links.entries) free in
    let Updates = λ (l : List ℕ). UpdatesBy (λ x y. slice_cmp nat_cmp x.items y.items)
    (λ key. slice_cmp nat_cmp l key.items) s.places c.insert-2.new.self (Some s.next) in
    let next = ap (λ (children : Children). children.next) c.self.view_is in
    indexed_added s.links.entries s.places s.next s.directories c.self.invariant own none
    (omega (arith, next, c.requires.place)) c.args.child c.insert.new.self.entries put c.insert-2.new.self (subst Updates keyed updates)
    (s.directories + c.from.result) (ap (λ n. s.directories + n) one)

pub returns-clause-ok : goal.returns-clause-ok
returns-clause-ok c =
    let s = c.self.inside in
    let link : Link = record { name = c.in_ok-new.field-0; child = c.args.child } in
    let put : c.insert.new.self.entries ≡ insert_entry nat_cmp s.links.entries s.next link =
    ok_clause c.insert.result c.is_err.result c.is_err.ensures.value c.if-is_err.false
    c.insert.ensures.entries in
    ap (λ es. record { links = es; next = s.next - 1 })
    (link_added s.links.entries s.places s.next s.directories c.self.invariant link.name link.child
    c.insert.new.self.entries put)
    ∙ ap (λ n. leading n false (Some c.args.child) (record { links = s.links.entries; next = s.next }))
    c.in_ok-new.ensures.same
    ∙ ap (leading (name_text c.args.name) false (Some c.args.child)) c.self.view_is
