-- The links of a directory in order of their places: each is found by its place as by its name.
use Rattle.std.proofs.Common.{◌≡◌, ◌+◌, ◌-◌, ◌<◌, ◌≤◌, ℕ, Bool, true, false, cond, not, List, [], ◌∷◌, length, map, find, filter, Some, None, bytes_eq, nat_cmp, is_eq, Less, Equal, Greater, refl, sym, ap, ◌∙◌, subst, ⊎_elim, arith}
use Rattle.std.specs.Ordering.{match_ordering}
use Rattle.std.specs.Cmp.{nat_cmp_is}
use Rattle.std.specs.Int.{from_bool}
use Rattle.std.specs.Map.{lookup, remove_entry, set_value}
use Rattle.std.specs.BTreeMap.{insert_entry, is_at}
use Rattle.std.specs.List.{AllByRecursion}
use Rattle.std.proofs.lemmas.Bool.{cases_Bool, cond-true, cond-false, not_from_true, not_from_false}
use Rattle.std.proofs.lemmas.Option.{none-some, same_Some}
use Rattle.vfs_files.proofs.Indexes.{same_name}
use Rattle.fs_nodes.specs.Children.{Link, is_named, is_directory, directories_of, relinked}
use Rattle.fs_nodes.specs.Index.{IsAfter, AreInOrder}
use Rattle.fs_nodes.specs.declared.children.Child.{Child}
use Rattle.fs_nodes.proofs.Finds.{every_both, every_filter, every_map, every_weaker, every_found, found_here, found_later, none_passes, filter_all, map_all}
use Rattle.fs_nodes.proofs.Places.{relinked_place, relinked_name}

-- ---- a place as a key

at_itself : (n : ℕ) → is_at (nat_cmp n) n ≡ true
at_itself n = ap is_eq (sym (nat_cmp_is n n Equal refl))

not_at : (n k : ℕ) → k < n → is_at (nat_cmp n) k ≡ false
not_at n k below = ap is_eq (sym (nat_cmp_is n k Greater below))

module _ {X : Type 0} where
  -- what is put in before all others
  pub inserted_first : (es : List (ℕ × X)) (n : ℕ) (v : X)
      → AllByRecursion (λ (e : ℕ × X). n < e.0) es → insert_entry nat_cmp es n v ≡ (n, v) ∷ es
  inserted_first [] n v following = refl
  inserted_first (e ∷ es) n v following =
      ap (λ o. match_ordering o ((n, v) ∷ e ∷ es) ((e.0, v) ∷ es) (e ∷ insert_entry nat_cmp es n v))
      (sym (nat_cmp_is n e.0 Less following.0))

  -- and taken out again
  pub removed_first : (es : List (ℕ × X)) (n : ℕ) (v : X)
      → remove_entry (is_at (nat_cmp n)) ((n, v) ∷ es) ≡ es
  removed_first es n v =
      cond-true (is_at (nat_cmp n) n) es ((n, v) ∷ remove_entry (is_at (nat_cmp n)) es)
      (at_itself n)

-- ---- by place and by name

-- after a link no other has its name
others_named : (link : ℕ × Link) (links : List (ℕ × Link)) (name : List ℕ)
    → AllByRecursion (IsAfter link.0 link.1.name) links → is_named name link ≡ true
    → AllByRecursion (λ other. is_named name other ≡ false) links
others_named link links name following passes =
    every_weaker (IsAfter link.0 link.1.name) (λ other. is_named name other ≡ false)
    (λ other b. subst (λ (l : List ℕ). is_named l other ≡ false)
    (same_name link.1.name name passes) b.1) links following

module _ (name : List ℕ) where
  pub found_by_place : (links : List (ℕ × Link)) (e : ℕ × Link) → AreInOrder links
      → find (is_named name) links ≡ Some e → lookup (is_at (nat_cmp e.0)) links ≡ Some e.1
  found_by_place [] e order found = absurd (none-some e found)
  found_by_place (x ∷ xs) e order found =
      ⊎_elim
      (λ passes.
      subst (λ (y : ℕ × Link). lookup (is_at (nat_cmp y.0)) (x ∷ xs) ≡ Some y.1)
      (found_here (is_named name) x xs e passes found)
      (cond-true (is_at (nat_cmp x.0) x.0) (Some x.1) (lookup (is_at (nat_cmp x.0)) xs)
      (at_itself x.0)))
      (λ fails.
      let later = found_later (is_named name) x xs (Some e) fails found in
      let following = every_found (IsAfter x.0 x.1.name) (is_named name) xs e order.0 later in
      cond-false (is_at (nat_cmp e.0) x.0) (Some x.1) (lookup (is_at (nat_cmp e.0)) xs)
      (not_at e.0 x.0 following.0)
      ∙ found_by_place xs e order.1 later)
      (cases_Bool (is_named name x))

  pub removed_by_place : (links : List (ℕ × Link)) (e : ℕ × Link) → AreInOrder links
      → find (is_named name) links ≡ Some e
      → remove_entry (is_at (nat_cmp e.0)) links ≡ filter (λ link. not (is_named name link)) links
  removed_by_place [] e order found = refl
  removed_by_place (x ∷ xs) e order found =
      let kept = filter (λ link. not (is_named name link)) xs in
      ⊎_elim
      (λ passes.
      let others = every_weaker (λ other. is_named name other ≡ false)
      (λ other. not (is_named name other) ≡ true)
      (λ other b. not_from_false (is_named name other) b) xs
      (others_named x xs name order.0 passes) in
      subst (λ (y : ℕ × Link). remove_entry (is_at (nat_cmp y.0)) (x ∷ xs)
      ≡ filter (λ link. not (is_named name link)) (x ∷ xs))
      (found_here (is_named name) x xs e passes found)
      (cond-true (is_at (nat_cmp x.0) x.0) xs (x ∷ remove_entry (is_at (nat_cmp x.0)) xs)
      (at_itself x.0)
      ∙ sym (filter_all (λ link. not (is_named name link)) xs others)
      ∙ sym (cond-false (not (is_named name x)) (x ∷ kept) kept
      (not_from_true (is_named name x) passes))))
      (λ fails.
      let later = found_later (is_named name) x xs (Some e) fails found in
      let following = every_found (IsAfter x.0 x.1.name) (is_named name) xs e order.0 later in
      cond-false (is_at (nat_cmp e.0) x.0) xs (x ∷ remove_entry (is_at (nat_cmp e.0)) xs)
      (not_at e.0 x.0 following.0)
      ∙ ap (λ (l : List (ℕ × Link)). x ∷ l) (removed_by_place xs e order.1 later)
      ∙ sym (cond-true (not (is_named name x)) (x ∷ kept) kept
      (not_from_false (is_named name x) fails)))
      (cases_Bool (is_named name x))

  pub set_by_place : (child : Child) (links : List (ℕ × Link)) (e : ℕ × Link) → AreInOrder links
      → find (is_named name) links ≡ Some e
      → set_value (is_at (nat_cmp e.0)) links (record e.1 { child = child })
      ≡ map (relinked name child) links
  set_by_place child [] e order found = refl
  set_by_place child (x ∷ xs) e order found =
      let others = map (relinked name child) xs in
      ⊎_elim
      (λ passes.
      let new : ℕ × Link = (x.0, record x.1 { child = child }) in
      let same = map_all (relinked name child) xs
      (every_weaker (λ other. is_named name other ≡ false)
      (λ other. relinked name child other ≡ other)
      (λ other fails. cond-false (is_named name other)
      (other.0, record other.1 { child = child }) other fails) xs
      (others_named x xs name order.0 passes)) in
      subst (λ (y : ℕ × Link).
      set_value (is_at (nat_cmp y.0)) (x ∷ xs) (record y.1 { child = child })
      ≡ map (relinked name child) (x ∷ xs))
      (found_here (is_named name) x xs e passes found)
      (cond-true (is_at (nat_cmp x.0) x.0) (new ∷ xs)
      (x ∷ set_value (is_at (nat_cmp x.0)) xs (record x.1 { child = child }))
      (at_itself x.0)
      ∙ ap (λ (l : List (ℕ × Link)). new ∷ l) (sym same)
      ∙ sym (ap (λ (y : ℕ × Link). y ∷ others) (cond-true (is_named name x) new x passes))))
      (λ fails.
      let later = found_later (is_named name) x xs (Some e) fails found in
      let following = every_found (IsAfter x.0 x.1.name) (is_named name) xs e order.0 later in
      cond-false (is_at (nat_cmp e.0) x.0) ((x.0, record e.1 { child = child }) ∷ xs)
      (x ∷ set_value (is_at (nat_cmp e.0)) xs (record e.1 { child = child }))
      (not_at e.0 x.0 following.0)
      ∙ ap (λ (l : List (ℕ × Link)). x ∷ l) (set_by_place child xs e order.1 later)
      ∙ sym (ap (λ (y : ℕ × Link). y ∷ others)
      (cond-false (is_named name x) (x.0, record x.1 { child = child }) x fails)))
      (cases_Bool (is_named name x))

  -- where no link has the name, nothing is taken out and none led elsewhere
  pub none_removed : (links : List (ℕ × Link)) → find (is_named name) links ≡ None
      → filter (λ link. not (is_named name link)) links ≡ links
  none_removed links none =
      filter_all (λ link. not (is_named name link)) links
      (every_weaker (λ other. is_named name other ≡ false)
      (λ other. not (is_named name other) ≡ true)
      (λ other b. not_from_false (is_named name other) b) links
      (none_passes (is_named name) links none))

  pub none_relinked : (child : Child) (links : List (ℕ × Link))
      → find (is_named name) links ≡ None → map (relinked name child) links ≡ links
  none_relinked child links none =
      map_all (relinked name child) links
      (every_weaker (λ other. is_named name other ≡ false)
      (λ other. relinked name child other ≡ other)
      (λ other fails. cond-false (is_named name other)
      (other.0, record other.1 { child = child }) other fails) links
      (none_passes (is_named name) links none))

  -- ---- the order stays

  pub order_added : (links : List (ℕ × Link)) (place : ℕ) (child : Child) → AreInOrder links
      → AllByRecursion (λ link. place < link.0) links → find (is_named name) links ≡ None
      → AreInOrder ((place, record { name = name; child = child }) ∷ links)
  order_added links place child order following none = (
    every_both (λ link. place < link.0) (λ link. is_named name link ≡ false) links following
        (none_passes (is_named name) links none),
    order,
  )

pub order_filtered : (p : (ℕ × Link) → Bool) (links : List (ℕ × Link)) → AreInOrder links
    → AreInOrder (filter p links)
order_filtered p [] order = tt
order_filtered p (x ∷ xs) order =
    let rest = order_filtered p xs order.1 in
    ⊎_elim
    (λ passes. subst AreInOrder (sym (cond-true (p x) (x ∷ filter p xs) (filter p xs) passes))
    (every_filter (IsAfter x.0 x.1.name) p xs order.0, rest))
    (λ fails. subst AreInOrder (sym (cond-false (p x) (x ∷ filter p xs) (filter p xs) fails)) rest)
    (cases_Bool (p x))

-- with others in their places that have their names
order_mapped : (f : (ℕ × Link) → (ℕ × Link)) → ((x : ℕ × Link) → (f x).0 ≡ x.0)
    → ((x : ℕ × Link) → (f x).1.name ≡ x.1.name) → (links : List (ℕ × Link)) → AreInOrder links
    → AreInOrder (map f links)
order_mapped f place name [] order = tt
order_mapped f place name (x ∷ xs) order = (
  every_map (IsAfter x.0 x.1.name) (IsAfter (f x).0 (f x).1.name) f
      (λ y following. (
        subst (λ (n : ℕ). (f x).0 < n) (sym (place y))
            (subst (λ (n : ℕ). n < y.0) (sym (place x)) following.0),
        ap (λ l. bytes_eq l (f x).1.name) (name y) ∙ ap (λ l. bytes_eq y.1.name l) (name x)
            ∙ following.1,
      )) xs order.0,
  order_mapped f place name xs order.1,
)

pub order_relinked : (name : List ℕ) (child : Child) (links : List (ℕ × Link)) → AreInOrder links
    → AreInOrder (map (relinked name child) links)
order_relinked name child links order =
    order_mapped (relinked name child) (relinked_place links name child)
    (relinked_name links name child) links order

-- what holds of the places
pub places_relinked : (P : ℕ → Type 0) (name : List ℕ) (child : Child) (links : List (ℕ × Link))
    → AllByRecursion (λ link. P link.0) links
    → AllByRecursion (λ link. P link.0) (map (relinked name child) links)
places_relinked P name child links all =
    every_map (λ link. P link.0) (λ link. P link.0) (relinked name child)
    (λ y b. subst P (sym (relinked_place links name child y)) b) links all

pub after_added : (next : ℕ) (link : Link) (links : List (ℕ × Link)) → 0 < next
    → AllByRecursion (λ link. next < link.0) links
    → AllByRecursion (λ link. next - 1 < link.0) ((next, link) ∷ links)
after_added next link links some following = (
  omega (arith, some),
  every_weaker (λ other. next < other.0) (λ other. next - 1 < other.0)
      (λ other b. omega (arith, b)) links following,
)

-- ---- how many there are, and how many directories

places_rise : (links : List (ℕ × Link)) (low next : ℕ) → low ≤ next → AreInOrder links
    → AllByRecursion (λ link. low ≤ link.0) links → AllByRecursion (λ link. link.0 < next) links
    → low + length links ≤ next
places_rise [] low next small order above before = omega arith
places_rise (x ∷ xs) low next small order above before =
    let more = places_rise xs (x.0 + 1) next (omega (arith, before.0)) order.1
    (every_weaker (IsAfter x.0 x.1.name) (λ link. x.0 + 1 ≤ link.0)
    (λ link b. omega (arith, b.0)) xs order.0) before.1 in
    omega (arith, more, above.0)

pub fewer_links : (links : List (ℕ × Link)) (most : ℕ) → AreInOrder links
    → AllByRecursion (λ link. link.0 < most) links → length links ≤ most
fewer_links links most order within =
    let above =
    every_weaker (λ link. link.0 < most) (λ link. 0 ≤ link.0) (λ link b. omega arith) links
    within in
    omega (arith, places_rise links 0 most (omega arith) order above within)

-- one for a directory
abbrev pub one_for : Link → ℕ
one_for link = from_bool (is_directory link.child.kind)

pub counted : (x : ℕ × Link) (xs : List (ℕ × Link))
    → directories_of (x ∷ xs) ≡ one_for x.1 + directories_of xs
counted x xs =
    let kept = filter (λ link. is_directory link.1.child.kind) xs in
    elim (is_directory x.1.child.kind) as
    (λ t. length (cond t (x ∷ kept) kept) ≡ from_bool t + length kept)
    [ true ↦ omega arith | false ↦ omega arith ]

pub one_at_most : (link : Link) → one_for link ≤ 1
one_at_most link =
    elim (is_directory link.child.kind) as (λ t. from_bool t ≤ 1)
    [ true ↦ omega arith | false ↦ omega arith ]

pub directories_some : (links : List (ℕ × Link)) → directories_of links ≤ length links
directories_some [] = omega arith
directories_some (x ∷ xs) =
    omega (arith, counted x xs, one_at_most x.1, directories_some xs)

pub directories_removed : (test : ℕ → Bool) (links : List (ℕ × Link)) (link : Link)
    → lookup test links ≡ Some link
    → directories_of (remove_entry test links) + one_for link ≡ directories_of links
directories_removed test [] link found = absurd (none-some link found)
directories_removed test (x ∷ xs) link found =
    ⊎_elim
    (λ passes.
    let here = same_Some x.1 link
    (sym (cond-true (test x.0) (Some x.1) (lookup test xs) passes) ∙ found) in
    let gone = ap directories_of (cond-true (test x.0) xs (x ∷ remove_entry test xs) passes) in
    let same = ap one_for here in
    omega (arith, counted x xs, gone, same))
    (λ fails.
    let later = sym (cond-false (test x.0) (Some x.1) (lookup test xs) fails) ∙ found in
    let kept = ap directories_of (cond-false (test x.0) xs (x ∷ remove_entry test xs) fails) in
    omega (
      arith,
      counted x xs,
      kept,
      counted x (remove_entry test xs),
      directories_removed test xs link later,
    ))
    (cases_Bool (test x.0))

pub directories_set : (test : ℕ → Bool) (links : List (ℕ × Link)) (link new : Link)
    → lookup test links ≡ Some link
    → directories_of (set_value test links new) + one_for link
    ≡ directories_of links + one_for new
directories_set test [] link new found = absurd (none-some link found)
directories_set test (x ∷ xs) link new found =
    ⊎_elim
    (λ passes.
    let here = same_Some x.1 link
    (sym (cond-true (test x.0) (Some x.1) (lookup test xs) passes) ∙ found) in
    let set = ap directories_of
    (cond-true (test x.0) ((x.0, new) ∷ xs) (x ∷ set_value test xs new) passes) in
    let same = ap one_for here in
    omega (arith, counted x xs, counted (x.0, new) xs, set, same))
    (λ fails.
    let later = sym (cond-false (test x.0) (Some x.1) (lookup test xs) fails) ∙ found in
    let kept = ap directories_of
    (cond-false (test x.0) ((x.0, new) ∷ xs) (x ∷ set_value test xs new) fails) in
    omega (
      arith,
      counted x xs,
      kept,
      counted x (set_value test xs new),
      directories_set test xs link new later,
    ))
    (cases_Bool (test x.0))
