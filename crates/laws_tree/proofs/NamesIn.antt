-- The names of a directory that lead to a node, where one was added, taken out or leads elsewhere.
use Rattle.std.proofs.Common.{◌≡◌, ◌≢◌, ◌+◌, ◌<◌, ◌==◌, ℕ, Bool, true, false, cond, not, List, [], ◌∷◌, map, find, filter, Some, None, bytes_eq, refl, sym, ap, ◌∙◌, subst, ⊎_elim, arith}
use Rattle.std.specs.List.{AllByRecursion, IsDistinct}
use Rattle.std.proofs.lemmas.Bool.{cases_Bool, cond-true, cond-false, not_from_true, not_from_false, eq-eqb, ne_eqb}
use Rattle.std.proofs.lemmas.List.Sums.{sum_by-cons}
use Rattle.std.proofs.lemmas.Option.{none-some}
use Rattle.vfs_files.proofs.Indexes.{same_name, turned_name}
use Rattle.fs_tree.specs.Children.{Link, is_named, relinked}
use Rattle.laws_tree.specs.Laws.{names_in, AreApart}
use Rattle.fs_nodes.specs.declared.children.Child.{Child}
use Rattle.fs_nodes.proofs.Finds.{every_filter, every_map, every_weaker, found_here, found_later, none_passes, filter_all, map_all}
use Rattle.fs_nodes.proofs.Places.{relinked_name}

-- one, where two numbers are the same
pub one : (a b : ℕ) → ℕ
one a b = cond (a == b) 1 0

pub one_same : (a b : ℕ) → a ≡ b → one a b ≡ 1
unfolding one
one_same a b e = cond-true (a == b) 1 0 (eq-eqb a b e)

pub one_other : (a b : ℕ) → a ≢ b → one a b ≡ 0
unfolding one
one_other a b apart = cond-false (a == b) 1 0 (ne_eqb a b apart)

pub root_one : (n : ℕ) → cond (n == 1) 1 0 ≡ one n 1
unfolding one
root_one n = refl

-- ---- how many lead to a node

pub names_in-cons : (n : ℕ) (x : ℕ × Link) (xs : List (ℕ × Link))
    → names_in n (x ∷ xs) ≡ one x.1.child.node n + names_in n xs
unfolding one
names_in-cons n x xs = sum_by-cons (λ (link : ℕ × Link). cond (link.1.child.node == n) 1 0) x xs

-- ---- names apart

abbrev pub Apart : List (ℕ × Link) → Type 0
Apart [] = Unit {0}
Apart (x ∷ xs) = AllByRecursion (λ other. bytes_eq x.1.name other.1.name ≡ false) xs × Apart xs

every_mapped : {X Y : Type 0} (P : Y → Type 0) (f : X → Y) (xs : List X)
    → AllByRecursion P (map f xs) → AllByRecursion (λ x. P (f x)) xs
every_mapped P f [] all = tt
every_mapped P f (x ∷ xs) all = (all.0, every_mapped P f xs all.1)

every_unmapped : {X Y : Type 0} (P : Y → Type 0) (f : X → Y) (xs : List X)
    → AllByRecursion (λ x. P (f x)) xs → AllByRecursion P (map f xs)
every_unmapped P f [] all = tt
every_unmapped P f (x ∷ xs) all = (all.0, every_unmapped P f xs all.1)

pub apart_from : (links : List (ℕ × Link)) → AreApart links → Apart links
unfolding IsDistinct
apart_from [] all = tt
apart_from (x ∷ xs) all = (
  every_mapped (λ name. bytes_eq x.1.name name ≡ false) (λ (link : ℕ × Link). link.1.name) xs
      all.0,
  apart_from xs all.1,
)

pub are_apart : (links : List (ℕ × Link)) → Apart links → AreApart links
unfolding IsDistinct
are_apart [] all = tt
are_apart (x ∷ xs) all = (
  every_unmapped (λ name. bytes_eq x.1.name name ≡ false) (λ (link : ℕ × Link). link.1.name) xs
      all.0,
  are_apart xs all.1,
)

pub apart_more : (xs : List (ℕ × Link)) (x : ℕ × Link) → Apart xs
    → find (is_named x.1.name) xs ≡ None → Apart (x ∷ xs)
apart_more xs x apart none = (
  every_weaker (λ other. is_named x.1.name other ≡ false)
      (λ other. bytes_eq x.1.name other.1.name ≡ false)
      (λ other b. turned_name other.1.name x.1.name false b) xs
      (none_passes (is_named x.1.name) xs none),
  apart,
)

pub apart_filter : (p : (ℕ × Link) → Bool) (xs : List (ℕ × Link)) → Apart xs
    → Apart (filter p xs)
apart_filter p [] apart = tt
apart_filter p (x ∷ xs) apart =
    let rest = apart_filter p xs apart.1 in
    ⊎_elim
    (λ passes. subst Apart (sym (cond-true (p x) (x ∷ filter p xs) (filter p xs) passes))
    (every_filter (λ other. bytes_eq x.1.name other.1.name ≡ false) p xs apart.0, rest))
    (λ fails. subst Apart (sym (cond-false (p x) (x ∷ filter p xs) (filter p xs) fails)) rest)
    (cases_Bool (p x))

apart_mapped : (f : (ℕ × Link) → (ℕ × Link)) → ((x : ℕ × Link) → (f x).1.name ≡ x.1.name)
    → (xs : List (ℕ × Link)) → Apart xs → Apart (map f xs)
apart_mapped f name [] apart = tt
apart_mapped f name (x ∷ xs) apart = (
  every_map (λ other. bytes_eq x.1.name other.1.name ≡ false)
      (λ other. bytes_eq (f x).1.name other.1.name ≡ false) f
      (λ y differs. ap (λ l. bytes_eq (f x).1.name l) (name y)
      ∙ ap (λ l. bytes_eq l y.1.name) (name x) ∙ differs) xs apart.0,
  apart_mapped f name xs apart.1,
)

pub apart_relinked : (name : List ℕ) (child : Child) (xs : List (ℕ × Link)) → Apart xs
    → Apart (map (relinked name child) xs)
apart_relinked name child xs apart =
    apart_mapped (relinked name child) (relinked_name xs name child) xs apart

-- after a link no other has its name
others_named : (name : List ℕ) (x : ℕ × Link) (xs : List (ℕ × Link)) → Apart (x ∷ xs)
    → is_named name x ≡ true → AllByRecursion (λ other. is_named name other ≡ false) xs
others_named name x xs apart same =
    every_weaker (λ other. bytes_eq x.1.name other.1.name ≡ false)
    (λ other. is_named name other ≡ false)
    (λ other differs. subst (λ (l : List ℕ). bytes_eq other.1.name l ≡ false)
    (same_name x.1.name name same) (turned_name x.1.name other.1.name false differs)) xs apart.0

module _ (name : List ℕ) where
  -- without a name
  pub names_in-filter : (n : ℕ) (links : List (ℕ × Link)) (e : ℕ × Link) → Apart links
      → find (is_named name) links ≡ Some e
      → names_in n (filter (λ link. not (is_named name link)) links) + one e.1.child.node n
      ≡ names_in n links
  names_in-filter n [] e apart found = absurd (none-some e found)
  names_in-filter n (x ∷ xs) e apart found =
      let kept = filter (λ link. not (is_named name link)) xs in
      ⊎_elim
      (λ passes.
      let others = every_weaker (λ other. is_named name other ≡ false)
      (λ other. not (is_named name other) ≡ true)
      (λ other b. not_from_false (is_named name other) b) xs
      (others_named name x xs apart passes) in
      let all : kept ≡ xs = filter_all (λ link. not (is_named name link)) xs others in
      let is : one x.1.child.node n ≡ one e.1.child.node n =
      ap (λ (l : ℕ × Link). one l.1.child.node n)
      (found_here (is_named name) x xs e passes found) in
      let gone = ap (names_in n) (cond-false (not (is_named name x)) (x ∷ kept) kept
      (not_from_true (is_named name x) passes)) in
      omega (arith, names_in-cons n x xs, is, gone, ap (names_in n) all))
      (λ fails.
      let more = names_in-filter n xs e apart.1
      (found_later (is_named name) x xs (Some e) fails found) in
      let stays = ap (names_in n) (cond-true (not (is_named name x)) (x ∷ kept) kept
      (not_from_false (is_named name x) fails)) in
      omega (arith, names_in-cons n x xs, names_in-cons n x kept, more, stays))
      (cases_Bool (is_named name x))

  -- where it leads elsewhere
  pub names_in-relinked : (child : Child) (n : ℕ) (links : List (ℕ × Link)) (e : ℕ × Link)
      → Apart links → find (is_named name) links ≡ Some e
      → names_in n (map (relinked name child) links) + one e.1.child.node n
      ≡ names_in n links + one child.node n
  names_in-relinked child n [] e apart found = absurd (none-some e found)
  names_in-relinked child n (x ∷ xs) e apart found =
      let others = map (relinked name child) xs in
      let new : ℕ × Link = (x.0, record x.1 { child = child }) in
      ⊎_elim
      (λ passes.
      let same : others ≡ xs = map_all (relinked name child) xs
      (every_weaker (λ other. is_named name other ≡ false)
      (λ other. relinked name child other ≡ other)
      (λ other fails. cond-false (is_named name other)
      (other.0, record other.1 { child = child }) other fails) xs
      (others_named name x xs apart passes)) in
      let is : one x.1.child.node n ≡ one e.1.child.node n =
      ap (λ (l : ℕ × Link). one l.1.child.node n)
      (found_here (is_named name) x xs e passes found) in
      let set = ap (λ (y : ℕ × Link). names_in n (y ∷ others))
      (cond-true (is_named name x) new x passes) in
      omega (
        arith,
        names_in-cons n x xs,
        names_in-cons n new others,
        is,
        set,
        ap (names_in n) same,
      ))
      (λ fails.
      let more = names_in-relinked child n xs e apart.1
      (found_later (is_named name) x xs (Some e) fails found) in
      let stays = ap (λ (y : ℕ × Link). names_in n (y ∷ others))
      (cond-false (is_named name x) new x fails) in
      omega (arith, names_in-cons n x xs, names_in-cons n x others, more, stays))
      (cases_Bool (is_named name x))

  -- a name that is there leads to a node
  pub names_in-found : (links : List (ℕ × Link)) (e : ℕ × Link)
      → find (is_named name) links ≡ Some e → 0 < names_in e.1.child.node links
  names_in-found [] e found = absurd (none-some e found)
  names_in-found (x ∷ xs) e found =
      let n = e.1.child.node in
      ⊎_elim
      (λ passes.
      let is : one x.1.child.node n ≡ 1 = one_same x.1.child.node n
      (ap (λ (l : ℕ × Link). l.1.child.node) (found_here (is_named name) x xs e passes found)) in
      omega (arith, names_in-cons n x xs, is))
      (λ fails.
      let more = names_in-found xs e (found_later (is_named name) x xs (Some e) fails found) in
      omega (arith, names_in-cons n x xs, more))
      (cases_Bool (is_named name x))

  -- each is what it was, or leads to this one now
  pub every_relinked : (P : Child → Type 0) (child : Child) → P child → (links : List (ℕ × Link))
      → AllByRecursion (λ (link : ℕ × Link). P link.1.child) links
      → AllByRecursion (λ (link : ℕ × Link). P link.1.child) (map (relinked name child) links)
  every_relinked P child this links all =
      every_map (λ (link : ℕ × Link). P link.1.child) (λ (link : ℕ × Link). P link.1.child)
      (relinked name child) (λ link it. each link it (is_named name link)) links all
    where
      each : (link : ℕ × Link) → P link.1.child → (t : Bool)
          → P (cond t (link.0, record link.1 { child = child }) link).1.child
      each link it true = this
      each link it false = it

  -- ---- what is found still

  -- a name that is there has not that of a new link
  pub find_more_found : (xs : List (ℕ × Link)) (x e : ℕ × Link) → find (is_named x.1.name) xs ≡ None
      → find (is_named name) xs ≡ Some e → find (is_named name) (x ∷ xs) ≡ Some e
  find_more_found xs x e none found =
      ⊎_elim
      (λ passes.
      let same : x.1.name ≡ name = same_name x.1.name name passes in
      absurd (none-some e
      (sym (subst (λ (l : List ℕ). find (is_named l) xs ≡ None) same none) ∙ found)))
      (λ fails. cond-false (is_named name x) (Some x) (find (is_named name) xs) fails ∙ found)
      (cases_Bool (is_named name x))

  pub find_relinked : (other : List ℕ) (child : Child) → bytes_eq other name ≡ false
      → (links : List (ℕ × Link))
      → find (is_named other) (map (relinked name child) links) ≡ find (is_named other) links
  find_relinked other child differs [] = refl
  find_relinked other child differs (x ∷ xs) =
      let new : ℕ × Link = (x.0, record x.1 { child = child }) in
      let more = find_relinked other child differs xs in
      let named = ap (λ l. bytes_eq l other) (relinked_name xs name child x) in
      let y = relinked name child x in
      ⊎_elim
      (λ passes.
      let fails : is_named name x ≡ false =
      subst (λ (l : List ℕ). bytes_eq l name ≡ false) (sym (same_name x.1.name other passes))
      differs in
      let same : y ≡ x = cond-false (is_named name x) new x fails in
      cond-true (is_named other y) (Some y) (find (is_named other) (map (relinked name child) xs))
      (named ∙ passes)
      ∙ ap (λ (z : ℕ × Link). Some z) same
      ∙ sym (cond-true (is_named other x) (Some x) (find (is_named other) xs) passes))
      (λ fails.
      cond-false (is_named other y) (Some y) (find (is_named other) (map (relinked name child) xs))
      (named ∙ fails)
      ∙ more
      ∙ sym (cond-false (is_named other x) (Some x) (find (is_named other) xs) fails))
      (cases_Bool (is_named other x))
