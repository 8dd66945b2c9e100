-- The items of a directory after an offset, one by one.
use Rattle.std.proofs.Common.{◌≡◌, ℕ, zero, suc, Bool, true, false, cond, ◌&&◌, List, [], ◌∷◌, ◌++◌, map, take, filter, nat_lt, ◌==◌, nat_cmp, is_lt, Less, Equal, Greater, refl, sym, ap, ◌∙◌, ⊎_elim}
use Rattle.std.specs.declared.ops.Bound.TheVariants.{Excluded, Unbounded}
use Rattle.std.specs.BTreeMap.Range.{entries_between}
use Rattle.std.proofs.lemmas.Bool.{cases_Bool, cond-true, cond-false}
use Rattle.std.proofs.lemmas.List.Elements.{filter-append, filter_agree}
use Rattle.vfs_files.specs.Values.{Item}
use Rattle.fs_nodes.specs.Children.{Link}
use Rattle.fs_nodes.specs.Listing.{dot_items, link_item}
use Rattle.fs_nodes.specs.declared.node.Node.{Node}

filter_of_map : {X Y : Type 0} (p : Y → Bool) (f : X → Y) (xs : List X)
    → filter p (map f xs) ≡ map f (filter (λ x. p (f x)) xs)
filter_of_map p f [] = refl
filter_of_map {X} {Y} p f (x ∷ xs) =
    let more = filter_of_map p f xs in
    let kept = filter (λ (y : X). p (f y)) xs in
    ⊎_elim
    (λ passes. cond-true (p (f x)) (f x ∷ filter p (map f xs)) (filter p (map f xs)) passes
    ∙ ap (λ (l : List Y). f x ∷ l) more
    ∙ sym (ap (map f) (cond-true (p (f x)) (x ∷ kept) kept passes)))
    (λ fails. cond-false (p (f x)) (f x ∷ filter p (map f xs)) (filter p (map f xs)) fails
    ∙ more
    ∙ sym (ap (map f) (cond-false (p (f x)) (x ∷ kept) kept fails)))
    (cases_Bool (p (f x)))

take_of_take : {X : Type 0} (n : ℕ) (xs ys : List X) → take n (take n xs ++ ys) ≡ take n (xs ++ ys)
take_of_take zero xs ys = refl
take_of_take (suc n) [] ys = refl
take_of_take (suc n) (x ∷ xs) ys = ap (λ l. x ∷ l) (take_of_take n xs ys)

-- the places after an offset
following_is : (off : ℕ) (links : List (ℕ × Link))
    → entries_between nat_cmp (Excluded off) Unbounded links
    ≡ filter (λ link. nat_lt off link.0) links
following_is off links =
    filter_agree (λ link. is_lt (nat_cmp off link.0) && true) (λ link. nat_lt off link.0)
    (λ link. is_below off link.0) links
  where
    is_below : (a b : ℕ) → (is_lt (nat_cmp a b) && true) ≡ nat_lt a b
    is_below a b =
        elim (nat_lt a b) as
        (λ t. (is_lt (cond t Less (cond (a == b) Equal Greater)) && true) ≡ t) [
          | true ↦ refl
          | false ↦
              elim (a == b) as (λ t. (is_lt (cond t Equal Greater) && true) ≡ false)
              [ true ↦ refl | false ↦ refl ]
        ]

-- what a directory holds
abbrev pub items_in : (number : ℕ) → Node → List Item
items_in n node = dot_items n node.parent ++ map link_item node.children.links

module _ (n off most : ℕ) (directory : Node) where
  abbrev all_after : List Item
  all_after = filter (λ item. nat_lt off item.offset) (items_in n directory)

  -- the first two, and the links after the offset
  pub listing_begins : (items : List Item) (left : List (ℕ × Link))
      → items ≡ take most (filter (λ item. nat_lt off item.offset) (dot_items n directory.parent))
      → left ≡ entries_between nat_cmp (Excluded off) Unbounded directory.children.links
      → take most (items ++ map link_item left) ≡ take most all_after
  listing_begins items left dots links =
      let p = λ (item : Item). nat_lt off item.offset in
      let first = filter p (dot_items n directory.parent) in
      ap (λ l. take most (l ++ map link_item left)) dots
      ∙ take_of_take most first (map link_item left)
      ∙ ap (λ l. take most (first ++ l))
      (ap (map link_item) (links ∙ following_is off directory.children.links)
      ∙ sym (filter_of_map p link_item directory.children.links))
      ∙ ap (take most) (sym (filter-append p (dot_items n directory.parent)
      (map link_item directory.children.links)))
