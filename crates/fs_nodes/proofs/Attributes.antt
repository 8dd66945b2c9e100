-- Extended attributes, one by one.
use Rattle.std.proofs.Common.{◌≡◌, ◌+◌, ◌≤◌, ◌||◌, ℕ, Bool, true, false, not, nat_eq, codes, if◌then◌else◌, List, [], ◌∷◌, ◌++◌, length, cond, Option, Some, None, option_map, Ordering, Less, Equal, Greater, is_eq, nat_cmp, refl, sym, ap, ◌∙◌, Vec, arith, length-append}
use Rattle.std.specs.Ordering.{match_ordering}
use Rattle.std.specs.Cmp.Lexicographic.{slice_cmp, nat_list_cmp_total}
use Rattle.std.specs.List.{AllByRecursion, starts_with}
use Rattle.std.specs.List.Sorted.{IsStrictlySortedBy}
use Rattle.std.specs.Map.{keys_of, lookup, remove_entry}
use Rattle.std.specs.BTreeMap.{insert_entry, is_at}
use Rattle.std.specs.declared.alloc.Global.{Global}
use Rattle.std.proofs.lemmas.List.Sums.{sum_by-cons}
use Rattle.std.proofs.lemmas.Map.Lookups.{exact_bytes}
use Rattle.fs_nodes.specs.Xattrs.{Xattr, AreInOrder, attribute_bytes, xattr_bytes, xattr_named, with_xattr, without_xattr, listed, name_list, xattrs_of}

-- the names are not longer than names and values
listed_fits : (b : Bool) (name : List ℕ)
    → length (if b then name ++ 0 ∷ [] else []) ≤ length name + 1
listed_fits true name = omega (arith, length-append name (0 ∷ []))
listed_fits false name = omega arith

pub names_fit : (to_other : Bool) (xattrs : List Xattr)
    → length (name_list to_other xattrs) ≤ xattr_bytes xattrs
names_fit to_other [] = omega arith
names_fit to_other (x ∷ xs) =
    omega (
      arith,
      sum_by-cons attribute_bytes x xs,
      names_fit to_other xs,
      length-append (listed to_other x.0) (name_list to_other xs),
      listed_fits (not to_other || not (starts_with nat_eq x.0 (codes "trusted."))) x.0,
    )

-- ---- as a map keeps them

abbrev Key : Type 0
Key = Vec ℕ Global

abbrev key_cmp : Key → Key → Ordering
key_cmp x y = slice_cmp nat_cmp x.items y.items

module _ (name : List ℕ) where
  abbrev finds : Key → Ordering
  finds key = slice_cmp nat_cmp name key.items

  pub named : (es : List (Key × Key))
      → xattr_named (xattrs_of es) name
      ≡ option_map (λ value. value.items) (lookup (is_at finds) es)
  named [] = refl
  named (e ∷ es) = by (named es) (finds e.0)
    where
      by : xattr_named (xattrs_of es) name
          ≡ option_map (λ value. value.items) (lookup (is_at finds) es) → (o : Ordering)
          → cond (is_eq o) (Some e.1.items) (xattr_named (xattrs_of es) name)
          ≡ option_map (λ value. value.items)
          (cond (is_eq o) (Some e.1) (lookup (is_at finds) es))
      by more Less = more
      by more Equal = refl
      by more Greater = more

  pub removed : (es : List (Key × Key))
      → without_xattr (xattrs_of es) name ≡ xattrs_of (remove_entry (is_at finds) es)
  removed [] = refl
  removed (e ∷ es) = by (removed es) (finds e.0)
    where
      left : List (Key × Key)
      left = remove_entry (is_at finds) es

      by : without_xattr (xattrs_of es) name ≡ xattrs_of left → (o : Ordering)
          → cond (is_eq o) (xattrs_of es)
          ((e.0.items, e.1.items) ∷ without_xattr (xattrs_of es) name)
          ≡ xattrs_of (cond (is_eq o) es (e ∷ left))
      by more Less = ap (λ l. (e.0.items, e.1.items) ∷ l) more
      by more Equal = refl
      by more Greater = ap (λ l. (e.0.items, e.1.items) ∷ l) more

pub inserted : (es : List (Key × Key)) (key value : Key)
    → with_xattr (xattrs_of es) key.items value.items
    ≡ xattrs_of (insert_entry key_cmp es key value)
inserted [] key value = refl
inserted (e ∷ es) key value = by (inserted es key value) (key_cmp key e.0)
  where
    first : Xattr
    first = (e.0.items, e.1.items)

    by : with_xattr (xattrs_of es) key.items value.items
        ≡ xattrs_of (insert_entry key_cmp es key value) → (o : Ordering)
        → match_ordering o ((key.items, value.items) ∷ first ∷ xattrs_of es)
        ((e.0.items, value.items) ∷ xattrs_of es)
        (first ∷ with_xattr (xattrs_of es) key.items value.items)
        ≡ xattrs_of (match_ordering o ((key, value) ∷ e ∷ es) ((e.0, value) ∷ es)
        (e ∷ insert_entry key_cmp es key value))
    by more Less = refl
    by more Equal = refl
    by more Greater = ap (λ l. first ∷ l) more

-- what was put in under a key
pub put_in : (old new : List (Key × Key)) (key value : Key) → new ≡ insert_entry key_cmp old key value
    → (xattrs : List Xattr) (name bytes : List ℕ) → xattrs_of old ≡ xattrs → key.items ≡ name
    → value.items ≡ bytes → xattrs_of new ≡ with_xattr xattrs name bytes
put_in old new key value put xattrs name bytes was named valued =
    ap xattrs_of put ∙ sym (inserted old key value)
    ∙ ap (λ n. with_xattr (xattrs_of old) n value.items) named
    ∙ ap (λ v. with_xattr (xattrs_of old) name v) valued
    ∙ ap (λ l. with_xattr l name bytes) was

above : (key : Key) (es : List (Key × Key))
    → AllByRecursion (λ other. key_cmp key other ≡ Less) (keys_of es)
    → AllByRecursion (λ other. slice_cmp nat_cmp key.items other ≡ Less) (keys_of (xattrs_of es))
above key [] all = tt
above key (e ∷ es) all = (all.0, above key es all.1)

pub in_order : (es : List (Key × Key)) → IsStrictlySortedBy key_cmp (keys_of es)
    → AreInOrder (xattrs_of es)
unfolding IsStrictlySortedBy
in_order [] order = tt
in_order (e ∷ es) order = (above e.0 es order.0, in_order es order.1)

-- ---- their bytes

-- how many bytes the one of this name takes
abbrev pub bytes_at : (name : List ℕ) → Option (List ℕ) → ℕ
bytes_at name None = 0
bytes_at name (Some value) = attribute_bytes (name, value)

pub bytes_removed : (xs : List Xattr) (name : List ℕ)
    → xattr_bytes (without_xattr xs name) + bytes_at name (xattr_named xs name) ≡ xattr_bytes xs
bytes_removed [] name = refl
bytes_removed (x ∷ xs) name = by (bytes_removed xs name) (slice_cmp nat_cmp name x.0) refl
  where
    by : xattr_bytes (without_xattr xs name) + bytes_at name (xattr_named xs name)
        ≡ xattr_bytes xs → (o : Ordering) → slice_cmp nat_cmp name x.0 ≡ o
        → xattr_bytes (cond (is_eq o) xs (x ∷ without_xattr xs name))
        + bytes_at name (cond (is_eq o) (Some x.1) (xattr_named xs name))
        ≡ xattr_bytes (x ∷ xs)
    by more Less is = omega (
      arith,
      more,
      sum_by-cons attribute_bytes x xs,
      sum_by-cons attribute_bytes x (without_xattr xs name),
    )
    by more Equal is = omega (
      arith,
      sum_by-cons attribute_bytes x xs,
      ap length (exact_bytes name x.0 is),
    )
    by more Greater is = omega (
      arith,
      more,
      sum_by-cons attribute_bytes x xs,
      sum_by-cons attribute_bytes x (without_xattr xs name),
    )

-- a name below the first is not there
not_below : (name first : List ℕ) (xs : List Xattr) → slice_cmp nat_cmp name first ≡ Less
    → AllByRecursion (λ other. slice_cmp nat_cmp first other ≡ Less) (keys_of xs)
    → xattr_named xs name ≡ None
not_below name first [] below above = refl
not_below name first (x ∷ xs) below above =
    ap (λ o. cond (is_eq o) (Some x.1) (xattr_named xs name))
    (nat_list_cmp_total.trans name first x.0 below above.0)
    ∙ not_below name first xs below above.1

pub bytes_set : (xs : List Xattr) (name value : List ℕ) → AreInOrder xs
    → xattr_bytes (with_xattr xs name value) + bytes_at name (xattr_named xs name)
    ≡ xattr_bytes xs + attribute_bytes (name, value)
unfolding IsStrictlySortedBy
bytes_set [] name value order = omega (arith, sum_by-cons attribute_bytes (name, value) [])
bytes_set (x ∷ xs) name value order =
    by (bytes_set xs name value order.1) order.0 (slice_cmp nat_cmp name x.0) refl
  where
    by : xattr_bytes (with_xattr xs name value) + bytes_at name (xattr_named xs name)
        ≡ xattr_bytes xs + attribute_bytes (name, value)
        → AllByRecursion (λ other. slice_cmp nat_cmp x.0 other ≡ Less) (keys_of xs)
        → (o : Ordering) → slice_cmp nat_cmp name x.0 ≡ o
        → xattr_bytes (match_ordering o ((name, value) ∷ x ∷ xs) ((x.0, value) ∷ xs)
        (x ∷ with_xattr xs name value))
        + bytes_at name (cond (is_eq o) (Some x.1) (xattr_named xs name))
        ≡ xattr_bytes (x ∷ xs) + attribute_bytes (name, value)
    by more after Less is = omega (
      arith,
      sum_by-cons attribute_bytes (name, value) (x ∷ xs),
      ap (bytes_at name) (not_below name x.0 xs is after),
    )
    by more after Equal is = omega (
      arith,
      sum_by-cons attribute_bytes x xs,
      sum_by-cons attribute_bytes (x.0, value) xs,
      ap length (exact_bytes name x.0 is),
    )
    by more after Greater is = omega (
      arith,
      more,
      sum_by-cons attribute_bytes x xs,
      sum_by-cons attribute_bytes x (with_xattr xs name value),
    )

-- ---- those of an entry that was looked up

module _ (es : List (Key × Key)) (name : List ℕ) where
  pub named_some : (value : Key) → lookup (is_at (finds name)) es ≡ Some value
      → xattr_named (xattrs_of es) name ≡ Some value.items
  named_some value is = named name es ∙ ap (option_map (λ (v : Key). v.items)) is

  pub named_none : lookup (is_at (finds name)) es ≡ None → xattr_named (xattrs_of es) name ≡ None
  named_none is = named name es ∙ ap (option_map (λ (v : Key). v.items)) is

  pub bytes_some : (value : Key) → lookup (is_at (finds name)) es ≡ Some value
      → attribute_bytes (name, value.items) ≤ xattr_bytes (xattrs_of es)
  bytes_some value is = omega (
    arith,
    bytes_removed (xattrs_of es) name,
    ap (bytes_at name) (named_some value is),
  )

  pub bytes_none : lookup (is_at (finds name)) es ≡ None
      → xattr_bytes (without_xattr (xattrs_of es) name) ≡ xattr_bytes (xattrs_of es)
  bytes_none is = omega (
    arith,
    bytes_removed (xattrs_of es) name,
    ap (bytes_at name) (named_none is),
  )

  pub bytes_left : (value : Key) → lookup (is_at (finds name)) es ≡ Some value
      → xattr_bytes (without_xattr (xattrs_of es) name) + attribute_bytes (name, value.items)
      ≡ xattr_bytes (xattrs_of es)
  bytes_left value is = omega (
    arith,
    bytes_removed (xattrs_of es) name,
    ap (bytes_at name) (named_some value is),
  )

-- the others, and this one with another value
pub bytes_with_it : (xattrs : List Xattr) (name value : List ℕ) → AreInOrder xattrs
    → xattr_bytes (with_xattr xattrs name value)
    ≡ xattr_bytes (without_xattr xattrs name) + attribute_bytes (name, value)
bytes_with_it xattrs name value order =
    omega (arith, bytes_set xattrs name value order, bytes_removed xattrs name)
