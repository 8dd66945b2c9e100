-- Extended attributes of a node: pairs of a name and a value, in order of the names.
use Rattle.std.specs.Prelude.{ℕ, ◌+◌, ◌||◌, Bool, not, nat_eq, codes, List, [], ◌∷◌, ◌++◌, length, map, Option, sum_by, flat_map, Vec, if◌then◌else◌}
use Rattle.std.specs.List.{starts_with}
use Rattle.std.specs.Ordering.{nat_cmp}
use Rattle.std.specs.Cmp.Lexicographic.{slice_cmp}
use Rattle.std.specs.List.Sorted.{IsStrictlySortedBy}
use Rattle.std.specs.Map.{keys_of, lookup, remove_entry}
use Rattle.std.specs.BTreeMap.{insert_entry, is_at}
use Rattle.std.specs.declared.alloc.Global.{Global}

abbrev pub Xattr : Type 0
Xattr = List ℕ × List ℕ

-- each name is below those after it, by its bytes: so there is none twice
abbrev pub AreInOrder : List Xattr → Type 0
AreInOrder xattrs = IsStrictlySortedBy (slice_cmp nat_cmp) (keys_of xattrs)

-- the value of this name
abbrev pub xattr_named : List Xattr → (name : List ℕ) → Option (List ℕ)
xattr_named xattrs name = lookup (is_at (slice_cmp nat_cmp name)) xattrs

-- how many bytes one takes: its name, its value, and 128 for its place
abbrev pub attribute_bytes : Xattr → ℕ
attribute_bytes xattr = length xattr.0 + length xattr.1 + 128

abbrev pub xattr_bytes : List Xattr → ℕ
xattr_bytes xattrs = sum_by attribute_bytes xattrs

-- without this name
abbrev pub without_xattr : List Xattr → (name : List ℕ) → List Xattr
without_xattr xattrs name = remove_entry (is_at (slice_cmp nat_cmp name)) xattrs

-- with this value of this name, in its place
abbrev pub with_xattr : List Xattr → (name value : List ℕ) → List Xattr
with_xattr xattrs name value = insert_entry (slice_cmp nat_cmp) xattrs name value

-- a name as it is listed, with a 0 after it. One of `trusted.` is not listed to others than root
abbrev pub listed : (to_other : Bool) → (name : List ℕ) → List ℕ
listed to_other name =
    if not to_other || not (starts_with nat_eq name (codes "trusted.")) then name ++ 0 ∷ [] else []

-- the names that are listed
abbrev pub name_list : (to_other : Bool) → List Xattr → List ℕ
name_list to_other xattrs = flat_map (λ xattr. listed to_other xattr.0) xattrs

-- those of a map's entries
abbrev pub xattrs_of : List (Vec ℕ Global × Vec ℕ Global) → List Xattr
xattrs_of entries = map (λ e. (e.0.items, e.1.items)) entries
