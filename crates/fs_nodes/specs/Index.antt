-- How the names of a directory are kept: in order of their places, and an index of these by name.
use Rattle.std.specs.Prelude.{◌≡◌, ℕ, ◌<◌, ◌^◌, false, ⊤, List, [], ◌∷◌, Option, option_map, find, Vec}
use Rattle.std.specs.List.{AllByRecursion}
use Rattle.std.specs.Ordering.{nat_cmp}
use Rattle.std.specs.Cmp.Lexicographic.{slice_cmp}
use Rattle.std.specs.BTreeMap.{BTreeMap, get_by}
use Rattle.std.specs.declared.alloc.Global.{Global}
use Rattle.fs_nodes.specs.Children.{Link, is_named, directories_of}

-- the place of a name
abbrev pub place_named : List (ℕ × Link) → (name : List ℕ) → Option ℕ
place_named links name = option_map (λ link. link.0) (find (is_named name) links)

-- the place that the index has for a name
abbrev pub place_of : BTreeMap (Vec ℕ Global) ℕ → (name : List ℕ) → Option ℕ
place_of places name = get_by (λ key. slice_cmp nat_cmp name key.items) places

-- a link that lies after a place and has another name
abbrev pub IsAfter : (place : ℕ) → (name : List ℕ) → (ℕ × Link) → Type 0
IsAfter place name link = (place < link.0) × (is_named name link ≡ false)

-- links in order of their places, and no name twice
abbrev pub AreInOrder : List (ℕ × Link) → Type 0
AreInOrder [] = ⊤
AreInOrder (link ∷ links) = AllByRecursion (IsAfter link.0 link.1.name) links × AreInOrder links

-- what holds of the links and the index of a directory: the places are in order, after that of the next
-- name and below 2 ^ 63, the index has each name that is there and no other, and directories are counted
pub record AreIndexed
    (links : List (ℕ × Link)) (places : BTreeMap (Vec ℕ Global) ℕ) (next directories : ℕ)
    : Type 0 where
  pub order : AreInOrder links
  pub following : AllByRecursion (λ link. next < link.0) links
  pub within : AllByRecursion (λ link. link.0 < 2 ^ 63) links
  pub room : next < 2 ^ 63
  pub index : (name : List ℕ) → place_of places name ≡ place_named links name
  pub count : directories ≡ directories_of links
