-- The places of names, after a change of the links.
use Rattle.std.proofs.Common.{◌≡◌, ℕ, true, false, cond, not, List, ◌∷◌, map, find, filter, Some, None, option_map, bytes_eq, refl, ap}
use Rattle.std.specs.Cmp.Lexicographic.{nat_list_eq_equiv}
use Rattle.std.proofs.lemmas.Bool.{cond-true, cond-false}
use Rattle.vfs_files.proofs.Indexes.{other_name, turned_name}
use Rattle.fs_nodes.specs.Children.{Link, is_named, relinked}
use Rattle.fs_nodes.specs.Index.{place_named}
use Rattle.fs_nodes.specs.declared.children.Child.{Child}
use Rattle.fs_nodes.proofs.Finds.{find_filtered, find_filter_other, find_map}

module _ (links : List (ℕ × Link)) (name : List ℕ) where
  pub place_added : (place : ℕ) (child : Child)
      → place_named ((place, record { name = name; child = child }) ∷ links) name ≡ Some place
  place_added place child =
      let link : ℕ × Link = (place, record { name = name; child = child }) in
      ap (option_map (λ link. link.0))
      (cond-true (is_named name link) (Some link) (find (is_named name) links)
      (nat_list_eq_equiv.refl name))

  pub place_added_other : (place : ℕ) (child : Child) (other : List ℕ)
      → bytes_eq name other ≡ false
      → place_named ((place, record { name = name; child = child }) ∷ links) other
      ≡ place_named links other
  place_added_other place child other apart =
      let link : ℕ × Link = (place, record { name = name; child = child }) in
      ap (option_map (λ link. link.0))
      (cond-false (is_named other link) (Some link) (find (is_named other) links) apart)

  pub place_removed : place_named (filter (λ link. not (is_named name link)) links) name ≡ None
  place_removed = ap (option_map (λ link. link.0)) (find_filtered (is_named name) links)

  pub place_removed_other : (other : List ℕ) → bytes_eq name other ≡ false
      → place_named (filter (λ link. not (is_named name link)) links) other
      ≡ place_named links other
  place_removed_other other apart =
      ap (option_map (λ link. link.0))
      (find_filter_other (is_named name) (is_named other)
      (λ link hit. turned_name name link.1.name false
      (other_name other name link.1.name (turned_name name other false apart)
      (turned_name link.1.name other true hit))) links)

  pub relinked_place : (child : Child) (link : ℕ × Link) → (relinked name child link).0 ≡ link.0
  relinked_place child link =
      elim (is_named name link) as
      (λ t. (cond t (link.0, record link.1 { child = child }) link).0 ≡ link.0)
      [ true ↦ refl | false ↦ refl ]

  pub relinked_name : (child : Child) (link : ℕ × Link)
      → (relinked name child link).1.name ≡ link.1.name
  relinked_name child link =
      elim (is_named name link) as
      (λ t. (cond t (link.0, record link.1 { child = child }) link).1.name ≡ link.1.name)
      [ true ↦ refl | false ↦ refl ]

  pub place_relinked : (child : Child) (other : List ℕ)
      → place_named (map (relinked name child) links) other ≡ place_named links other
  place_relinked child other =
      find_map (is_named other) (relinked name child) (λ link. link.0)
      (λ link. ap (λ l. bytes_eq l other) (relinked_name child link))
      (λ link. relinked_place child link) links
