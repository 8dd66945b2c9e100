-- A map by names that is the index of a list: it has for each name what the list has, also after a
-- change of one name.
use Rattle.std.proofs.Common.{◌≡◌, ℕ, Bool, true, false, List, Option, Some, None, option_map, bytes_eq, nat_cmp, is_eq, Vec, Global, BTreeMap, refl, sym, ap, ◌∙◌, subst, ⊎_elim}
use Rattle.std.specs.Cmp.{eq_by_cmp_equiv}
use Rattle.std.specs.Cmp.Lexicographic.{slice_cmp, bytes_decides, nat_list_cmp_total, nat_list_eq_equiv}
use Rattle.std.specs.Map.{lookup, KeepsOthers}
use Rattle.std.specs.BTreeMap.{UpdatesBy, get_by}
use Rattle.std.proofs.lemmas.Bool.{cases_Bool}
use Rattle.std.proofs.lemmas.Map.Text.{is_eq-slice_cmp}
use Rattle.std.proofs.lemmas.Option.{none-some, same_Some}

-- ---- names

-- two names, and a third that is one of them
pub other_name : (a b c : List ℕ) → bytes_eq a b ≡ false → bytes_eq a c ≡ true
    → bytes_eq b c ≡ false
other_name a b c apart same =
    nat_list_eq_equiv.symm b c ∙ sym (nat_list_eq_equiv.congr a c b same) ∙ apart

pub same_name : (a b : List ℕ) → bytes_eq a b ≡ true → a ≡ b
same_name a b same = (bytes_decides a b).0 same

pub turned_name : (a b : List ℕ) (t : Bool) → bytes_eq a b ≡ t → bytes_eq b a ≡ t
turned_name a b t is = nat_list_eq_equiv.symm b a ∙ is

-- ---- what is read of an element that was found

pub mapped_some : {X Y : Type 0} (f : X → Y) (o : Option X) (y : Y) → option_map f o ≡ Some y
    → (x : X) × (o ≡ Some x) × (f x ≡ y)
mapped_some f None y is = absurd (none-some y is)
mapped_some f (Some x) y is = (x, refl, same_Some (f x) y is)

pub mapped_none : {X Y : Type 0} (f : X → Y) (o : Option X) → option_map f o ≡ None → o ≡ None
mapped_none f None is = refl
mapped_none f (Some x) is = absurd (none-some (f x) (sym is))

-- ---- the index

-- what a map has for a name
abbrev at_name : BTreeMap (Vec ℕ Global) ℕ → (name : List ℕ) → Option ℕ
at_name map name = get_by (λ key. slice_cmp nat_cmp name key.items) map

module _ (old new : BTreeMap (Vec ℕ Global) ℕ) (was : (name : List ℕ) → Option ℕ)
    (index : (name : List ℕ) → at_name old name ≡ was name) where
  -- another map with the same names
  pub index_same : new.entries ≡ old.entries → (name : List ℕ) → at_name new name ≡ was name
  index_same same name =
      ap (λ es. lookup (λ key. is_eq (slice_cmp nat_cmp name key.items)) es) same ∙ index name

  -- one name has another number, or none
  module _ (name : List ℕ) (w : Option ℕ) where
    kept : KeepsOthers (λ x y. is_eq (slice_cmp nat_cmp x.items y.items))
        (λ key. is_eq (slice_cmp nat_cmp name key.items)) old.entries new.entries
        → (other : List ℕ) → bytes_eq name other ≡ false → at_name new other ≡ at_name old other
    unfolding KeepsOthers
    kept keeps other apart =
        keeps (λ key. is_eq (slice_cmp nat_cmp other key.items))
        (λ x y. (eq_by_cmp_equiv nat_list_cmp_total).congr other x.items y.items)
        (λ key hit. is_eq-slice_cmp other key.items
        ∙ other_name name other key.items apart (sym (is_eq-slice_cmp name key.items) ∙ hit))

    pub index_changed : UpdatesBy (λ x y. slice_cmp nat_cmp x.items y.items)
        (λ key. slice_cmp nat_cmp name key.items) old new w
        → (now : (name : List ℕ) → Option ℕ) → now name ≡ w
        → ((other : List ℕ) → bytes_eq name other ≡ false → now other ≡ was other)
        → (other : List ℕ) → at_name new other ≡ now other
    index_changed updates now here others other =
        ⊎_elim
        (λ passes. subst (λ (l : List ℕ). at_name new l ≡ now l) (same_name name other passes)
        (updates.1 ∙ sym here))
        (λ fails. kept updates.3 other fails ∙ index other ∙ sym (others other fails))
        (cases_Bool (bytes_eq name other))
