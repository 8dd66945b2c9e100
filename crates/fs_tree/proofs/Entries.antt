-- What is found of a key, where entries were changed, added or taken out.
use Rattle.std.proofs.Common.{◌≡◌, Bool, true, false, cond, List, [], ◌∷◌, Some, None, is_eq, Ordering, Less, Equal, Greater, refl, sym, ap, ◌∙◌}
use Rattle.std.proofs.lemmas.Cmp.{alike_right, tied_itself}
use Rattle.std.specs.BTreeMap.{insert_entry, is_at}
use Rattle.std.specs.Cmp.{IsTotalOrder}
use Rattle.std.specs.Map.{lookup, set_value, remove_entry}
use Rattle.std.specs.Ordering.{match_ordering}

-- ---- any keys

module _ {K X : Type 0} (test other : K → Bool) where
  -- what is not found is not found where a value was set
  pub lookup-set_value_none : (es : List (K × X)) (w : X) → lookup test es ≡ None
      → lookup test (set_value other es w) ≡ None
  lookup-set_value_none [] w none = refl
  lookup-set_value_none (e ∷ es) w none =
      by (test e.0) (other e.0) refl none (lookup-set_value_none es w)
    where
      by : (t o : Bool) → test e.0 ≡ t → cond t (Some e.1) (lookup test es) ≡ None
          → (lookup test es ≡ None → lookup test (set_value other es w) ≡ None)
          → lookup test (cond o ((e.0, w) ∷ es) (e ∷ set_value other es w)) ≡ None
      by true o is none later = cc
      by false true is none later = rw is none
      by false false is none later = rw is (later none)

  module _ (apart : (k : K) → other k ≡ true → test k ≡ false) where
    -- a value that is set at another key
    pub lookup-set_value_apart : (es : List (K × X)) (w : X)
        → lookup test (set_value other es w) ≡ lookup test es
    lookup-set_value_apart [] w = refl
    lookup-set_value_apart (e ∷ es) w = by (other e.0) refl (lookup-set_value_apart es w)
      where
        by : (o : Bool) → other e.0 ≡ o → lookup test (set_value other es w) ≡ lookup test es
            → lookup test (cond o ((e.0, w) ∷ es) (e ∷ set_value other es w))
            ≡ cond (test e.0) (Some e.1) (lookup test es)
        by true is later = rw (apart e.0 is)
        by false is later = ap (cond (test e.0) (Some e.1)) later

    -- an entry of another key that is taken out
    pub lookup-remove_entry_apart : (es : List (K × X))
        → lookup test (remove_entry other es) ≡ lookup test es
    lookup-remove_entry_apart [] = refl
    lookup-remove_entry_apart (e ∷ es) = by (other e.0) refl (lookup-remove_entry_apart es)
      where
        by : (o : Bool) → other e.0 ≡ o → lookup test (remove_entry other es) ≡ lookup test es
            → lookup test (cond o es (e ∷ remove_entry other es))
            ≡ cond (test e.0) (Some e.1) (lookup test es)
        by true is later = rw (apart e.0 is)
        by false is later = ap (cond (test e.0) (Some e.1)) later

module _ {K X : Type 0} (test : K → Bool) where
  -- the value that was set
  pub lookup-set_value_here : (es : List (K × X)) (v w : X) → lookup test es ≡ Some v
      → lookup test (set_value test es w) ≡ Some w
  lookup-set_value_here [] v w is = cc
  lookup-set_value_here (e ∷ es) v w is =
      by (test e.0) refl is (lookup-set_value_here es v w)
    where
      by : (t : Bool) → test e.0 ≡ t → cond t (Some e.1) (lookup test es) ≡ Some v
          → (lookup test es ≡ Some v → lookup test (set_value test es w) ≡ Some w)
          → lookup test (cond t ((e.0, w) ∷ es) (e ∷ set_value test es w)) ≡ Some w
      by true here is later = rw here
      by false here is later = rw here (later is)

-- ---- keys in an order

module _ {K X : Type 0} {R : K → K → Ordering} (o : IsTotalOrder R) (k : K) (v : X) where
  here : is_eq (R k k) ≡ true
  here = ap is_eq (tied_itself o k)

  -- an entry that is added
  pub lookup-insert_entry : (es : List (K × X))
      → lookup (is_at (R k)) (insert_entry R es k v) ≡ Some v
  lookup-insert_entry [] = rw here
  lookup-insert_entry (e ∷ es) = by (R k e.0) refl (lookup-insert_entry es)
    where
      by : (r : Ordering) → R k e.0 ≡ r → lookup (is_at (R k)) (insert_entry R es k v) ≡ Some v
          → lookup (is_at (R k))
          (match_ordering r ((k, v) ∷ e ∷ es) ((e.0, v) ∷ es) (e ∷ insert_entry R es k v))
          ≡ Some v
      by Less is later = rw here
      by Equal is later = rw is
      by Greater is later = rw is later

  -- another key
  pub lookup-insert_entry_apart : (q : K) → is_eq (R q k) ≡ false → (es : List (K × X))
      → lookup (is_at (R q)) (insert_entry R es k v) ≡ lookup (is_at (R q)) es
  lookup-insert_entry_apart q apart [] = rw apart
  lookup-insert_entry_apart q apart (e ∷ es) =
      by (R k e.0) refl (lookup-insert_entry_apart q apart es)
    where
      by : (r : Ordering) → R k e.0 ≡ r
          → lookup (is_at (R q)) (insert_entry R es k v) ≡ lookup (is_at (R q)) es
          → lookup (is_at (R q))
          (match_ordering r ((k, v) ∷ e ∷ es) ((e.0, v) ∷ es) (e ∷ insert_entry R es k v))
          ≡ cond (is_eq (R q e.0)) (Some e.1) (lookup (is_at (R q)) es)
      by Less is later = rw apart
      by Equal is later =
          let other : is_eq (R q e.0) ≡ false =
          ap is_eq (sym (alike_right o k e.0 q is)) ∙ apart in
          rw other
      by Greater is later = ap (cond (is_eq (R q e.0)) (Some e.1)) later

  -- a new entry that is taken out again
  pub remove_entry-insert_entry : (es : List (K × X)) → lookup (is_at (R k)) es ≡ None
      → remove_entry (is_at (R k)) (insert_entry R es k v) ≡ es
  remove_entry-insert_entry [] new = rw here
  remove_entry-insert_entry (e ∷ es) new =
      by (R k e.0) refl new (remove_entry-insert_entry es)
    where
      by : (r : Ordering) → R k e.0 ≡ r
          → cond (is_eq r) (Some e.1) (lookup (is_at (R k)) es) ≡ None
          → (lookup (is_at (R k)) es ≡ None
          → remove_entry (is_at (R k)) (insert_entry R es k v) ≡ es)
          → remove_entry (is_at (R k))
          (match_ordering r ((k, v) ∷ e ∷ es) ((e.0, v) ∷ es) (e ∷ insert_entry R es k v))
          ≡ e ∷ es
      by Less is new later = rw here
      by Equal is new later = cc
      by Greater is new later = rw is (ap (λ l. e ∷ l) (later new))
