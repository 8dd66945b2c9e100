-- That each node that is not idle is among those that may be held.
use Rattle.std.proofs.Common.{◌≡◌, ◌≢◌, ◌≤◌, ◌+◌, ◌==◌, ◌&&◌, ◌||◌, not, ℕ, Bool, true, false, cond, List, Option, Some, None, is_none, is_some, refl, sym, ap, ◌∙◌, subst, nat_cmp, ⊎_elim}
use Rattle.std.specs.Map.{lookup, set_value}
use Rattle.std.specs.BTreeMap.{is_at}
use Rattle.std.proofs.lemmas.Bool.{cases_Bool, cases_eq, cond-true, cond-false, eqb-true, eq-eqb}
use Rattle.fs_nodes.specs.Held.{may_hold}
use Rattle.fs_nodes.specs.declared.node.Node.{Node}
use Rattle.fs_tree.specs.Holding.{IsSound, is_idle, rests}
use Rattle.fs_tree.proofs.Entries.{lookup-set_value_here, lookup-set_value_apart, lookup-set_value_none}
use Rattle.fs_tree.proofs.Nodes.{is_at_same, is_at_other, tests_apart}
use Rattle.fs_tree.proofs.Releasing.{at_itself}

-- ---- truth values

no_or : (a b c : Bool) → (a || b || c) ≡ false → (a ≡ false) × (b ≡ false)
no_or false false c is = (refl, refl)
no_or false true c is = cc is
no_or true b c is = cc is

unlike : (b : Bool) (n m : ℕ) → n ≡ m → (b && n == m) ≡ false → b ≡ false
unlike false n m same is = refl
unlike true n m same is = sym (eq-eqb n m same) ∙ is

-- what may be held no more could not before, or was passed
passed : (a b c d : Bool) (P : Type 0) → (a && not (b && c && d)) ≡ false
    → (a ≡ false → P) → (c ≡ true → d ≡ true → P) → P
passed false b c d P is before now = before refl
passed true true true true P is before now = now refl refl
passed true true true false P is before now = cc is
passed true true false d P is before now = cc is
passed true false c d P is before now = cc is

unheld : (lookups : ℕ) (named : Bool) → (lookups == 0 && named) ≡ true → (lookups == 0) ≡ true
unheld lookups named is = by (lookups == 0) is
  where
    by : (b : Bool) → (b && named) ≡ true → b ≡ true
    by true is = refl
    by false is = cc is

-- ---- one entry is another

abbrev pub found : List (ℕ × Node) → (number : ℕ) → Option Node
found es m = lookup (is_at (nat_cmp m)) es

-- a value that is set
found_set : (n : ℕ) (es : List (ℕ × Node)) (was now : Node) → found es n ≡ Some was → (m : ℕ)
    → found (set_value (is_at (nat_cmp n)) es now) m
    ≡ cond (is_at (nat_cmp n) m) (Some now) (found es m)
found_set n es was now is m =
    ⊎_elim
    (λ (same : m ≡ n).
    subst (λ (k : ℕ). found (set_value (is_at (nat_cmp n)) es now) k
    ≡ cond (is_at (nat_cmp n) k) (Some now) (found es k)) (sym same)
    (lookup-set_value_here (is_at (nat_cmp n)) es was now is
    ∙ sym (cond-true (is_at (nat_cmp n) n) (Some now) (found es n) (at_itself n))))
    (λ (apart : m ≢ n).
    lookup-set_value_apart (is_at (nat_cmp m)) (is_at (nat_cmp n)) (tests_apart m n apart) es now
    ∙ sym (cond-false (is_at (nat_cmp n) m) (Some now) (found es m)
    (is_at_other n m (λ e. apart (sym e)))))
    (cases_eq m n)

-- one as idle as the one before changes nothing of what is idle
pub rests_same : (n : ℕ) (es : List (ℕ × Node)) (was now : Node) → found es n ≡ Some was
    → is_idle now ≡ is_idle was → (m : ℕ)
    → rests (found (set_value (is_at (nat_cmp n)) es now) m) ≡ rests (found es m)
rests_same n es was now is same m =
    ap rests (found_set n es was now is m)
    ∙ ⊎_elim
    (λ (here : is_at (nat_cmp n) m ≡ true).
    ap rests (cond-true (is_at (nat_cmp n) m) (Some now) (found es m) here)
    ∙ same
    ∙ sym (ap rests (subst (λ (k : ℕ). found es k ≡ Some was) (is_at_same n m here) is)))
    (λ (other : is_at (nat_cmp n) m ≡ false).
    ap rests (cond-false (is_at (nat_cmp n) m) (Some now) (found es m) other))
    (cases_Bool (is_at (nat_cmp n) m))

module _ (next n : ℕ) (old new : Option (List ℕ)) (es : List (ℕ × Node)) (sound : IsSound next old es) where
  -- what is found of a number is this now
  noted_at : (left : List (ℕ × Node)) (w : Option Node)
      → ((m : ℕ) → found left m ≡ cond (is_at (nat_cmp n) m) w (found es m))
      → ((m : ℕ) → m ≢ n → may_hold new m ≡ false → may_hold old m ≡ false)
      → (may_hold new n ≡ false → rests w ≡ true)
      → (m : ℕ) → may_hold new m ≡ false → rests (found left m) ≡ true
  noted_at left w updates others here m none =
      ⊎_elim
      (λ (same : m ≡ n).
      let at : found left n ≡ w =
      updates n ∙ cond-true (is_at (nat_cmp n) n) w (found es n) (at_itself n) in
      subst (λ (k : ℕ). rests (found left k) ≡ true) (sym same)
      (ap rests at ∙ here (subst (λ (k : ℕ). may_hold new k ≡ false) same none)))
      (λ (apart : m ≢ n).
      ap rests (updates m ∙ cond-false (is_at (nat_cmp n) m) w (found es m)
      (is_at_other n m (λ e. apart (sym e))))
      ∙ sound.noted m (others m apart none))
      (cases_eq m n)

  module _ (was now : Node) (is : found es n ≡ Some was) where
    sound_set : (left : List (ℕ × Node)) → left ≡ set_value (is_at (nat_cmp n)) es now
        → ((m : ℕ) → m ≢ n → may_hold new m ≡ false → may_hold old m ≡ false)
        → (may_hold new n ≡ false → is_idle now ≡ true)
        → IsSound next new left
    sound_set left is_set others here = subst (λ (l : List (ℕ × Node)). IsSound next new l) (sym is_set) (record {
      free = λ m up.
          lookup-set_value_none (is_at (nat_cmp m)) (is_at (nat_cmp n)) es now (sound.free m up);
      noted = noted_at (set_value (is_at (nat_cmp n)) es now) (Some now) (found_set n es was now is)
          others here;
    })

    -- a lookup more is held of it
    pub sound_noted : (left : List (ℕ × Node)) → left ≡ set_value (is_at (nat_cmp n)) es now
        → ((m : ℕ) → may_hold new m
        ≡ (may_hold old m || (was.lookups == 0 && m == n) || is_none new))
        → IsSound next new left
    sound_noted left is_set notes =
        sound_set left is_set
        (λ m apart none.
        (no_or (may_hold old m) (was.lookups == 0 && m == n) (is_none new) (sym (notes m) ∙ none)).0)
        (λ none.
        let parts = no_or (may_hold old n) (was.lookups == 0 && n == n) (is_none new)
        (sym (notes n) ∙ none) in
        let held : (was.lookups == 0) ≡ false = unlike (was.lookups == 0) n n refl parts.1 in
        let idle : is_idle was ≡ true = sym (ap rests is) ∙ sound.noted n parts.0 in
        let free : (was.lookups == 0) ≡ true = unheld was.lookups (not (was.names == 0)) idle in
        cc (sym free ∙ held))

    -- lookups of it are taken back
    pub sound_passed : (left : List (ℕ × Node)) → left ≡ set_value (is_at (nat_cmp n)) es now
        → (idle : Bool) → ((m : ℕ) → may_hold new m
        ≡ (may_hold old m && not (is_some old && idle && m == n)))
        → (idle ≡ true → is_idle now ≡ true) → (is_idle was ≡ true → is_idle now ≡ true)
        → IsSound next new left
    sound_passed left is_set idle passes here stays =
        sound_set left is_set
        (λ m apart none.
        passed (may_hold old m) (is_some old) idle (m == n) (may_hold old m ≡ false) (sym (passes m) ∙ none)
        (λ before. before) (λ it same. absurd (apart (eqb-true m n same))))
        (λ none.
        passed (may_hold old n) (is_some old) idle (n == n) (is_idle now ≡ true) (sym (passes n) ∙ none)
        (λ before. stays (sym (ap rests is) ∙ sound.noted n before))
        (λ it same. here it))

-- a node stays idle where it was
pub sound_same : (next n : ℕ) (held : Option (List ℕ)) (es left : List (ℕ × Node)) (was now : Node)
    → IsSound next held es → lookup (is_at (nat_cmp n)) es ≡ Some was
    → left ≡ set_value (is_at (nat_cmp n)) es now
    → (is_idle was ≡ true → is_idle now ≡ true)
    → IsSound next held left
sound_same next n held es left was now sound is is_set stays =
    sound_set next n held held es sound was now is left is_set (λ m apart none. none)
    (λ none. stays (sym (ap rests is) ∙ sound.noted n none))

-- a new node is there, and others are as idle as they were
pub sound_new : (next : ℕ) (old new : Option (List ℕ)) (es left : List (ℕ × Node)) (node : Node)
    → IsSound next old es
    → ((m : ℕ) → rests (found left m) ≡ rests (cond (is_at (nat_cmp next) m) (Some node) (found es m)))
    → ((m : ℕ) → next + 1 ≤ m → found left m ≡ None)
    → ((m : ℕ) → may_hold new m ≡ (may_hold old m || (not (is_idle node) && m == next) || is_none new))
    → IsSound (next + 1) new left
sound_new next old new es left node sound updates free notes = record { free = free; noted = noted }
  where
    noted : (m : ℕ) → may_hold new m ≡ false → rests (found left m) ≡ true
    noted m none =
        let parts = no_or (may_hold old m) (not (is_idle node) && m == next) (is_none new)
        (sym (notes m) ∙ none) in
        updates m ∙ ⊎_elim
        (λ (same : m ≡ next).
        ap rests (cond-true (is_at (nat_cmp next) m) (Some node) (found es m)
        (subst (λ (k : ℕ). is_at (nat_cmp next) k ≡ true) (sym same) (at_itself next)))
        ∙ idle (is_idle node) (unlike (not (is_idle node)) m next same parts.1))
        (λ (apart : m ≢ next).
        ap rests (cond-false (is_at (nat_cmp next) m) (Some node) (found es m)
        (is_at_other next m (λ e. apart (sym e))))
        ∙ sound.noted m parts.0)
        (cases_eq m next)
      where
        idle : (b : Bool) → not b ≡ false → b ≡ true
        idle true is = refl
        idle false is = cc is
