-- The books of a client that had lookups to begin with: each turn adds what it balances, and within a
-- turn only the last event gives back anything.
use Rattle.std.proofs.Common.{◌≡◌, ◌≢◌, ◌≤◌, ◌<◌, ◌+◌, ◌-◌, ℕ, zero, suc, List, [], ◌∷◌, ◌++◌, length, take, sum_by, refl, ap, ◌∙◌, ◌⊎◌, inl, inr, arith, length-append}
use Rattle.std.proofs.lemmas.Bool.Decides.{nat_tests}
use Rattle.std.proofs.lemmas.List.{take_all, take-append-le}
use Rattle.std.proofs.lemmas.List.Sums.{sum_by-cons, sum_by-take-le}
use Rattle.vfs_files.specs.Runs.{Event}
use Rattle.vfs_grammar.specs.Turn.{Turn, AreTurns, events_in}
use Rattle.vfs_grammar.specs.declared.limits.Limits.{Limits}
use Rattle.vfs_grammar.specs.Books.{sent_by, answered, sent, delivered, accepted}
use Rattle.laws_turns.proofs.OneTurn.{turn_books, turn_last}
use Rattle.laws_turns.proofs.Replying.{LastOnly}
use Rattle.laws_turns.proofs.Sums.{answered-append, sent-append}
use Rattle.laws_history.specs.History.{GivesBackWithinHeld, NeverBelowHeld}

-- the beginning of two lists that goes past the first
take-append-ge : {X : Type 0} (k : ℕ) (xs ys : List X) → length xs ≤ k
    → take k (xs ++ ys) ≡ xs ++ take (k - length xs) ys
take-append-ge k [] ys h = let e : k - 0 ≡ k = omega arith in rw e refl
take-append-ge zero (x ∷ xs) ys h = absurd (omega arith)
take-append-ge (suc k) (x ∷ xs) ys h =
    let e : suc k - suc (length xs) ≡ k - length xs = omega arith in
    rw e (ap (λ l. x ∷ l) (take-append-ge k xs ys (omega arith)))

-- before its last event a turn gives back nothing
none_before : (n k : ℕ) (events : List Event) → LastOnly n events → k < length events
    → sent n (take k events) ≡ 0
none_before n k events l h =
    let long = ap length l.are in
    let sizes = length-append l.front l.last in
    let begins : take k events ≡ take k l.front =
    ap (take k) l.are ∙ take-append-le k l.front l.last (omega (arith, long, sizes, h, l.short)) in
    let few : sent n (take k l.front) ≤ sent n l.front = sum_by-take-le (sent_by n) l.front k in
    ap (sent n) begins ∙ omega (arith, few, l.none)

before_or_past : (k m : ℕ) → (k < m) ⊎ (m ≤ k)
before_or_past k m = grind (arith, nat_tests)

module _ (n : ℕ) (some : n ≢ 0) (limits : Limits) where
  -- of turns before which that much was answered (a), accepted (g), delivered (d) and sent (s)
  below_from : (options : ℕ) (turns : List Turn) (after : ℕ) → AreTurns limits options turns after
      → (a g d s : ℕ) → a + g ≡ d + s
      → ((k : ℕ) → g + sum_by (accepted n) (take k turns) ≤ d + sum_by (delivered n) (take k turns))
      → (k : ℕ) → s + sent n (take k (events_in turns)) ≤ a + answered n (take k (events_in turns))
  below_from options [] after are a g d s e within k =
      let w = within 0 in
      let none : take k (events_in []) ≡ [] = take_all k [] (omega arith) in
      rw none (omega (arith, w, e))
  below_from options (t ∷ ts) after are a g d s e within k =
      elim (before_or_past k (length t.events)) as (λ side. s + sent n (take k (events_in (t ∷ ts))) ≤ a + answered n (take k (events_in (t ∷ ts)))) [
        | inl before ↦
            let w = within 0 in
            let begins : take k (t.events ++ events_in ts) ≡ take k t.events = take-append-le k t.events (events_in ts) (omega (arith, before)) in
            let none = none_before n k t.events (turn_last n some limits options t are.0 are.1) before in
            rw begins (omega (arith, w, e, none))
        | inr past ↦
            let m = k - length t.events in
            let one = turn_books n limits options t are.0 some are.1 in
            let more = below_from are.0 ts after are.2
            (a + answered n t.events) (g + accepted n t) (d + delivered n t) (s + sent n t.events) (omega (arith, one, e))
            (λ j.
            let w = within (suc j) in
            let g' = sum_by-cons (accepted n) t (take j ts) in
            let d' = sum_by-cons (delivered n) t (take j ts) in
            omega (arith, w, g', d'))
            m in
            let parts = take-append-ge k t.events (events_in ts) past in
            let x = answered-append n t.events (take m (events_in ts)) in
            let y = sent-append n t.events (take m (events_in ts)) in
            rw parts (omega (arith, more, x, y))
      ]

  pub never_below_held : (held options : ℕ) (turns : List Turn) (after : ℕ)
      → AreTurns limits options turns after → GivesBackWithinHeld n held turns
      → NeverBelowHeld n held (events_in turns)
  never_below_held held options turns after are within k =
      let r = below_from options turns after are held 0 held 0 refl
      (λ j. let w = within j in omega (arith, w)) k in
      omega (arith, r)
