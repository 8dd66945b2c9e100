-- The books over turns, whatever options each has: each turn adds what it balances, and within a turn only
-- the last event gives back anything.
use Rattle.std.proofs.Common.{◌≡◌, ◌≢◌, ◌≤◌, ◌<◌, ◌+◌, ◌-◌, ℕ, zero, suc, List, [], ◌∷◌, ◌++◌, length, take, sum_by, refl, ap, ◌∙◌, ◌⊎◌, inl, inr, subst, arith, length-append}
use Rattle.std.proofs.lemmas.Bool.Decides.{nat_tests}
use Rattle.std.proofs.lemmas.List.{take_all, take-append-le}
use Rattle.std.proofs.lemmas.List.Sums.{sum_by-cons, sum_by-take-le}
use Rattle.vfs_files.specs.Runs.{Event}
use Rattle.vfs_grammar.specs.Turn.{Turn, IsTurn, AreTurns, events_in}
use Rattle.vfs_grammar.specs.declared.limits.Limits.{Limits}
use Rattle.vfs_grammar.specs.Books.{sent_by, answered, sent, delivered, accepted, KeepsBooks}
use Rattle.vfs_grammar.specs.Words.{AreBalanced, GivesBackWithin, NeverBelow}
use Rattle.laws_turns.proofs.OneTurn.{turn_books, turn_last}
use Rattle.laws_turns.proofs.Replying.{LastOnly}
use Rattle.laws_turns.proofs.Sums.{answered-append, sent-append}

-- turns, each under options of its own
abbrev pub AreEachTurns : Limits → List Turn → Type 0
AreEachTurns limits [] = Unit {0}
AreEachTurns limits (t ∷ ts) =
    ((options after : ℕ) × IsTurn limits options t after) × AreEachTurns limits ts

-- those in order are
pub are_each_turns : (limits : Limits) (options : ℕ) (turns : List Turn) (after : ℕ) → AreTurns limits options turns after → AreEachTurns limits turns
are_each_turns limits options [] after are = tt
are_each_turns limits options (t ∷ ts) after are = ((options, are.0, are.1), are_each_turns limits are.0 ts after are.2)

-- the beginning of two lists that goes past the first
take-append-ge : {X : Type 0} (k : ℕ) (xs ys : List X) → length xs ≤ k → take k (xs ++ ys) ≡ xs ++ take (k - length xs) ys
take-append-ge k [] ys h = let e : k - 0 ≡ k = omega arith in rw e refl
take-append-ge zero (x ∷ xs) ys h = absurd (omega arith)
take-append-ge (suc k) (x ∷ xs) ys h =
    let e : suc k - suc (length xs) ≡ k - length xs = omega arith in
    rw e (ap (λ l. x ∷ l) (take-append-ge k xs ys (omega arith)))

-- before its last event a turn gives back nothing
none_before : (n k : ℕ) (events : List Event) → LastOnly n events → k < length events → sent n (take k events) ≡ 0
none_before n k events l h =
    let long = ap length l.are in
    let sizes = length-append l.front l.last in
    let begins : take k events ≡ take k l.front =
    ap (take k) l.are ∙ take-append-le k l.front l.last (omega (arith, long, sizes, h, l.short)) in
    let few : sent n (take k l.front) ≤ sent n l.front = sum_by-take-le (sent_by n) l.front k in
    ap (sent n) begins ∙ omega (arith, few, l.none)

before_or_past : (k m : ℕ) → (k < m) ⊎ (m ≤ k)
before_or_past k m = grind (arith, nat_tests)

module _ (n : ℕ) (some : n ≢ 0) (limits : Limits) where
  pub turns_books : (turns : List Turn) → AreEachTurns limits turns → AreBalanced n turns
  turns_books [] are = refl
  turns_books (t ∷ ts) are =
      let one = turn_books n limits are.0.0 t are.0.1 some are.0.2 in
      let rest = turns_books ts are.1 in
      let a = answered-append n t.events (events_in ts) in
      let s = sent-append n t.events (events_in ts) in
      let g = sum_by-cons (accepted n) t ts in
      let d = sum_by-cons (delivered n) t ts in
      omega (arith, one, rest, a, s, g, d)

  -- where before these turns that much was answered (a), accepted (g), delivered (d) and sent (s)
  below_from : (turns : List Turn) → AreEachTurns limits turns
      → (a g d s : ℕ) → a + g ≡ d + s
      → ((k : ℕ) → g + sum_by (accepted n) (take k turns) ≤ d + sum_by (delivered n) (take k turns))
      → (k : ℕ) → s + sent n (take k (events_in turns)) ≤ a + answered n (take k (events_in turns))
  below_from [] are a g d s e within k =
      let w = within 0 in
      let none : take k (events_in []) ≡ [] = take_all k [] (omega arith) in
      rw none (omega (arith, w, e))
  below_from (t ∷ ts) are a g d s e within k =
      elim (before_or_past k (length t.events)) as (λ side. s + sent n (take k (events_in (t ∷ ts))) ≤ a + answered n (take k (events_in (t ∷ ts)))) [
        | inl before ↦
            let w = within 0 in
            let begins : take k (t.events ++ events_in ts) ≡ take k t.events = take-append-le k t.events (events_in ts) (omega (arith, before)) in
            let none = none_before n k t.events (turn_last n some limits are.0.0 t are.0.1 are.0.2) before in
            rw begins (omega (arith, w, e, none))
        | inr past ↦
            let m = k - length t.events in
            let one = turn_books n limits are.0.0 t are.0.1 some are.0.2 in
            let more = below_from ts are.1
            (a + answered n t.events) (g + accepted n t) (d + delivered n t) (s + sent n t.events) (omega (arith, one, e))
            (λ j.
            let w = within (suc j) in
            let g' = sum_by-cons (accepted n) t (take j ts) in
            let d' = sum_by-cons (delivered n) t (take j ts) in
            omega (arith, w, g', d'))
            m in
            let parts = take-append-ge k t.events (events_in ts) past in
            let x = answered-append n t.events (take m (events_in ts)) in
            let y = sent-append n t.events (take m (events_in ts)) in
            rw parts (omega (arith, more, x, y))
      ]

  pub never_below : (turns : List Turn) → AreEachTurns limits turns → GivesBackWithin n turns
      → NeverBelow n (events_in turns)
  never_below turns are within k =
      let r = below_from turns are 0 0 0 0 refl (λ j. let w = within j in omega (arith, w)) k in
      omega (arith, r)

-- the last of these turns, and the first
last_turns : (limits : Limits) (before last : List Turn) → AreEachTurns limits (before ++ last) → AreEachTurns limits last
last_turns limits [] last are = are
last_turns limits (t ∷ ts) last are = last_turns limits ts last are.1

first_turns : (limits : Limits) (first after : List Turn) → AreEachTurns limits (first ++ after) → AreEachTurns limits first
first_turns limits [] after are = tt
first_turns limits (t ∷ ts) after are = (are.0, first_turns limits ts after are.1)

pub keeps_books : (limits : Limits) (turns : List Turn) → AreEachTurns limits turns → KeepsBooks turns
keeps_books limits turns are = record {
  balanced = λ n some. turns_books n some limits turns are;
  never_below = λ before some after parts n counted within.
      let these = first_turns limits some after
      (last_turns limits before (some ++ after) (subst (AreEachTurns limits) parts are)) in
      never_below n counted limits some these within;
}
