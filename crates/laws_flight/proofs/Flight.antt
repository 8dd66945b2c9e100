-- The turns in the order of their answers: each is one under the options that it was asked with.
use Rattle.std.proofs.Common.{◌≡◌, ℕ, List, [], ◌∷◌, ◌++◌, refl, sym, subst}
use Rattle.vfs_grammar.specs.Turn.{Turn, IsTurn, AreTurns}
use Rattle.vfs_grammar.specs.declared.limits.Limits.{Limits}
use Rattle.vfs_grammar.specs.Books.{KeepsBooks}
use Rattle.laws_turns.proofs.EachTurn.{kept}
use Rattle.laws_turns.proofs.InOrder.{AreEachTurns, keeps_books}
use Rattle.laws_flight.specs.Flight.{Waiting, Move, Begins, Completes, turns_answered, AreInFlight, IsAlone, AreAskedInTime}

are_each_turns : (limits : Limits) (waiting : List Waiting) (moves : List Move)
    → AreInFlight limits waiting moves → AreEachTurns limits (turns_answered moves)
are_each_turns limits waiting [] are = tt
are_each_turns limits waiting (Begins w ∷ moves) are =
    are_each_turns limits (w ∷ waiting) moves are
are_each_turns limits waiting (Completes w t after ∷ moves) are = (
  (w.options, after, are.3.turn),
  are_each_turns limits (are.0 ++ are.1) moves are.4,
)

pub keep_books : (limits : Limits) (waiting : List Waiting) (moves : List Move)
    → AreInFlight limits waiting moves → KeepsBooks (turns_answered moves)
keep_books limits waiting moves are =
    keeps_books limits (turns_answered moves) (are_each_turns limits waiting moves are)

-- ---- in order

-- each request that waits was asked under these options
abbrev AllUnder : (options : ℕ) → List Waiting → Type 0
AllUnder options [] = Unit {0}
AllUnder options (w ∷ ws) = (w.options ≡ options) × AllUnder options ws

under_parts : (options : ℕ) (before : List Waiting) (w : Waiting) (following : List Waiting)
    → AllUnder options (before ++ w ∷ following)
    → (w.options ≡ options) × AllUnder options (before ++ following)
under_parts options [] w following all = all
under_parts options (x ∷ before) w following all =
    let rest = under_parts options before w following all.1 in (rest.0, (all.0, rest.1))

-- the options stay, or no other request waits
stays_or_alone : (limits : Limits) (options after : ℕ) (t : Turn) (others : List Waiting)
    → IsTurn limits options t after → IsAlone t others → AllUnder options others
    → AllUnder after others
stays_or_alone limits options after t [] turn alone all = tt
stays_or_alone limits options after t (x ∷ xs) turn alone all =
    subst (λ (o : ℕ). AllUnder o (x ∷ xs))
    (sym (kept limits options after t turn
    (λ offered want init. absurd (let none = alone.init offered want init in cc))
    (λ answer destroy. absurd (let none = alone.destroy answer destroy in cc))))
    all

in_order_from : (limits : Limits) (options : ℕ) (waiting : List Waiting) (moves : List Move)
    → AllUnder options waiting → AreAskedInTime limits options waiting moves
    → (after : ℕ) × AreTurns limits options (turns_answered moves) after
in_order_from limits options waiting [] all are = (options, refl)
in_order_from limits options waiting (Begins w ∷ moves) all are =
    in_order_from limits options (w ∷ waiting) moves (are.0, all) are.1
in_order_from limits options waiting (Completes w t after ∷ moves) all are =
    let parts = under_parts options are.0 w are.1
    (subst (λ (ws : List Waiting). AllUnder options ws) are.2 all) in
    let turn : IsTurn limits options t after =
    subst (λ (o : ℕ). IsTurn limits o t after) parts.0 are.3.turn in
    let rest = in_order_from limits after (are.0 ++ are.1) moves
    (stays_or_alone limits options after t (are.0 ++ are.1) turn are.4 parts.1) are.5 in
    (rest.0, (after, turn, rest.1))

pub in_order : (limits : Limits) (options : ℕ) (moves : List Move)
    → AreAskedInTime limits options [] moves
    → (after : ℕ) × AreTurns limits options (turns_answered moves) after
in_order limits options moves are = in_order_from limits options [] moves tt are
