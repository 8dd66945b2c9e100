-- Requests of one client in flight: a transport asks a request for its call, makes the call, and answers
-- it, while others are asked and answered.
use Rattle.std.specs.Prelude.{◌≡◌, ℕ, List, [], ◌∷◌, ◌++◌, length}
use Rattle.vfs_files.specs.Calls.{Init, Destroy, Answer, Options}
use Rattle.vfs_files.specs.Runs.{Called}
use Rattle.vfs_grammar.specs.Turn.{Turn, IsTurn}
use Rattle.vfs_grammar.specs.declared.limits.Limits.{Limits}

-- a request that was asked and is not answered yet: its bytes, the options under which it was asked,
-- and how many bytes of room there are for its reply
pub record Waiting : Type 0 where
  pub request : List ℕ
  pub options : ℕ
  pub room_len : ℕ

-- A move of a transport: it asked a request, which began so, or it answered one, by this turn, with these options
-- from then on. What the calls of a turn are is seen when it is answered: its events.
pub data Move : Type 0 where
  Begins : (w : Waiting) → Move
  Completes : (w : Waiting) (t : Turn) (after : ℕ) → Move

-- the turns among moves, in the order of the answers
abbrev pub turns_answered : List Move → List Turn
turns_answered [] = []
turns_answered (Begins w ∷ moves) = turns_answered moves
turns_answered (Completes w t after ∷ moves) = t ∷ turns_answered moves

-- a turn of a request that waits, under the options that it was asked with
pub record IsTurnOf (limits : Limits) (w : Waiting) (t : Turn) (after : ℕ) : Type 0 where
  pub asked : t.request ≡ w.request
  pub room_len : length t.room ≡ w.room_len
  pub turn : IsTurn limits w.options t after

-- Each answer is that of a request that waits, which then waits no more.
abbrev pub AreInFlight : Limits → (waiting : List Waiting) → List Move → Type 0
AreInFlight limits waiting [] = Unit {0}
AreInFlight limits waiting (Begins w ∷ moves) = AreInFlight limits (w ∷ waiting) moves
AreInFlight limits waiting (Completes w t after ∷ moves) =
    (before following : List Waiting) × (waiting ≡ before ++ w ∷ following)
    × IsTurnOf limits w t after
    × AreInFlight limits (before ++ following) moves

-- an INIT that was answered, or a DESTROY, had none beside it that waits
pub record IsAlone (t : Turn) (others : List Waiting) : Type 0 where
  pub init : (offered want : ℕ) → t.events ≡ Called (Init offered) (Options want) ∷ [] → others ≡ []
  pub destroy : (answer : Answer) → t.events ≡ Called Destroy answer ∷ [] → others ≡ []

-- The same of a transport that asks each request under the options of then: those that the last answer
-- left. INIT and DESTROY are alone in flight.
abbrev pub AreAskedInTime : Limits → (options : ℕ) → (waiting : List Waiting) → List Move → Type 0
AreAskedInTime limits options waiting [] = Unit {0}
AreAskedInTime limits options waiting (Begins w ∷ moves) =
    (w.options ≡ options) × AreAskedInTime limits options (w ∷ waiting) moves
AreAskedInTime limits options waiting (Completes w t after ∷ moves) =
    (before following : List Waiting) × (waiting ≡ before ++ w ∷ following)
    × IsTurnOf limits w t after
    × IsAlone t (before ++ following)
    × AreAskedInTime limits after (before ++ following) moves
