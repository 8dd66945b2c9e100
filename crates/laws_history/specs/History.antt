-- The history of a server: the requests that it handled, in however many calls, and the changes of its
-- file system by its owner between them.
use Rattle.std.specs.Prelude.{◌≡◌, ◌≢◌, ◌≤◌, ◌+◌, ℕ, List, [], ◌∷◌, ◌++◌, replicate, take, sum_by, Option, None, Result, Ok}
use Rattle.vfs_segments.specs.Written.{Written}
use Rattle.vfs_files.specs.Values.{Item}
use Rattle.vfs_files.specs.Calls.{Call, Destroy, Done, Handed, Plain}
use Rattle.vfs_files.specs.Runs.{Event, Called, IsRun}
use Rattle.vfs_grammar.specs.Turn.{Turn, IsTurn, AreTurns, events_in}
use Rattle.vfs_grammar.specs.Books.{answered, sent, delivered, accepted, KeepsBooks}
use Rattle.vfs_grammar.specs.declared.error.Error.{Error}
use Rattle.vfs_server.specs.Step.{ServerState, IsStep, turn_over}

-- A moment of a server: a request was handled, by this turn; or the owner changed the file system from
-- one state to another, between two requests.
pub data Moment (S : Type 0) : Type 0 where
  Handled : (t : Turn) → Moment S
  Changed : (before after : S) → Moment S

-- the turns among moments, in order: what the client sees of them
abbrev pub turns_in : {S : Type 0} → List (Moment S) → List Turn
turns_in [] = []
turns_in (Handled t ∷ moments) = t ∷ turns_in moments
turns_in (Changed before after ∷ moments) = turns_in moments

-- nobody but the server changed the file system
abbrev pub IsUntouched : {S : Type 0} → List (Moment S) → Type 0
IsUntouched [] = Unit {0}
IsUntouched (Handled t ∷ moments) = IsUntouched moments
IsUntouched (Changed before after ∷ moments) = ⊥

-- A server handled one request, by this turn: over a run of the file system from its state before to that
-- after, whose events are those of the turn; the limits stay.
pub record IsHandled {S I : Type 0} (allows : S → Call → Handed I → S → Type 0)
    (gives : I → Option Item → I → Type 0) (old : ServerState S) (t : Turn) (new : ServerState S)
    : Type 0 where
  pub is_run : IsRun allows gives None old.fs t.events new.fs
  pub turn : IsTurn old.limits old.options t new.options
  pub same_limits : new.limits ≡ old.limits

-- a DESTROY of no number: a header alone, of 40 bytes
abbrev pub destroy_request : List ℕ
destroy_request = (40 ∷ 0 ∷ 0 ∷ 0 ∷ 38 ∷ []) ++ replicate 35 0

-- the turn of a server that its transport ends without a request: that of such a DESTROY, with no room
abbrev pub turn_of_end : Turn
turn_of_end = record {
  request = destroy_request;
  room = [];
  events = Called Destroy Done ∷ [];
  outcome = Ok 0;
  room_after = [];
}

-- after each turn a client that had that many lookups of a node to begin with has given back no more of it
-- than these and those that were delivered to it
abbrev pub GivesBackWithinHeld : (n held : ℕ) → List Turn → Type 0
GivesBackWithinHeld n held turns =
    (k : ℕ)
    → sum_by (accepted n) (take k turns) ≤ held + sum_by (delivered n) (take k turns)

-- after each event no more of a node was sent back than those that were held to begin with and those
-- that were answered
abbrev pub NeverBelowHeld : (n held : ℕ) → List Event → Type 0
NeverBelowHeld n held events =
    (k : ℕ) → sent n (take k events) ≤ held + answered n (take k events)

module _ {S I : Type 0}
    (allows : S → Call → Handed I → S → Type 0) (gives : I → Option Item → I → Type 0) where
  -- a history: these moments in order lead from one state of a server to another
  abbrev pub IsHistory : (old : ServerState S) → List (Moment S) → (new : ServerState S) → Type 0
  IsHistory old [] new = new ≡ old
  IsHistory old (Handled t ∷ moments) new =
      (mid : ServerState S) × IsHandled allows gives old t mid × IsHistory mid moments new
  IsHistory old (Changed before after ∷ moments) new =
      (old.fs ≡ before) × IsHistory (record old { fs = after }) moments new

  -- the turn of a step
  abbrev pub turn_of : (old : ServerState S) (request : List ℕ) (writer : Written)
      (outcome : Result ℕ Error) (writer_after : Written) (new : ServerState S)
      → IsStep allows gives old request writer outcome writer_after new → Turn
  turn_of old request writer outcome writer_after new step =
      turn_over request writer step.events outcome step.room_after

  -- a history goes on by each step, with its turn
  abbrev pub GoesOnHandled : Type 0
  GoesOnHandled =
      (first old new : ServerState S) (moments : List (Moment S)) (request : List ℕ)
      (writer : Written) (outcome : Result ℕ Error) (writer_after : Written)
      → IsHistory first moments old
      → (step : IsStep allows gives old request writer outcome writer_after new)
      → IsHistory first
      (moments ++ Handled (turn_of old request writer outcome writer_after new step) ∷ []) new

  -- and by each change of the file system that leaves the options and the limits
  abbrev pub GoesOnChanged : Type 0
  GoesOnChanged =
      (first old new : ServerState S) (moments : List (Moment S))
      → IsHistory first moments old → new.options ≡ old.options → new.limits ≡ old.limits
      → IsHistory first (moments ++ Changed old.fs new.fs ∷ []) new

  -- and by an end without a request, with the turn of a DESTROY
  abbrev pub GoesOnEnded : Type 0
  GoesOnEnded =
      (first old new : ServerState S) (moments : List (Moment S))
      → IsHistory first moments old → allows old.fs Destroy (Plain Done) new.fs
      → new.options ≡ 0 → new.limits ≡ old.limits
      → IsHistory first (moments ++ Handled turn_of_end ∷ []) new

  -- a history, and one that begins where it ends, are one
  abbrev pub HistoriesJoin : Type 0
  HistoriesJoin =
      (first middle last : ServerState S) (before after : List (Moment S))
      → IsHistory first before middle → IsHistory middle after last
      → IsHistory first (before ++ after) last

  -- a history is two, wherever it is cut
  abbrev pub HistoriesSplit : Type 0
  HistoriesSplit =
      (first last : ServerState S) (before after : List (Moment S))
      → IsHistory first (before ++ after) last
      → (middle : ServerState S) × IsHistory first before middle × IsHistory middle after last

  -- the turns of a history are in order, from the options then to those now, and the limits stay
  abbrev pub HasTurns : Type 0
  HasTurns =
      (old new : ServerState S) (moments : List (Moment S)) → IsHistory old moments new
      → AreTurns old.limits old.options (turns_in moments) new.options
      × (new.limits ≡ old.limits)

  -- if nobody else changed the file system, a history is one run of it, with the events of its turns
  abbrev pub HasOneRun : Type 0
  HasOneRun =
      (old new : ServerState S) (moments : List (Moment S)) → IsHistory old moments new
      → IsUntouched moments
      → IsRun allows gives None old.fs (events_in (turns_in moments)) new.fs

  -- the books are kept over any history
  abbrev pub HistoriesKeepBooks : Type 0
  HistoriesKeepBooks =
      (old new : ServerState S) (moments : List (Moment S)) → IsHistory old moments new
      → KeepsBooks (turns_in moments)

  -- over a history that begins in the midst of a client's life, a client that gives back no more of a
  -- node than it had and was delivered drives no count of it below zero
  abbrev pub HeldCountsStay : Type 0
  HeldCountsStay =
      (old new : ServerState S) (moments : List (Moment S)) (n held : ℕ)
      → IsHistory old moments new → n ≢ 0 → GivesBackWithinHeld n held (turns_in moments)
      → NeverBelowHeld n held (events_in (turns_in moments))
