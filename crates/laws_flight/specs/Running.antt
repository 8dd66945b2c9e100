-- Requests in flight over a file system: from which state to which each call leads, as it is made.
use Rattle.std.specs.Prelude.{◌≡◌, ◌++◌, Bool, true, false, List, [], ◌∷◌, map, Option, Some, None}
use Rattle.vfs_files.specs.Calls.{Call, Handed, Plain, Iterator}
use Rattle.vfs_files.specs.Runs.{Event, Called, OpenedDirectory, Taken, IsRun}
use Rattle.vfs_files.specs.Values.{Item}
use Rattle.vfs_grammar.specs.declared.limits.Limits.{Limits}
use Rattle.laws_flight.specs.Flight.{IsTurnOf}
use Rattle.laws_flight.specs.Made.{Going, Point, Began, Seen, Completed, AreSeenOf, AreUnderWay, AreSeen, events_seen}

-- a request that waits, and what is left of the directory that is read for it
pub record Running (I : Type 0) : Type 0 where
  pub going : Going
  pub iterator : Option I

-- events without the takings of items, which leave a file system's state as it is
abbrev pub calls_in : List Event → List Event
calls_in [] = []
calls_in (Called call answer ∷ events) = Called call answer ∷ calls_in events
calls_in (OpenedDirectory call ∷ events) = OpenedDirectory call ∷ calls_in events
calls_in (Taken item ∷ events) = calls_in events

module _ {S I : Type 0} (allows : S → Call → Handed I → S → Type 0) (gives : I → Option Item → I → Type 0)
    (limits : Limits) where
  -- What is seen for a request leads from one state of the file system to another, and takes items from the
  -- directory that was opened for this very request.
  abbrev pub Leads : (iterator : Option I) → (old : S) → Event → (iterator_after : Option I) → (new : S) → Type 0
  Leads it old (Called call answer) after new = allows old call (Plain answer) new × (after ≡ it)
  Leads it old (OpenedDirectory call) after new =
      (opened : I) × allows old call (Iterator opened) new × (after ≡ Some opened)
  Leads it old (Taken item) after new =
      (before left : I) × (it ≡ Some before) × gives before item left × (after ≡ Some left) × (new ≡ old)

  -- Requests that wait are asked, made and answered as `AreSeen` says it; and each event leads on from the state that
  -- the one before it left, for whichever request that was.
  abbrev pub AreMade : (running : List (Running I)) → (old : S) → List Point → (new : S) → Type 0
  AreMade running old [] new = AreUnderWay limits (map (λ r. r.going) running) × (new ≡ old)
  AreMade running old (Began w ∷ points) new =
      AreMade (record { going = record { waiting = w; events = [] }; iterator = None } ∷ running) old points new
  AreMade running old (Seen event ∷ points) new =
      (before following : List (Running I)) × (r : Running I) × (running ≡ before ++ r ∷ following)
      × (it : Option I) × (next : S) × Leads r.iterator old event it next
      × AreMade (before ++ record {
        going = record r.going { events = r.going.events ++ event ∷ [] };
        iterator = it;
      } ∷ following) next points new
  AreMade running old (Completed t after ∷ points) new =
      (before following : List (Running I)) × (r : Running I) × (running ≡ before ++ r ∷ following)
      × IsTurnOf limits r.going.waiting t after × AreSeenOf [] r.going.events t.events
      × AreMade (before ++ following) old points new

-- Calls that are made so for requests in flight are a run of the file system, in the order in which they are made, as
-- those of one caller are; takings aside, of which each reading has its own.
abbrev pub FlightsRun : {S I : Type 0} → (S → Call → Handed I → S → Type 0) → (I → Option Item → I → Type 0) → Type 0
FlightsRun {S} {I} allows gives =
    (limits : Limits) (old new : S) (points : List Point)
    → AreMade allows gives limits [] old points new
    → AreSeen limits [] points × IsRun allows gives None old (calls_in (events_seen points)) new

-- each request is answered before the next one is asked; the last one may be under way
abbrev pub AreAlone : (waits : Bool) → List Point → Type 0
AreAlone waits [] = Unit {0}
AreAlone false (Began w ∷ points) = AreAlone true points
AreAlone true (Seen event ∷ points) = AreAlone true points
AreAlone true (Completed t after ∷ points) = AreAlone false points
AreAlone _ points = ⊥

-- those of requests that are handed over one by one are a run with their takings too, as that of a server is
abbrev pub AloneRun : {S I : Type 0} → (S → Call → Handed I → S → Type 0) → (I → Option Item → I → Type 0) → Type 0
AloneRun {S} {I} allows gives =
    (limits : Limits) (old new : S) (points : List Point)
    → AreMade allows gives limits [] old points new → AreAlone false points
    → IsRun allows gives None old (events_seen points) new

-- ---- no more is of the promise: the rest is for callers

-- what each call of a file system keeps
abbrev pub EachCallKeeps : {S I : Type 0} → (S → Call → Handed I → S → Type 0) → (keeps : S → Bool) → Type 0
EachCallKeeps {S} {I} allows keeps =
    (before after : S) (call : Call) (handed : Handed I)
    → allows before call handed after → keeps before ≡ true → keeps after ≡ true
