-- Events, and runs of a file system. Only a run knows the types of states and iterators.
use Rattle.std.specs.Prelude.{◌≡◌, ℕ, List, [], ◌∷◌, ◌++◌, map, Option, Some, None}
use Rattle.vfs_files.specs.Values.{Item}
use Rattle.vfs_files.specs.Calls.{Call, Forget, Answer, Done, Handed, Plain, Iterator}
use Rattle.vfs_files.specs.declared.entry.Context.{Context}

-- what is seen of a file system from outside: a call with its answer, a call that opened an
-- iterator, and a taking from the iterator at hand
pub data Event : Type 0 where
  Called : (call : Call) (answer : Answer) → Event
  OpenedDirectory : (call : Call) → Event
  Taken : (item : Option Item) → Event

-- Of a file system with states S and iterators I, as its own contract states them: `allows` says that a call may lead
-- from one state to another and hand back this, and `gives` that a taking from an iterator may give this item, or none
-- at the end, and leave that iterator.
module _ {S I : Type 0}
    (allows : S → Call → Handed I → S → Type 0) (gives : I → Option Item → I → Type 0) where
  -- A run: the file system comes from one state to another, with this iterator at hand to begin with,
  -- and these events are seen of it, in order. A call is allowed by its relation, and leads to the next
  -- state; one that opens an iterator leaves that at hand. A taking is from the iterator at hand, leaves
  -- another by the iterator's relation, and the state stays.
  abbrev pub IsRun : Option I → S → List Event → S → Type 0
  IsRun it old [] new = new ≡ old
  IsRun it old (Called call answer ∷ es) new =
      (next : S) × allows old call (Plain answer) next × IsRun it next es new
  IsRun it old (OpenedDirectory call ∷ es) new =
      (next : S) × (opened : I)
      × allows old call (Iterator opened) next × IsRun (Some opened) next es new
  IsRun it old (Taken item ∷ es) new =
      (before after : I) × (it ≡ Some before)
      × gives before item after × IsRun (Some after) old es new

  -- ---- no more is of the promise: the rest is for proofs, and for contracts of parts

  -- a run, and after it one that begins with no iterator at hand, are a run
  abbrev pub RunsJoin : Type 0
  RunsJoin =
      (it : Option I) (first middle last : S) (before after : List Event)
      → IsRun it first before middle → IsRun None middle after last
      → IsRun it first (before ++ after) last

  -- from one state to another a run leads whose events are a `forget` for each of these pairs of a
  -- node and a count, in order, and nothing else
  abbrev pub ForgetsEach : Context → List (ℕ × ℕ) → S → S → Type 0
  ForgetsEach ctx requests old new =
      IsRun None old (map (λ p. Called (Forget ctx p.0 p.1) Done) requests) new
