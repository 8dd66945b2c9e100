-- Requests in flight, seen with each call at its place between ask and answer.
use Rattle.std.specs.Prelude.{◌≡◌, ◌≢◌, ◌≤◌, ◌+◌, ◌++◌, ◌⊎◌, ℕ, List, [], ◌∷◌, take, sum_by, Some}
use Rattle.vfs_files.specs.Calls.{Call, Lookup, Forget, Answer}
use Rattle.vfs_files.specs.Runs.{Event, Called, OpenedDirectory, Taken}
use Rattle.vfs_files.specs.declared.entry.Context.{Context}
use Rattle.vfs_grammar.specs.Books.{entry_node, opcode_in, forgotten, forgets_in, answered, sent, delivered}
use Rattle.vfs_grammar.specs.Listing.{given_back}
use Rattle.vfs_grammar.specs.Turn.{Turn}
use Rattle.vfs_grammar.specs.declared.limits.Limits.{Limits}
use Rattle.laws_flight.specs.Flight.{Waiting, IsTurnOf}

-- a request that waits, and what was seen of the file system for it so far
pub record Going : Type 0 where
  pub waiting : Waiting
  pub events : List Event

-- A point of a transport's time: it asked a request; this was seen of the file system for one that waits; or it
-- answered one, by this turn, with these options from then on.
pub data Point : Type 0 where
  Began : (w : Waiting) → Point
  Seen : (event : Event) → Point
  Completed : (t : Turn) (after : ℕ) → Point

-- a call beside those of a turn: a name is looked up, and the node that is found is to be given back; or one is
abbrev pub IsCallBeside : (back : List ℕ) → Call → Answer → (back_after : List ℕ) → Type 0
IsCallBeside back (Lookup ctx parent name) answer after = after ≡ entry_node answer ++ back
IsCallBeside back (Forget ctx node count) answer after =
    (before following : List ℕ) × (count ≡ 1) × (back ≡ before ++ node ∷ following) × (after ≡ before ++ following)
IsCallBeside back _ answer after = ⊥

-- What a caller may do beside a turn: these calls, and takings. It does so for a READDIRPLUS whose reply has fewer items
-- than it takes; here it is allowed of any request. `back` are the nodes that it looked up so and did not give back yet.
abbrev pub IsBeside : (back : List ℕ) → Event → (back_after : List ℕ) → Type 0
IsBeside back (Called call answer) after = IsCallBeside back call answer after
IsBeside back (OpenedDirectory call) after = ⊥
IsBeside back (Taken item) after = after ≡ back

-- What was seen for a request is what its turn has, in that order, with what is beside it. A forget of node 0 that a
-- turn ends with, of `.` or `..`, need not be made.
abbrev pub AreSeenOf : (back : List ℕ) → (seen turn : List Event) → Type 0
AreSeenOf back [] turn = (turn ≡ []) ⊎ ((ctx : Context) × (turn ≡ given_back ctx (Some 0)))
AreSeenOf back (e ∷ seen) turn =
    ((rest : List Event) × (turn ≡ e ∷ rest) × AreSeenOf back seen rest)
    ⊎ ((after : List ℕ) × IsBeside back e after × AreSeenOf after seen turn)

-- a request comes to a turn, by what was seen for it so far and more
abbrev pub IsUnderWay : Limits → Going → Type 0
IsUnderWay limits g =
    (t : Turn) × (after : ℕ) × (rest : List Event)
    × IsTurnOf limits g.waiting t after × AreSeenOf [] (g.events ++ rest) t.events

abbrev pub AreUnderWay : Limits → List Going → Type 0
AreUnderWay limits [] = Unit {0}
AreUnderWay limits (g ∷ gs) = IsUnderWay limits g × AreUnderWay limits gs

-- What is seen is seen for a request that waits, and a request is answered by a turn of which that was seen. What still
-- waits at the end is under way.
abbrev pub AreSeen : Limits → (going : List Going) → List Point → Type 0
AreSeen limits going [] = AreUnderWay limits going
AreSeen limits going (Began w ∷ points) =
    AreSeen limits (record { waiting = w; events = [] } ∷ going) points
AreSeen limits going (Seen event ∷ points) =
    (before following : List Going) × (g : Going) × (going ≡ before ++ g ∷ following)
    × AreSeen limits (before ++ record g { events = g.events ++ event ∷ [] } ∷ following) points
AreSeen limits going (Completed t after ∷ points) =
    (before following : List Going) × (g : Going) × (going ≡ before ++ g ∷ following)
    × IsTurnOf limits g.waiting t after × AreSeenOf [] g.events t.events
    × AreSeen limits (before ++ following) points

-- what was seen of the file system, in order
abbrev pub events_seen : List Point → List Event
events_seen [] = []
events_seen (Began w ∷ points) = events_seen points
events_seen (Seen event ∷ points) = event ∷ events_seen points
events_seen (Completed t after ∷ points) = events_seen points

-- the turns of what was answered, in order
abbrev pub turns_seen : List Point → List Turn
turns_seen [] = []
turns_seen (Began w ∷ points) = turns_seen points
turns_seen (Seen event ∷ points) = turns_seen points
turns_seen (Completed t after ∷ points) = t ∷ turns_seen points

-- the forgets of a node in a request's bytes
abbrev pub given_back_by : (n : ℕ) → Waiting → ℕ
given_back_by n w = forgotten n (forgets_in (opcode_in w.request) w.request)

-- the forgets of a node in all requests that were asked
abbrev pub given_back_in : (n : ℕ) → List Point → ℕ
given_back_in n [] = 0
given_back_in n (Began w ∷ points) = given_back_by n w + given_back_in n points
given_back_in n (Seen event ∷ points) = given_back_in n points
given_back_in n (Completed t after ∷ points) = given_back_in n points

-- The client gives back what it was told, as a kernel does: its forgets of a node, asked until now, are no more
-- than the entries of that node which were delivered until now.
abbrev pub ForgetsWhatItWasTold : (n : ℕ) → List Point → Type 0
ForgetsWhatItWasTold n points = given_back_in n points ≤ sum_by (delivered n) (turns_seen points)

-- After each point at which that is so, no more of a node was sent back to the file system, in its calls as they were
-- made, than it had answered.
abbrev pub NoCountIsBelow : Type 0
NoCountIsBelow =
    (limits : Limits) (points : List Point) (n k : ℕ) → n ≢ 0 → AreSeen limits [] points
    → ForgetsWhatItWasTold n (take k points)
    → sent n (events_seen (take k points)) ≤ answered n (events_seen (take k points))
