-- What follows from a request: the calls, what comes back, and the options afterwards. It leads from `Turn`
-- to `Follows`, and to `IsTurn`.
use Rattle.std.specs.Prelude.{◌≡◌, ◌⊎◌, ◌==◌, if◌then◌else◌, length, ℕ, List, [], ◌∷◌, Option, Some, None, Result, ◌++◌}
use Rattle.vfs_files.specs.Calls.{Answer, Found, Created, Kind, Entries, Creations, Data, kind_of, read_answer, IsAnswer}
use Rattle.vfs_files.specs.Runs.{Event, Called}
use Rattle.vfs_grammar.specs.Listing.{IsDirectory, given_back}
use Rattle.vfs_grammar.specs.Forms.{Ask, Ends, Asks, Lists, WithMemory}
use Rattle.vfs_grammar.specs.Ask.{ask}
use Rattle.vfs_grammar.specs.Options.{options_after}
use Rattle.vfs_grammar.specs.Reply.{Refusal, reply_of}
use Rattle.vfs_grammar.specs.Room.{IsReplied, unseen}
use Rattle.vfs_grammar.specs.declared.limits.Limits.{Limits}
use Rattle.vfs_grammar.specs.declared.error.Error.{Error}
use Rattle.vfs_grammar.specs.declared.error.Error.TheVariants.{OutOfMemory}

-- the node that is given back if the reply doesn't fit: that of the entry in an answer of this kind, where there is one,
-- but for node 0, whose lookups are not counted. (`entry_node` of Books, which the books count by, has node 0 too)
abbrev pub node_answered : Kind → Answer → Option ℕ
node_answered Entries (Found entry) = if entry.inode == 0 then None else Some entry.inode
node_answered Creations (Created entry _ _) = if entry.inode == 0 then None else Some entry.inode
node_answered _ _ = None

-- a request with what is seen of it from outside: its bytes; those of its room, before; what was seen of
-- the file system; the length of the reply, 0 where there is none, or why there is no whole one; and the
-- room afterwards
pub record Turn : Type 0 where
  pub request : List ℕ
  pub room : List ℕ
  pub events : List Event
  pub outcome : Result ℕ Error
  pub room_after : List ℕ

-- What follows in a turn from a request that asks this, with the options before and after it. One
-- that is ended has no call. One that asks a call has this, with an answer of its kind; an entry in
-- it whose reply doesn't fit is given back by a `forget` (`unseen` says which, and `given_back` how),
-- unless its node is 0. `echo` is what is kept of the request: what its reply repeats, and the caller.
-- A directory's records are replied as the data of a READ are: `IsAnswer` bounds how many they are. One
-- that wants memory follows with it, or is refused for want of it, and has no call. INIT's reply tells
-- the options after it; no other reply does.
abbrev pub Follows : Turn → Limits → (options : ℕ) → Ask → (after : ℕ) → Type 0
Follows t limits options (Ends reply) after =
    (t.events ≡ []) × IsReplied reply t.room t.outcome t.room_after × (after ≡ options)
Follows t limits options (Asks echo call) after =
    let kind = kind_of call in
    let reply_to = reply_of limits echo after kind in
    (answer : Answer)
    × (t.events ≡ Called call answer
    ∷ given_back echo.ctx (unseen (length t.room) (reply_to answer) (node_answered kind answer)))
    × IsAnswer kind answer
    × IsReplied (reply_to answer) t.room t.outcome t.room_after
    × (after ≡ options_after call answer options)
Follows t limits options (Lists echo l) after =
    (records : List ℕ) × (answer : Result ℕ (Option ℕ)) × IsDirectory l t.events records answer
    × IsAnswer (Data l.size) (read_answer answer records)
    × IsReplied (reply_of limits echo after (Data l.size) (read_answer answer records)) t.room
    t.outcome t.room_after
    × (after ≡ options)
Follows t limits options (WithMemory rest) after =
    Follows t limits options rest after
    ⊎ ((t.events ≡ []) × IsReplied (Refusal OutOfMemory) t.room t.outcome t.room_after
    × (after ≡ options))

-- a turn: what follows from what its request asks, by its bytes and the length of its room
abbrev pub IsTurn : Limits → (options : ℕ) → Turn → (after : ℕ) → Type 0
IsTurn limits options t after =
    Follows t limits options (ask limits options (length t.room) t.request) after

-- the events of turns, in order
abbrev pub events_in : List Turn → List Event
events_in [] = []
events_in (t ∷ ts) = t.events ++ events_in ts

-- ---- no more is of the promise: the rest is for proofs, and for contracts of parts

-- turns in order, from these options to those: each begins with the options that the one before
-- it left
abbrev pub AreTurns : Limits → (options : ℕ) → List Turn → (after : ℕ) → Type 0
AreTurns limits options [] after = after ≡ options
AreTurns limits options (t ∷ ts) after =
    (mid : ℕ) × IsTurn limits options t mid × AreTurns limits mid ts after
