-- What follows from a request, told by anyone who saw it: a handler, or a turn.
use Rattle.std.specs.Prelude.{◌≡◌, ◌⊎◌, length, ℕ, List, [], ◌∷◌, Option, Result}
use Rattle.std.proofs.Common.{inl, inr}
use Rattle.vfs_files.specs.Calls.{Call, Answer, Data, kind_of, read_answer, IsAnswer}
use Rattle.vfs_files.specs.Runs.{Called}
use Rattle.vfs_files.specs.declared.entry.Context.{Context}
use Rattle.vfs_grammar.specs.Listing.{Listing, IsDirectory, given_back}
use Rattle.vfs_grammar.specs.Forms.{Ask, Ends, Asks, Lists, WithMemory}
use Rattle.vfs_grammar.specs.Ask.{ask}
use Rattle.vfs_grammar.specs.Options.{options_after}
use Rattle.vfs_grammar.specs.Reply.{Reply, Refusal, reply_of}
use Rattle.vfs_grammar.specs.Room.{IsReplied, unseen}
use Rattle.vfs_grammar.specs.Turn.{Turn, Follows, node_answered}
use Rattle.vfs_grammar.specs.declared.limits.Limits.{Limits}
use Rattle.vfs_grammar.specs.declared.error.Error.TheVariants.{OutOfMemory}

-- Who tells what happened at a request: how long the room was; that the file system
-- wasn't called; that it was called, so, with this answer, and that one lookup of a node, if
-- there is one, was then given back for this caller; that a directory was read, with these records
-- and this answer; and that this came back to the client; and that there was no memory for a copy,
-- and no call.
pub record Witness : Type 1 where
  pub room_len : ℕ
  pub no_call : Type 0
  pub called : Call → Answer → Context → (back : Option ℕ) → Type 0
  pub listed : Listing → (records : List ℕ) → Result ℕ (Option ℕ) → Type 0
  pub replied : Reply → Type 0
  pub no_memory : Type 0

-- What follows from a request that asks this, as `Follows` says of a turn: told so.
abbrev pub FollowsFor : Witness → Limits → (options : ℕ) → Ask → (after : ℕ) → Type 0
FollowsFor w limits options (Ends reply) after = w.no_call × w.replied reply × (after ≡ options)
FollowsFor w limits options (Asks echo call) after =
    (answer : Answer)
    × w.called call answer echo.ctx
    (unseen w.room_len (reply_of limits echo after (kind_of call) answer)
    (node_answered (kind_of call) answer))
    × IsAnswer (kind_of call) answer
    × w.replied (reply_of limits echo after (kind_of call) answer)
    × (after ≡ options_after call answer options)
FollowsFor w limits options (Lists echo listing) after =
    (records : List ℕ) × (answer : Result ℕ (Option ℕ)) × w.listed listing records answer
    × IsAnswer (Data listing.size) (read_answer answer records)
    × w.replied (reply_of limits echo after (Data listing.size) (read_answer answer records))
    × (after ≡ options)
FollowsFor w limits options (WithMemory rest) after =
    FollowsFor w limits options rest after
    ⊎ (w.no_memory × w.replied (Refusal OutOfMemory) × (after ≡ options))

-- what a turn tells: by its events, its outcome and its room
abbrev pub turn_tells : Turn → Witness
turn_tells t = record {
  room_len = length t.room;
  no_call = t.events ≡ [];
  called = λ call answer ctx back. t.events ≡ Called call answer ∷ given_back ctx back;
  listed = λ listing records answer. IsDirectory listing t.events records answer;
  replied = λ reply. IsReplied reply t.room t.outcome t.room_after;
  no_memory = t.events ≡ [];
}

-- what a turn tells in which memory was there for each copy
abbrev pub turn_with_memory_tells : Turn → Witness
turn_with_memory_tells t = record (turn_tells t) { no_memory = ⊥ }

-- the same of a turn in which memory was there for each copy
abbrev pub IsTurnWithMemory : Limits → (options : ℕ) → Turn → (after : ℕ) → Type 0
IsTurnWithMemory limits options t after =
    FollowsFor (turn_with_memory_tells t) limits options
    (ask limits options (length t.room) t.request) after

-- what follows by what a turn tells, follows in it
pub follows_plainly : (t : Turn) (limits : Limits) (options : ℕ) (asks : Ask) (after : ℕ)
    → FollowsFor (turn_tells t) limits options asks after → Follows t limits options asks after
follows_plainly t limits options (Ends reply) after f = f
follows_plainly t limits options (Asks echo call) after f = f
follows_plainly t limits options (Lists echo listing) after f = f
follows_plainly t limits options (WithMemory rest) after (inl f) =
    inl (follows_plainly t limits options rest after f)
follows_plainly t limits options (WithMemory rest) after (inr f) = inr f

-- and what follows in it, by what it tells
pub follows_as_told : (t : Turn) (limits : Limits) (options : ℕ) (asks : Ask) (after : ℕ)
    → Follows t limits options asks after → FollowsFor (turn_tells t) limits options asks after
follows_as_told t limits options (Ends reply) after f = f
follows_as_told t limits options (Asks echo call) after f = f
follows_as_told t limits options (Lists echo listing) after f = f
follows_as_told t limits options (WithMemory rest) after (inl f) =
    inl (follows_as_told t limits options rest after f)
follows_as_told t limits options (WithMemory rest) after (inr f) = inr f
