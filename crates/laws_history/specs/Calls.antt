-- What small callers say of a server that they call message by message.
use Rattle.std.specs.Prelude.{◌≡◌, ℕ, List, [], ◌∷◌, ◌++◌, map, replicate, take, Option, None, Result, Ok, Err}
use Rattle.vfs_segments.specs.Written.{Written, Leaves}
use Rattle.vfs_files.specs.Values.{Item}
use Rattle.vfs_files.specs.Calls.{Call, Handed}
use Rattle.vfs_files.specs.Runs.{IsRun}
use Rattle.vfs_grammar.specs.Turn.{Turn, events_in}
use Rattle.vfs_grammar.specs.Books.{KeepsBooks}
use Rattle.vfs_grammar.specs.Words.{NeverBelow}
use Rattle.vfs_grammar.specs.declared.error.Error.{Error}
use Rattle.vfs_grammar.specs.Samples.{four, eight, reply_of_node_5}
use Rattle.vfs_server.specs.Step.{ServerState}
use Rattle.vfs_server.specs.declared.transport.error.ServeError.{ServeError}
use Rattle.vfs_server.specs.declared.transport.error.ServeError.TheVariants.{OutOfMemory, Segments, Server, FileSystem}
use Rattle.laws_history.specs.History.{Moment, Handled, turns_in, IsHistory}

-- The turn of a request as its transport sees it: the bytes that came, the room that there was, the
-- outcome, and the room as the writer was left.
pub record IsSeen (request : List ℕ) (writer : Written) (outcome : Result ℕ Error)
    (writer_after : Written) (t : Turn) : Type 0 where
  pub asked : t.request ≡ request
  pub room : t.room ≡ writer.left
  pub came : t.outcome ≡ outcome
  pub leaves : Leaves writer t.room_after writer_after

-- these moments lead from one state of a server to another, and the books of their turns are kept
pub record KeepsHistory {S I : Type 0} (allows : S → Call → Handed I → S → Type 0)
    (gives : I → Option Item → I → Type 0) (old : ServerState S) (moments : List (Moment S))
    (new : ServerState S) : Type 0 where
  pub history : IsHistory allows gives old moments new
  pub books : KeepsBooks (turns_in moments)

-- a server handled these requests one by one, and nothing else happened
pub record HandlesEach {S I : Type 0} (allows : S → Call → Handed I → S → Type 0)
    (gives : I → Option Item → I → Type 0) (old : ServerState S) (requests : List (List ℕ))
    (new : ServerState S) : Type 0 where
  pub turns : List Turn
  pub asked : map (λ t. t.request) turns ≡ requests
  pub history : IsHistory allows gives old (map Handled turns) new
  pub books : KeepsBooks turns

-- Two requests were served, each with a room of that many bytes and by a reply of these: a turn each, and
-- the books of both are kept.
pub record AreServed {S I : Type 0} (allows : S → Call → Handed I → S → Type 0)
    (gives : I → Option Item → I → Type 0) (old : ServerState S) (one two : List ℕ) (size : ℕ)
    (reply_one reply_two : List ℕ) (new : ServerState S) : Type 0 where
  pub a : Turn
  pub b : Turn
  pub asked_first : a.request ≡ one
  pub asked_then : b.request ≡ two
  pub rooms : (a.room ≡ replicate size 0) × (b.room ≡ replicate size 0)
  pub replied_first : (len : ℕ) × (a.outcome ≡ Ok len) × (reply_one ≡ take len a.room_after)
  pub replied_then : (len : ℕ) × (b.outcome ≡ Ok len) × (reply_two ≡ take len b.room_after)
  pub history : KeepsHistory allows gives old (Handled a ∷ Handled b ∷ []) new

-- A request was served without a reply. If it was handed on, that was a turn with this error; else nothing
-- happened.
abbrev pub ServedNone : {S I : Type 0} → (S → Call → Handed I → S → Type 0)
    → (I → Option Item → I → Type 0) → (old : ServerState S) → (request : List ℕ) → ServeError
    → (new : ServerState S) → Type 0
ServedNone allows gives old request OutOfMemory new = KeepsHistory allows gives old [] new
ServedNone allows gives old request (Segments error) new = KeepsHistory allows gives old [] new
ServedNone allows gives old request (Server error) new =
    (t : Turn) × (t.request ≡ request) × (t.outcome ≡ Err error)
    × KeepsHistory allows gives old (Handled t ∷ []) new
ServedNone allows gives old request (FileSystem fault) new = ⊥

-- request 9, FORGET of node 5 by 1: a header and a record, of 48 bytes
abbrev pub forget_of_5 : List ℕ
forget_of_5 = four 48 ++ (four 2 ++ (eight 9 ++ (eight 5 ++ (replicate 16 0 ++ eight 1))))

-- A server handled a LOOKUP and a FORGET of node 5, over one run of its file system. If the LOOKUP was
-- replied an entry of node 5 and the FORGET was accepted, no count of the node fell below zero.
pub record GivesBack {S I : Type 0} (allows : S → Call → Handed I → S → Type 0)
    (gives : I → Option Item → I → Type 0) (old : ServerState S) (lookup forget : Turn)
    (new : ServerState S) : Type 0 where
  pub run : IsRun allows gives None old.fs (events_in (lookup ∷ forget ∷ [])) new.fs
  pub never_below :
      (following : List ℕ) → lookup.outcome ≡ Ok 144
      → lookup.room_after ≡ reply_of_node_5 ++ following
      → forget.outcome ≡ Ok 0 → NeverBelow 5 (events_in (lookup ∷ forget ∷ []))
