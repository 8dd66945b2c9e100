-- What small callers of the server hand over and find: requests and replies as bytes, written out,
-- and the rooms of a session.
use Rattle.std.specs.Prelude.{◌≡◌, ◌≤◌, ◌+◌, ◌⊎◌, ℕ, pos, List, [], ◌∷◌, ◌++◌, length, replicate, take, Option, Some, None, Result, Ok}
use Rattle.vfs_flags.specs.declared.opcode.Opcode.{Opcode}
use Rattle.vfs_flags.specs.declared.opcode.Opcode.TheVariants.{Getattr, Read, Write, Init, Interrupt, SetupMapping}
use Rattle.vfs_flags.specs.declared.opcode.Opcode.TheVariants as opcode
use Rattle.vfs_segments.specs.Unread.{Unread}
use Rattle.vfs_segments.specs.Written.{Written}
use Rattle.vfs_files.specs.Values.{Item}
use Rattle.vfs_files.specs.Calls.{Call, Readdir, Failed, Handed}
use Rattle.vfs_files.specs.Runs.{Event, Called, OpenedDirectory, Taken, IsRun}
use Rattle.vfs_grammar.specs.Directories.{takings}
use Rattle.vfs_grammar.specs.Books.{answered, sent}
use Rattle.vfs_grammar.specs.Words.{NeverBelow}
use Rattle.vfs_grammar.specs.declared.error.Error.{Error}

-- request 9, STATFS of node 1: a header alone, of 40 bytes
abbrev pub statfs_request : List ℕ
statfs_request =
    (40 ∷ 0 ∷ 0 ∷ 0 ∷ 17 ∷ 0 ∷ 0 ∷ 0 ∷ 9 ∷ 0 ∷ 0 ∷ 0 ∷ 0 ∷ 0 ∷ 0 ∷ 0 ∷ 1 ∷ []) ++ replicate 23 0

-- The reply to request 9, STATFS, of a file system that says nothing else: 96 bytes, with blocks
-- of 512 bytes and names of up to 255.
abbrev pub statfs_reply : List ℕ
statfs_reply =
    (0x60 ∷ 0 ∷ 0 ∷ 0 ∷ 0 ∷ 0 ∷ 0 ∷ 0 ∷ 9 ∷ 0 ∷ 0 ∷ 0 ∷ 0 ∷ 0 ∷ 0 ∷ 0 ∷ [])
    ++ (replicate 40 0 ++ ((0 ∷ 2 ∷ 0 ∷ 0 ∷ 0xff ∷ 0 ∷ 0 ∷ 0 ∷ []) ++ replicate 32 0))

-- the reply to request 2 that says ENOMEM: 16 bytes, and the error number 12 negated
abbrev pub no_memory_reply : List ℕ
no_memory_reply =
    0x10 ∷ 0 ∷ 0 ∷ 0 ∷ 0xf4 ∷ 0xff ∷ 0xff ∷ 0xff ∷ 2 ∷ 0 ∷ 0 ∷ 0 ∷ 0 ∷ 0 ∷ 0 ∷ 0 ∷ []

-- Request 7, INIT of version 7.38 with a read-ahead of 131,072 bytes, that offers the options of bits
-- 0, 1 and 3: ASYNC_READ, POSIX_LOCKS and ATOMIC_O_TRUNC. It has a header and a record, of 56 bytes.
abbrev pub init_request : List ℕ
init_request =
    (56 ∷ 0 ∷ 0 ∷ 0 ∷ 26 ∷ 0 ∷ 0 ∷ 0 ∷ 7 ∷ 0 ∷ 0 ∷ 0 ∷ 0 ∷ 0 ∷ 0 ∷ 0 ∷ [])
    ++ (replicate 24 0
    ++ (7 ∷ 0 ∷ 0 ∷ 0 ∷ 38 ∷ 0 ∷ 0 ∷ 0 ∷ 0 ∷ 0 ∷ 2 ∷ 0 ∷ 11 ∷ 0 ∷ 0 ∷ 0 ∷ []))

-- The reply to request 7, INIT with a read-ahead of 131,072 bytes, where the options of bits 0 and 3
-- are agreed on and a page has 4,096 bytes: 80 bytes, with version 7.38, 65,535 and 49,149 requests
-- in the background, writes of up to 1,048,576 bytes, times in steps of one nanosecond, and 256
-- pages.
abbrev pub init_reply : List ℕ
init_reply =
    (0x50 ∷ 0 ∷ 0 ∷ 0 ∷ 0 ∷ 0 ∷ 0 ∷ 0 ∷ 7 ∷ 0 ∷ 0 ∷ 0 ∷ 0 ∷ 0 ∷ 0 ∷ 0 ∷ [])
    ++ ((7 ∷ 0 ∷ 0 ∷ 0 ∷ 38 ∷ 0 ∷ 0 ∷ 0 ∷ 0 ∷ 0 ∷ 2 ∷ 0 ∷ 9 ∷ 0 ∷ 0 ∷ 0 ∷ [])
    ++ ((0xff ∷ 0xff ∷ 0xfd ∷ 0xbf ∷ 0 ∷ 0 ∷ 0x10 ∷ 0 ∷ 1 ∷ 0 ∷ 0 ∷ 0 ∷ 0 ∷ 1 ∷ 0 ∷ 0 ∷ [])
    ++ replicate 32 0))

-- request 8, LOOKUP of `a` in node 1: a header and a name, of 42 bytes
abbrev pub lookup_request : List ℕ
lookup_request =
    (42 ∷ 0 ∷ 0 ∷ 0 ∷ 1 ∷ 0 ∷ 0 ∷ 0 ∷ 8 ∷ 0 ∷ 0 ∷ 0 ∷ 0 ∷ 0 ∷ 0 ∷ 0 ∷ 1 ∷ [])
    ++ (replicate 23 0 ++ (97 ∷ 0 ∷ []))

-- the reply to request 8 that says ENOSYS: 16 bytes, and the error number 38 negated
abbrev pub lookup_reply : List ℕ
lookup_reply =
    0x10 ∷ 0 ∷ 0 ∷ 0 ∷ 0xda ∷ 0xff ∷ 0xff ∷ 0xff ∷ 8 ∷ 0 ∷ 0 ∷ 0 ∷ 0 ∷ 0 ∷ 0 ∷ 0 ∷ []

-- a reader of a request that lies in one segment, before it has given anything
abbrev pub in_one_segment : List ℕ → Unread
in_one_segment request =
    record { left = request; taken = 0; pieces = length request ∷ [] }

-- writers that have passed nothing, and have rooms of that many bytes
abbrev pub AreRooms : (lengths : List ℕ) → List Written → Type 0
AreRooms [] [] = Unit {0}
AreRooms (n ∷ lengths) (w ∷ writers) =
    (w.passed ≡ []) × (length w.left ≡ n) × AreRooms lengths writers
AreRooms _ _ = ⊥

-- A run of a file system in which three more of node 5 were sent back than answered; and of node 6
-- never more than that, at no time.
pub record SendsThreeBack {S I : Type 0} (allows : S → Call → Handed I → S → Type 0)
    (gives : I → Option Item → I → Type 0) (old new : S) : Type 0 where
  pub events : List Event
  pub is_run : IsRun allows gives None old events new
  pub three_more : answered 5 events + 3 ≡ sent 5 events
  pub never_below : NeverBelow 6 events

-- of an unknown opcode, or of one whose requests have no tail and no pairs, one for each such form
abbrev pub IsWithoutTail : Option Opcode → Type 0
IsWithoutTail o =
    (o ≡ None)
    ⊎ ((o ≡ Some Getattr)
    ⊎ ((o ≡ Some Read)
    ⊎ ((o ≡ Some Write)
    ⊎ ((o ≡ Some opcode.Readdir)
    ⊎ ((o ≡ Some Init)
    ⊎ ((o ≡ Some Interrupt) ⊎ (o ≡ Some SetupMapping)))))))

-- READDIR's call: of node 1 by handle 0, from offset 0 on, with 24 bytes for records
abbrev pub small_readdir : Call
small_readdir = Readdir (record { uid = 0; gid = 0; pid = pos 0 }) 1 0 24 0

-- the header of the reply to request 9 that says ENOTDIR: 16 bytes, and the error number 20 negated
abbrev pub no_directory_reply : List ℕ
no_directory_reply =
    0x10 ∷ 0 ∷ 0 ∷ 0 ∷ 0xec ∷ 0xff ∷ 0xff ∷ 0xff ∷ 9 ∷ 0 ∷ 0 ∷ 0 ∷ 0 ∷ 0 ∷ 0 ∷ 0 ∷ []

-- the header of the reply to request 9 that says no fault and has nothing after it
abbrev pub no_records_reply : List ℕ
no_records_reply = 0x10 ∷ 0 ∷ 0 ∷ 0 ∷ 0 ∷ 0 ∷ 0 ∷ 0 ∷ 9 ∷ 0 ∷ 0 ∷ 0 ∷ 0 ∷ 0 ∷ 0 ∷ 0 ∷ []

-- A run of a file system by a READDIR of 24 bytes, with this outcome and the room afterwards. At
-- most two items were taken; where `readdir` failed by ENOTDIR, that is the reply; and where the
-- first taking was the end, the reply has no record.
pub record ReadsOneRecord {S I : Type 0} (allows : S → Call → Handed I → S → Type 0)
    (gives : I → Option Item → I → Type 0) (old : S) (outcome : Result ℕ Error)
    (room_after : List ℕ) (new : S) : Type 0 where
  pub events : List Event
  pub is_run : IsRun allows gives None old events new
  pub few : length (takings events) ≤ 2
  pub failed :
      events ≡ Called small_readdir (Failed (Some 20)) ∷ []
      → (outcome ≡ Ok 16) × (take 16 room_after ≡ no_directory_reply)
  pub empty :
      events ≡ OpenedDirectory small_readdir ∷ Taken None ∷ []
      → (outcome ≡ Ok 16) × (take 16 room_after ≡ no_records_reply)
