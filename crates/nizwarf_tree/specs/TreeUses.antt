-- What small callers of the library say.
use denote.RawPtr.{Ptr}
use Rattle.std.specs.Prelude.{◌≡◌, ◌≢◌, ◌≤◌, ◌+◌, ◌/◌, ℕ, ℤ, ◌-◌, ◌++◌, List, [], ◌∷◌, length, drop, min, Some, None}
use Rattle.vfs_files.specs.Calls.{Answer}
use Rattle.vfs_files.specs.Runs.{Event, IsRun}
use Rattle.vfs_grammar.specs.Ask.{ask}
use Rattle.vfs_grammar.specs.Directories.{least_record, takings}
use Rattle.vfs_grammar.specs.Forms.{Lists}
use Rattle.vfs_grammar.specs.Listing.{Listing}
use Rattle.vfs_grammar.specs.Reply.{Echo}
use Rattle.vfs_grammar.specs.Samples.{eight, four, header_9, zeros}
use Rattle.codec_calls.specs.Shapes.{nothing}
use Rattle.codec_calls.specs.declared.call.CallData.{CallData}
use Rattle.codec_calls.specs.declared.call.kind.TheConstants as kind
use Rattle.codec_calls.specs.declared.call.number.TheConstants as number
use Rattle.codec_decode.specs.Further.{Ordinary}
use Rattle.laws_flight.specs.OfferedTurns.{OfferedTurn, IsOfferedTurn}
use Rattle.vfs_server.specs.Step.{ServerState}
use Rattle.c_rooms.specs.Codes.{ok, length_of, no_memory, outcome_code, too_long}
use Rattle.nizwarf_tree.specs.Files.{State, Allows, Gives}
use Rattle.nizwarf_tree.specs.History.{AnsweredAs}
use Rattle.nizwarf_tree.specs.Offered.{row_limits, what_asked}
use Rattle.nizwarf_tree.specs.declared.memory.Place.{Place}

-- the reply to request 9 that says ENOENT: 16 bytes, and the error number 2 negated
abbrev pub no_such_name : List ℕ
no_such_name =
    0x10 ∷ 0 ∷ 0 ∷ 0 ∷ 0xfe ∷ 0xff ∷ 0xff ∷ 0xff ∷ 9 ∷ 0 ∷ 0 ∷ 0 ∷ 0 ∷ 0 ∷ 0 ∷ 0 ∷ []

-- The server answered a request, and the reply has that many bytes. They lie at a place in
-- these bytes of memory, which lie at a pointer.
pub record IsTaken (old : ServerState State) (request : List ℕ) (total len : ℕ) (bytes : List ℕ) (at : Ptr)
    (place : Place) (new : ServerState State) : Type 0 where
  pub answered :
      AnsweredAs (what_asked old.limits request) old request total ok len (drop place.start bytes) len new
  pub pointed : place.at ≡ at
  pub counted : place.len ≡ min len (length bytes - place.start)

-- A server answered a row by which this call was asked: a turn of the further table with this answer. The reply has
-- that many bytes, and the server is as it was.
pub record IsRow (old : ServerState State) (call : CallData) (answer : Answer) (total len : ℕ) (room : List ℕ)
    (new : ServerState State) : Type 0 where
  pub t : OfferedTurn
  pub turn : IsOfferedTurn (row_limits old.limits) old.options t old.options
  pub row : t.row ≡ Some (call, answer)
  pub space : length t.turn.room ≡ total
  pub fine : outcome_code t.turn.outcome ≡ ok
  pub counted : len ≡ length_of t.turn.outcome
  pub left : room ≡ t.turn.room_after
  pub same : new ≡ old

-- request 9: an IOCTL of node 1, FS_IOC_GETFLAGS, for at most 4 bytes of output
abbrev pub getflags : List ℕ
getflags =
    header_9 72 39 ++ (eight 0 ++ (four 0 ++ ((0x01 ∷ 0x66 ∷ 0x08 ∷ 0x80 ∷ zeros 8) ++ (four 0 ++ four 4))))

-- the call that it asks for
abbrev pub getflags_asked : (options room : ℕ) → CallData
getflags_asked options room = record nothing {
  unique = 9;
  options = options;
  room = room;
  node = 1;
  «data» = record { at = 72; len = 0 };
  call = number.IOCTL;
  answer = kind.BYTES;
  more = 0x80086601;
  size = 4;
}

-- a request that was handed on, and that asks for a directory, took few items of it, in a run of the tree
abbrev pub TakesFewItems : (old : ServerState State) → (request : List ℕ) → (total : ℕ) → (code : ℤ)
    → (new : ServerState State) → Type 0
TakesFewItems old request total code new =
    (echo : Echo) (l : Listing) → what_asked old.limits request ≡ Ordinary
    → ask old.limits old.options total request ≡ Lists echo l → code ≢ no_memory → code ≢ too_long
    → (events : List Event) × IsRun Allows Gives None old.fs events new.fs
    × (length (takings events) ≤ l.size / least_record l.plus + 1)
