-- What is promised of every directory that is read: it stops for a cause, it is whole where nothing
-- cuts it short, and few items are taken.
use Rattle.std.specs.Prelude.{◌≡◌, ◌≤◌, ◌<◌, ⊤, ◌+◌, ◌^◌, ◌⊎◌, ℕ, Bool, true, false, List, [], ◌∷◌, ◌++◌, length, Option, Some, Result, Ok, ◌/◌, Err}
use Rattle.std.specs.List.{All, flat_map}
use Rattle.vfs_files.specs.Calls.{Failed, Readdir}
use Rattle.vfs_files.specs.Values.{Item}
use Rattle.vfs_files.specs.Runs.{Event, Called, OpenedDirectory, Taken}
use Rattle.vfs_files.specs.declared.entry.Context.{Context}
use Rattle.vfs_wire.specs.Records.{dirent, entry_out}
use Rattle.vfs_grammar.specs.Listing.{Listing, Line, End, At, IsGot, IsDirectory, line_events, stop_events, line_len, line_bytes}
use Rattle.vfs_grammar.specs.Records.{size_of}
use Rattle.vfs_grammar.specs.Reply.{fault_reply, body_reply}
use Rattle.vfs_grammar.specs.Room.{IsPutOpen}
use Rattle.vfs_grammar.specs.Turn.{Turn}

-- the items that were taken, in order, and none where the iterator answered its end
abbrev pub takings : List Event → List (Option Item)
takings [] = []
takings (Called call answer ∷ events) = takings events
takings (OpenedDirectory call ∷ events) = takings events
takings (Taken item ∷ events) = item ∷ takings events

-- how long a record is at least: for READDIR without an entry, for READDIRPLUS with one
abbrev pub least_record : (plus : Bool) → ℕ
least_record false = size_of dirent
least_record true = size_of entry_out + size_of dirent

-- nothing here cuts a reading short: no call failed, and no item has a name of 2 ^ 32 bytes or more
abbrev pub GoesOn : Event → Type 0
GoesOn (Called call (Failed fault)) = ⊥
GoesOn (Taken (Some item)) = length item.name < 2 ^ 32
GoesOn _ = ⊤

-- the reading ended with the directory
abbrev pub EndsWhole : (plus : Bool) (ctx : Context) (parent : ℕ) → List Event → List Line → Type 0
EndsWhole plus ctx parent events lines =
    events ≡ flat_map (line_events ctx parent plus) lines ++ stop_events ctx parent plus End

-- the reading ended with an item that got what it should, and whose record, put after these bytes,
-- would pass `size`
pub record EndsFull
    (plus : Bool) (ctx : Context) (parent size : ℕ)
    (events : List Event) (lines : List Line) (records : List ℕ) : Type 0 where
  pub last : Line
  pub events_are :
      events
      ≡ flat_map (line_events ctx parent plus) lines ++ stop_events ctx parent plus (At last)
  pub got : IsGot plus last
  pub passes : size < length records + line_len last

-- A directory that is whole: the records are those of all items taken, in order, each with what
-- the item should get, but of a last one whose record would pass `size`; where there is no such one,
-- the iterator answered its end. The records don't pass `size`.
pub record IsWhole
    (plus : Bool) (ctx : Context) (parent size : ℕ)
    (events : List Event) (records : List ℕ) (result : Result ℕ (Option ℕ)) : Type 0 where
  pub lines : List Line
  pub got : All (IsGot plus) lines
  pub records_are : records ≡ flat_map line_bytes lines
  pub answer_is : result ≡ Ok (length records)
  pub within : length records ≤ size
  pub ends :
      EndsWhole plus ctx parent events lines ⊎ EndsFull plus ctx parent size events lines records

-- the reply to the reading of a directory: its records, or the fault
abbrev pub listing_reply : Result ℕ (Option ℕ) → (records : List ℕ) → (unique : ℕ) → List ℕ
listing_reply (Ok count) records unique = body_reply records unique
listing_reply (Err fault) records unique = fault_reply fault unique

-- The reading of a directory stopped for a cause: at its end, at a fault, or at the first item that
-- was not written; and what it gave up to there is what came back.
pub record StopsForACause (l : Listing) (unique : ℕ) (t : Turn) : Type 0 where
  pub records : List ℕ
  pub answer : Result ℕ (Option ℕ)
  pub stops : IsDirectory l t.events records answer
  pub replied : IsPutOpen (listing_reply answer records unique) t.room t.outcome t.room_after

-- A directory came back whole: the records of all items that were taken but of a last one whose
-- record would pass `size`; where there is no such one, the iterator answered its end.
pub record CameWhole (l : Listing) (unique : ℕ) (taken : List Event) (t : Turn) : Type 0 where
  pub records : List ℕ
  pub whole : IsWhole l.plus l.ctx l.parent l.size taken records (Ok (length records))
  pub replied : IsPutOpen (body_reply records unique) t.room t.outcome t.room_after

-- where the directory was opened, there is room for as much as was asked for, no lookup failed and
-- no name has 2 ^ 32 bytes or more, it came back whole
abbrev pub ComesWhole : (l : Listing) (unique : ℕ) (t : Turn) → Type 0
ComesWhole l unique t =
    (taken : List Event)
    → t.events ≡ OpenedDirectory (Readdir l.ctx l.parent l.handle l.size l.offset) ∷ taken
    → l.size ≤ l.space → All GoesOn taken → CameWhole l unique taken t

-- no more items were taken than records can have been asked for, and one
abbrev pub TakesFew : (l : Listing) (t : Turn) → Type 0
TakesFew l t = length (takings t.events) ≤ l.size / least_record l.plus + 1
