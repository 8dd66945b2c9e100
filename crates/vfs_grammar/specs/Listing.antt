-- The reading of a directory as a whole: the items that were taken and what each got, what stopped
-- it, and what is answered. It leads to `IsListing`, and to `IsDirectory`. Nothing here knows a
-- file system's state or its iterators.
use Rattle.std.specs.Prelude.{◌≡◌, ◌≢◌, ⊤, ◌+◌, ◌-◌, ◌*◌, ◌%◌, ◌^◌, ◌⊎◌, ◌&&◌, ◌||◌, nat_lt, if◌then◌else◌, ℕ, Bool, true, false, List, [], ◌∷◌, ◌++◌, codes, Option, Some, None, Result, Ok, Err, sum_by, length, replicate}
use Rattle.std.specs.List.{flat_map}
use Rattle.std.specs.Str.{bytes_eq}
use Rattle.vfs_wire.specs.declared.entries.EntryOut.{EntryOut}
use Rattle.vfs_files.specs.Calls.{Readdir, Lookup, Forget, Failed, Found, Done}
use Rattle.vfs_files.specs.Values.{entry_out_of, Item}
use Rattle.vfs_files.specs.Runs.{Event, Called, OpenedDirectory, Taken}
use Rattle.vfs_files.specs.declared.entry.Context.{Context}
use Rattle.vfs_files.specs.declared.entry.Entry.{Entry}
use Rattle.std.specs.Int.{next_multiple_of}
use Rattle.vfs_flags.specs.Numbers.{eoverflow}
use Rattle.vfs_wire.specs.Fields.{bytes_of}
use Rattle.vfs_wire.specs.Records.{attr, entry_out, dirent}
use Rattle.vfs_files.specs.Answers.{FitsEntry}
use Rattle.vfs_grammar.specs.Records.{size_of}

-- A directory that is to be read for this caller from this offset on, where `plus` with an
-- `EntryOut` in front of each record. Two numbers bound the bytes of its records: `size` is what the
-- request asks for at most, and `space` what the room has for them; here and in READ, that is the
-- room less the header of a reply.
pub record Listing : Type 0 where
  pub plus : Bool
  pub ctx : Context
  pub parent : ℕ
  pub handle : ℕ
  pub size : ℕ
  pub offset : ℕ
  pub space : ℕ

-- ---- the record of an item. What is named `.._len` is proved to be the length of `.._bytes`, and `len_of` that of
-- `bytes_got`, and can be read so (`length-dirent_bytes`, `length-record_bytes`, `length-lines` in proofs)

-- how long the record of an item with a name of this length is, without an entry: a `Dirent`
-- and the name, rounded up to a multiple of 8
abbrev pub dirent_len : ℕ → ℕ
dirent_len n = next_multiple_of (size_of dirent + n) 8

-- how long the `EntryOut` of an entry is, where there is one
abbrev pub entry_len : Option Entry → ℕ
entry_len None = 0
entry_len (Some entry) = size_of entry_out

-- the bytes of a record without an entry: the `Dirent`, the name, and zeros to a multiple of 8
unfoldable pub dirent_bytes : Item → List ℕ
dirent_bytes i =
    bytes_of dirent
    (record { ino = i.ino; off = i.offset; namelen = length i.name; type_ = i.type_ })
    ++ (i.name ++ replicate (dirent_len (length i.name) - (size_of dirent + length i.name)) 0)

-- the bytes of the `EntryOut` of an entry, where there is one
abbrev pub entry_bytes : Option Entry → List ℕ
entry_bytes None = []
entry_bytes (Some entry) = bytes_of entry_out (entry_out_of entry)

-- what becomes of a record: it is put whole; it is too long for what may still be put; or it fails (`Fits` is of the
-- room, where the `Fits..` of Answers are of widths)
pub data Verdict : Type 0 where
  Fits : Verdict
  Full : Verdict
  Fails : (fault : Option ℕ) → Verdict

-- ---- items and what they get

-- what an item got: an entry for READDIRPLUS, none for READDIR, or the fault of its lookup
abbrev pub Got : Type 0
Got = Result (Option Entry) (Option ℕ)

-- the node of the entry that was got, if one was
abbrev pub node_got : Got → Option ℕ
node_got (Ok (Some entry)) = Some entry.inode
node_got _ = None

-- an item that was taken, and what it got
pub record Line : Type 0 where
  pub item : Item
  pub got : Got

-- what stopped the reading: the end of the directory, or an item that was not written
pub data Stop : Type 0 where
  End : Stop
  At : (line : Line) → Stop

-- ---- what an item gets

-- whether a name is `.` or `..`, which are not looked up
abbrev pub is_dot : List ℕ → Bool
is_dot name = bytes_eq name (codes ".") || bytes_eq name (codes "..")

-- The `EntryOut` of `.` and `..`: zeros, but for the item's number and its type as a mode, whose
-- twelve low bits are permissions.
abbrev pub dot_out : Item → EntryOut
dot_out i = record (entry_out.made (replicate 22 0)) {
  attr = record (attr.made (replicate 16 0)) { ino = i.ino; mode = (i.type_ * 2 ^ 12) % 2 ^ 32 };
}

-- What an item gets, by whether entries are wanted and whether it is `.` or `..`: these get an
-- entry of their own, and every other item any entry or a fault: that of its lookup, by its events.
abbrev pub Gets : (plus dot : Bool) → Item → Got → Type 0
Gets false dot i got = got ≡ Ok None
Gets true true i (Ok (Some entry)) = entry_out_of entry ≡ dot_out i
Gets true true i _ = ⊥
Gets true false i (Ok None) = ⊥
Gets true false i _ = Unit {0}

-- each number of the entry that was got, if one was, is within its width in the record: of an item that is
-- written
abbrev pub FitsGot : Got → Type 0
FitsGot (Ok (Some entry)) = FitsEntry entry
FitsGot _ = Unit {0}

-- ---- events

-- one lookup of a node is given back, where there is a node
abbrev pub given_back : Context → Option ℕ → List Event
given_back ctx None = []
given_back ctx (Some node) = Called (Forget ctx node 1) Done ∷ []

module _ (ctx : Context) (parent : ℕ) where
  -- the lookup that gave this, where entries are wanted: of every name but `.` and `..`
  abbrev pub lookup_got : (plus dot : Bool) → (name : List ℕ) → Got → List Event
  lookup_got true false name (Ok (Some entry)) = Called (Lookup ctx parent name) (Found entry) ∷ []
  lookup_got true false name (Err fault) = Called (Lookup ctx parent name) (Failed fault) ∷ []
  lookup_got _ _ name got = []

  -- the events of a line: its item is taken, and looked up
  abbrev pub line_events : (plus : Bool) → Line → List Event
  line_events plus l = Taken (Some l.item) ∷ lookup_got plus (is_dot l.item.name) l.item.name l.got

  -- the events of a stop: an entry that was not written is given back, whatever its node is. That of `.` or `..` too,
  -- which nobody looked up: a forget of node 0, as virtiofsd makes it. Nothing is looked up after the stop
  abbrev pub stop_events : (plus : Bool) → Stop → List Event
  stop_events plus End = Taken None ∷ []
  stop_events plus (At l) = line_events plus l ++ given_back ctx (node_got l.got)

-- ---- records, by what their item got: a fault has none

-- how long the record of an item is that got this
abbrev pub len_of : Got → Item → ℕ
len_of (Ok entry) i = entry_len entry + dirent_len (length i.name)
len_of (Err fault) i = 0

-- how long the record of a line is
abbrev pub line_len : Line → ℕ
line_len l = len_of l.got l.item

-- the bytes of the record of an item that got this
abbrev pub bytes_got : Got → Item → List ℕ
bytes_got (Ok entry) i = entry_bytes entry ++ dirent_bytes i
bytes_got (Err fault) i = []

-- What becomes of an item that got this, where `max` bytes are still asked for and `space` bytes of
-- room are left, by the first of these that applies: one whose lookup failed fails with that fault;
-- a name of 2 ^ 32 bytes or more is EOVERFLOW; a record longer than `max` is too long; one longer
-- than the space is a fault of writing, which has no number.
abbrev pub verdict : (max space : ℕ) → Got → Item → Verdict
verdict max space (Err fault) i = Fails fault
verdict max space (Ok entry) i =
    if nat_lt (2 ^ 32 - 1) (length i.name) then Fails (Some eoverflow)
    else if nat_lt max (len_of (Ok entry) i) then Full
    else if nat_lt space (len_of (Ok entry) i) then Fails None
    else Fits

-- ---- the whole

-- these lines are written after that many bytes of records: no stop applies to any of them, and
-- each has what its item gets, an entry within its widths
abbrev pub AreWritten : (plus : Bool) (size space written : ℕ) → List Line → Type 0
AreWritten plus size space written [] = ⊤
AreWritten plus size space written (l ∷ ls) =
    (verdict (size - written) (space - written) l.got l.item ≡ Fits)
    × Gets plus (is_dot l.item.name) l.item l.got × FitsGot l.got
    × AreWritten plus size space (written + line_len l) ls

-- the stop applies after that many bytes of records: the item at it has what it gets, and is not written.
-- Its numbers need no `FitsGot`, since no record has them
abbrev pub Stops : (plus : Bool) (size space written : ℕ) → Stop → Type 0
Stops plus size space written End = ⊤
Stops plus size space written (At l) =
    Gets plus (is_dot l.item.name) l.item l.got
    × (verdict (size - written) (space - written) l.got l.item ≢ Fits)

-- What is answered after that many bytes of records, by what became of the last item: how many they
-- are. But where it failed, READDIR answers the fault, and READDIRPLUS too where nothing was
-- written.
abbrev pub answer_at : (plus : Bool) (written : ℕ) → Verdict → Result ℕ (Option ℕ)
answer_at plus written (Fails fault) = if plus && nat_lt 0 written then Ok written else Err fault
answer_at plus written _ = Ok written

-- what is answered at a stop after that many bytes of records
abbrev pub answer_of : (plus : Bool) (size space written : ℕ) → Stop → Result ℕ (Option ℕ)
answer_of plus size space written End = Ok written
answer_of plus size space written (At l) =
    answer_at plus written (verdict (size - written) (space - written) l.got l.item)

-- A directory that is read from its iterator, for READDIR or, where `plus`, for READDIRPLUS, with
-- at most `size` bytes of records and this space for them. Lines are written whole, and then one
-- stop comes. That gives the events after `readdir`, the records, and the answer: how many bytes
-- these have, or a fault in their place.
pub record IsListing (plus : Bool) (ctx : Context) (parent size space : ℕ) (events : List Event)
    (records : List ℕ) (result : Result ℕ (Option ℕ)) : Type 0 where
  pub lines : List Line
  pub stop : Stop
  pub written : AreWritten plus size space 0 lines
  pub stops : Stops plus size space (sum_by line_len lines) stop
  pub events_are :
      events ≡ flat_map (line_events ctx parent plus) lines ++ stop_events ctx parent plus stop
  pub records_are : records ≡ flat_map (λ l. bytes_got l.got l.item) lines
  pub answer_is : result ≡ answer_of plus size space (sum_by line_len lines) stop

-- A whole READDIR or, where `plus`, READDIRPLUS: its events, the records, and how many bytes these have, or
-- a fault in their place. Either `readdir` failed, which is the answer, and nothing is taken; or it handed
-- back an iterator, and the directory is read from that.
abbrev pub IsDirectory : Listing → List Event → (records : List ℕ) → Result ℕ (Option ℕ) → Type 0
IsDirectory l events records result =
    let call = Readdir l.ctx l.parent l.handle l.size l.offset in
    ((fault : Option ℕ)
    × (events ≡ Called call (Failed fault) ∷ []) × (records ≡ []) × (result ≡ Err fault))
    ⊎ ((takings : List Event)
    × (events ≡ OpenedDirectory call ∷ takings)
    × IsListing l.plus l.ctx l.parent l.size l.space takings records result)

-- ---- no more is of the promise: the rest is for proofs, and for contracts of parts

-- how long a record is
abbrev pub record_len : Option Entry → Item → ℕ
record_len entry i = entry_len entry + dirent_len (length i.name)

-- a line has what its item gets
abbrev pub IsGot : (plus : Bool) → Line → Type 0
IsGot plus l = Gets plus (is_dot l.item.name) l.item l.got

-- the bytes of the record of a line
abbrev pub line_bytes : Line → List ℕ
line_bytes l = bytes_got l.got l.item
