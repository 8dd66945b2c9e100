-- How records of a directory are put through a writer, and what is left of one that is cut short.
use Rattle.std.specs.Prelude.{◌≡◌, ◌≤◌, ◌↔◌, ℕ, List, length, take, Option, Some, None, Result, Ok, Err, IsOk, ◌-◌, [], Bool, true, false, ◌++◌, MatchResult, sum_by}
use Rattle.vfs_segments.specs.Written.{Written, wrote}
use Rattle.vfs_files.specs.Values.{Item}
use Rattle.vfs_files.specs.declared.entry.Entry.{Entry}
use Rattle.vfs_files.specs.Calls.{Call, Lookup, Forget, Readdir, directory_answer, Handed, Plain, Failed, Found, Done}
use Rattle.vfs_files.specs.Runs.{Event, IsRun}
use Rattle.vfs_files.specs.declared.entry.Context.{Context}
use Rattle.vfs_grammar.specs.Listing.{record_len, Verdict, Fits, Full, Fails, At, End, Stop, line_bytes, Got, node_got, is_dot, line_len, IsListing, verdict}
use Rattle.vfs_grammar.specs.Words.{record_bytes, FitsOption, IsDotEntry, IsDirectoryOf}

-- as much of these bytes was put as there is room for, and that is all of them exactly where the
-- answer is Ok
pub record PutsBeginning {E : Type 0}
    (old : Written) (bytes : List ℕ) (result : Result (Unit {0}) E) (new : Written) : Type 0 where
  pub puts : new ≡ wrote old (take (length old.left) bytes)
  pub whole : IsOk result ↔ (length bytes ≤ length old.left)

-- a record was added with this verdict: where it fits it was put whole, and its length is answered;
-- where it is too long nothing was put, and 0 is answered; where it fails the fault is answered,
-- and for want of room its beginning was put
abbrev pub Adds :
    Verdict → Option Entry → Item → Written → Result ℕ (Option ℕ) → Written → Type 0
Adds Fits entry i old result new =
    (result ≡ Ok (record_len entry i)) × (new ≡ wrote old (record_bytes entry i)) × FitsOption entry
Adds Full entry i old result new = (result ≡ Ok 0) × (new ≡ old)
Adds (Fails None) entry i old result new =
    (result ≡ Err None) × (new ≡ wrote old (take (length old.left) (record_bytes entry i)))
Adds (Fails (Some number)) entry i old result new = (result ≡ Err (Some number)) × (new ≡ old)

-- what was put of a record that was not written, by what became of it: for want of room its
-- beginning, as much as there is room for, and else nothing
abbrev pub cut_by : Verdict → (space : ℕ) → List ℕ → List ℕ
cut_by (Fails None) space bytes = take space bytes
cut_by _ space bytes = []

-- what comes after that many bytes of records though it does not count: the beginning of the record
-- of the last item, where the room was too small for it
abbrev pub cut_short : (size space written : ℕ) → Stop → List ℕ
cut_short size space written End = []
cut_short size space written (At l) = cut_by ((verdict (size - written) (space - written) l.got l.item)) (space - written) (line_bytes l)

-- what its lookup gives an item
abbrev pub got_of : Result Entry (Option ℕ) → Got
got_of (Ok entry) = Ok (Some entry)
got_of (Err fault) = Err fault

-- the record of an item that got this was added; where it got a fault, this is the answer, and
-- nothing was put
abbrev pub AddsGot : (max space : ℕ) → Got → Item → Written → Result ℕ (Option ℕ) → Written → Type 0
AddsGot max space (Ok entry) i old result new =
    Adds (verdict max space (Ok entry) i) entry i old result new
AddsGot max space (Err fault) i old result new = (result ≡ Err fault) × (new ≡ old)

-- these bytes were put into the next bytes of the room
pub record Puts (old : Written) (bytes : List ℕ) (new : Written) : Type 0 where
  pub within : length bytes ≤ length old.left
  pub wrote : new ≡ wrote old bytes

module _ {S I : Type 0} (allows : S → Call → Handed I → S → Type 0) (ctx : Context) where
  -- the lookup of a name gave this
  abbrev pub LooksUpName : (parent : ℕ) (name : List ℕ) → S → Got → S → Type 0
  LooksUpName parent name old (Ok (Some entry)) new =
      allows old (Lookup ctx parent name) (Plain (Found entry)) new
  LooksUpName parent name old (Ok None) new = ⊥
  LooksUpName parent name old (Err fault) new =
      allows old (Lookup ctx parent name) (Plain (Failed fault)) new

  -- an item got this: it is looked up where entries are wanted, but for `.` and `..`
  abbrev pub LooksUp : (plus dot : Bool) (parent : ℕ) → Item → S → Got → S → Type 0
  LooksUp false dot parent i old got new = (got ≡ Ok None) × (new ≡ old)
  LooksUp true true parent i old got new = IsDotEntry i got × (new ≡ old)
  LooksUp true false parent i old got new = LooksUpName parent i.name old got new

  -- one lookup of a node is given back, where there is a node
  abbrev pub GivesBackNode : Option ℕ → S → S → Type 0
  GivesBackNode None old new = new ≡ old
  GivesBackNode (Some node) old new = allows old (Forget ctx node 1) (Plain Done) new

  -- the entry that was got is given back where its record was not written
  abbrev pub GivesBack : Verdict → Got → S → S → Type 0
  GivesBack Fits got old new = new ≡ old
  GivesBack Full got old new = GivesBackNode (node_got got) old new
  GivesBack (Fails fault) got old new = GivesBackNode (node_got got) old new

  -- an item, after it was taken, is looked up, added, and given back where it was not written
  pub record AddsLine
      (plus : Bool) (parent max : ℕ) (i : Item)
      (old : S) (writer : Written) (result : Result ℕ (Option ℕ)) (new : S) (writer_after : Written) : Type 0
    where
      pub got : Got
      pub middle : S
      pub looks_up : LooksUp plus (is_dot i.name) parent i old got middle
      pub adds : AddsGot max (length writer.left) got i writer result writer_after
      pub gives_back : GivesBack (verdict max (length writer.left) got i) got middle new

module _ {S I : Type 0}
    (allows : S → Call → Handed I → S → Type 0) (gives : I → Option Item → I → Type 0)
    (ctx : Context) where
  -- A directory is read from an iterator: there is a run whose events are those of a listing, and
  -- its records are put into the room. After them is the beginning of one more where the room
  -- was too small for it.
  pub record ReadsItems
      (plus : Bool) (parent size : ℕ) (it : I)
      (old : S) (writer : Written) (result : Result ℕ (Option ℕ)) (new : S) (writer_after : Written) : Type 0
    where
      pub events : List Event
      pub body : List ℕ
      pub is_run : IsRun allows gives (Some it) old events new
      pub listing : IsListing plus ctx parent size (length writer.left) events body result
      pub puts :
          Puts writer
          (body ++ cut_short size (length writer.left) (sum_by line_len listing.lines) listing.stop)
          writer_after

  -- `readdir` is called. The directory is read from the iterator that it hands back; or its fault
  -- is the answer, and nothing is taken and nothing put.
  pub record ReadsDirectory
      (plus : Bool) (parent handle size offset : ℕ)
      (old : S) (writer : Written) (result : Result ℕ (Option ℕ)) (new : S) (writer_after : Written) : Type 0
    where
      pub opened : Result I (Option ℕ)
      pub middle : S
      pub opens :
          allows old (Readdir ctx parent handle size offset) (directory_answer opened) middle
      pub reads :
          MatchResult opened
          (λ it. ReadsItems plus parent size it middle writer result new writer_after)
          (λ fault. (result ≡ Err fault) × (new ≡ middle) × (writer_after ≡ writer))

  -- the same in events: there is a run, which begins with no iterator at hand, and its events are
  -- those of a whole READDIR or READDIRPLUS. What comes after the records isn't said
  pub record RunsDirectory
      (plus : Bool) (parent handle size offset : ℕ)
      (old : S) (writer : Written) (result : Result ℕ (Option ℕ)) (new : S) (writer_after : Written) : Type 0
    where
      pub events : List Event
      pub body : List ℕ
      pub beyond : List ℕ
      pub is_run : IsRun allows gives None old events new
      pub directory :
          IsDirectoryOf plus ctx parent handle size offset (length writer.left) events body
          result
      pub puts : Puts writer (body ++ beyond) writer_after
