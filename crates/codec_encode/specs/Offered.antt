-- The items of a directory that are offered to a reply, and those that are taken. Begin with `AreOffered`.
use Rattle.std.specs.Prelude.{◌≡◌, ◌≢◌, ◌⊎◌, ⊤, ℕ, pos, length, List, [], ◌∷◌, ◌++◌, Bool, true, false, Option, None, Some, Result, Ok, Err, sum_by}
use Rattle.std.specs.List.{flat_map}
use Rattle.vfs_segments.specs.Written.{Written}
use Rattle.vfs_files.specs.Values.{entry_out_of, Item, name_of}
use Rattle.vfs_grammar.specs.Listing.{Got, Line, Stop, End, At, is_dot, IsGot, AreWritten, Stops, answer_of, line_len, line_bytes}
use Rattle.vfs_listings.specs.Reading.{AddsGot, Puts, cut_short}
use Rattle.codec_calls.specs.Values.{IsFaultOf, entry_out_for}
use Rattle.codec_calls.specs.declared.data.AnswerData.{AnswerData}
use Rattle.codec_calls.specs.declared.data.ItemData.{ItemData}
use Rattle.codec_encode.specs.Said.{IsFailed}

-- an item with this name
abbrev pub item_told : ItemData → (name : List ℕ) → Item
item_told i name = record { ino = i.ino; offset = i.offset; type_ = i.type_; name = name }

-- what the lookup of an item got, as it was offered: an entry, or the fault of its number. That is of the items of a
-- READDIRPLUS, but `.` and `..`: no others are looked up
abbrev pub IsFound : (plus dot : Bool) → ItemData → Got → Type 0
IsFound true false i (Ok (Some entry)) = (i.error ≡ pos 0) × (entry_out_of entry ≡ entry_out_for i.entry)
IsFound true false i (Ok None) = ⊥
IsFound true false i (Err fault) = (i.error ≢ pos 0) × IsFaultOf i.error fault
IsFound plus dot i got = ⊤

-- a line is that of this item
pub record IsLine (plus : Bool) (i : ItemData) (l : Line) : Type 0 where
  pub name : List ℕ
  pub named : name_of i.name.now ≡ Some name
  pub item : l.item ≡ item_told i name
  pub found : IsFound plus (is_dot name) i l.got

-- The items that were offered, of which these lines were taken: the next one, if there is one, stopped
-- the reading. Items end at the first whose name is none.
abbrev pub AreOffered : (plus : Bool) → List ItemData → List Line → Stop → Type 0
AreOffered plus [] [] End = ⊤
AreOffered plus (i ∷ items) [] End = name_of i.name.now ≡ None
AreOffered plus (i ∷ items) [] (At l) = IsLine plus i l
AreOffered plus (i ∷ items) (l ∷ lines) stop = IsLine plus i l × AreOffered plus items lines stop
AreOffered plus items lines stop = ⊥

-- how many items are in the reply: none where it is a fault
abbrev pub taken_by : Result ℕ (Option ℕ) → (lines : ℕ) → ℕ
taken_by (Ok written) lines = lines
taken_by (Err fault) lines = 0

-- ---- no more is of the promise: the rest is for proofs, and for contracts of parts

-- these lines are those of these items, one of each, in order
abbrev pub AreTaken : (plus : Bool) → List ItemData → List Line → Type 0
AreTaken plus [] [] = ⊤
AreTaken plus (i ∷ items) (l ∷ lines) = IsLine plus i l × AreTaken plus items lines
AreTaken plus items lines = ⊥

-- an item was added with what it got, or why it wasn't
pub record AddsItem (plus : Bool) (max : ℕ) (i : ItemData) (old : Written) (result : Result ℕ (Option ℕ))
    (new : Written) : Type 0 where
  pub line : Line
  pub is_line : IsLine plus i line
  pub is_got : IsGot plus line
  pub adds : AddsGot max (length old.left) line.got line.item old result new

-- A directory was read from these items, which were offered: their records were put, and after them
-- perhaps the beginning of one more.
pub record ReadsOffered (plus : Bool) (size : ℕ) (items : List ItemData) (old : Written)
    (answer : Result ℕ (Option ℕ)) (taken : ℕ) (new : Written) : Type 0 where
  pub lines : List Line
  pub stop : Stop
  pub written : AreWritten plus size (length old.left) 0 lines
  pub stops : Stops plus size (length old.left) (sum_by line_len lines) stop
  pub answer_is : answer ≡ answer_of plus size (length old.left) (sum_by line_len lines) stop
  pub offered : AreOffered plus items lines stop
  pub taken_is : taken ≡ taken_by answer (length lines)
  pub puts : Puts old
      (flat_map line_bytes lines ++ cut_short size (length old.left) (sum_by line_len lines) stop) new

-- The same, or where the directory was not opened the fault is the answer, and nothing was put.
abbrev pub ListsOffered : (plus : Bool) (size : ℕ) → AnswerData → (items : List ItemData)
    → (old : Written) → (answer : Result ℕ (Option ℕ)) → (taken : ℕ) → (new : Written) → Type 0
ListsOffered plus size a items old answer taken new =
    ((fault : Option ℕ) × IsFailed a fault × (answer ≡ Err fault) × (taken ≡ 0) × (new ≡ old))
    ⊎ ((a.error ≡ pos 0) × ReadsOffered plus size items old answer taken new)
