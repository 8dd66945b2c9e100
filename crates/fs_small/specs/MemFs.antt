-- The file system in memory: its files in order of creation, and what its calls answer of them.
use Rattle.std.specs.Prelude.{◌≡◌, ℕ, zero, suc, ◌==◌, ◌+◌, ◌-◌, ◌^◌, ◌||◌, nat_le, not, List, [], ◌∷◌, ◌++◌, length, map, take, drop, slice_index_or, find, position, remove, codes, Option, Some, None, is_some, Result, Ok, Err, if◌then◌else◌}
use Rattle.std.specs.Str.{bytes_eq}
use Rattle.vfs_flags.specs.Numbers.{enoent, enomem, eexist, enotdir, enospc}
use Rattle.vfs_wire.specs.declared.attributes.Attr.{Attr}
use Rattle.vfs_files.specs.declared.entry.Entry.{Entry}
use Rattle.vfs_files.specs.Values.{Item}
use Rattle.vfs_files.specs.Calls.{Call, Init, Lookup, Getattr, Unlink, Read, Write, Readdir, Create, Answer, Done, Failed, Options, Found, Attributes, Put, Created, Wrote, Handed, Plain, Iterator, default_answer}
use Rattle.vfs_files.specs.Bytes.{part_of, most_put}
use Rattle.fs_small.specs.Makers.{attr_of, IsSecond}
use Rattle.fs_small.specs.Makers as makers
use Rattle.fs_small.specs.MemFile.{Writes}

-- a file: its node, its name and its contents
pub record Stored : Type 0 where
  pub node : ℕ
  pub name : List ℕ
  pub contents : List ℕ

-- the files of the root in order of creation, and the node of the next one
pub record Stock : Type 0 where
  pub files : List Stored
  pub next : ℕ

-- what a new file system holds: one file
abbrev pub first_stock : Stock
first_stock = record {
  files = record { node = 2; name = codes "a"; contents = codes "hello" } ∷ [];
  next = 3;
}

-- the attributes of the root: a directory that all may read and search, and its owner write
abbrev pub root_attr : Attr
root_attr = attr_of 1 0o40755 2 0

-- the attributes of a file: one that all may read and its owner write
abbrev pub file_attr : Stored → Attr
file_attr file = attr_of file.node 0o100644 1 (length file.contents)

-- the file of this name in this directory, which only the root can be
abbrev pub file_named : Stock → (parent : ℕ) → (name : List ℕ) → Option Stored
file_named stock parent name =
    if parent == 1 then find (λ file. bytes_eq file.name name) stock.files else None

-- where the file of this node is
abbrev pub node_place : Stock → (node : ℕ) → Option ℕ
node_place stock node = position (λ file. file.node == node) stock.files

-- the file of this node
abbrev pub file_at : Stock → (node : ℕ) → Option Stored
file_at stock node = find (λ file. file.node == node) stock.files

-- the attributes of a file, if there is one
abbrev pub attr_option : Option Stored → Option Attr
attr_option None = None
attr_option (Some file) = Some (file_attr file)

-- the attributes of this node
abbrev pub attr_at : Stock → (node : ℕ) → Option Attr
attr_at stock node = if node == 1 then Some root_attr else attr_option (file_at stock node)

-- the entry of a file
abbrev pub IsEntryOf : Stored → Entry → Type 0
IsEntryOf file entry = makers.IsEntryOf file.node (file_attr file) entry

-- a file's entry is answered, or that there is no such file
abbrev pub AnswersEntry : Option Stored → Answer → Type 0
AnswersEntry (Some file) (Found entry) = IsEntryOf file entry
AnswersEntry None (Failed fault) = fault ≡ Some enoent
AnswersEntry _ _ = ⊥

-- attributes are answered, or that there is no such node
abbrev pub AnswersAttr : Option Attr → Answer → Type 0
AnswersAttr (Some attr) (Attributes found timeout) = (found ≡ attr) × IsSecond timeout
AnswersAttr None (Failed fault) = fault ≡ Some enoent
AnswersAttr _ _ = ⊥

-- where the file of this name in this directory is, which only the root can be
abbrev pub place_of : Stock → (parent : ℕ) → (name : List ℕ) → Option ℕ
place_of stock parent name =
    if parent == 1 then position (λ file. bytes_eq file.name name) stock.files else None

-- a file that is at this place is gone, or the answer is that there is no such file
abbrev pub TakesOut : Stock → Option ℕ → Answer → Stock → Type 0
TakesOut old (Some place) answer new =
    (answer ≡ Done) × (new ≡ record old { files = remove old.files place })
TakesOut old None answer new = (answer ≡ Failed (Some enoent)) × (new ≡ old)

-- a new file of this name, without contents
abbrev pub new_file : Stock → (name : List ℕ) → Stored
new_file stock name = record { node = stock.next; name = name; contents = [] }

-- the files with one more
abbrev pub with_file : Stock → Stored → Stock
with_file stock file = record { files = stock.files ++ file ∷ []; next = stock.next + 1 }

-- a file of this name is added and its entry answered, or there was no memory for it and the files
-- stay
abbrev pub AddsFile : Stock → (name : List ℕ) → Result Entry (Option ℕ) → Stock → Type 0
AddsFile old name (Ok entry) new =
    IsEntryOf (new_file old name) entry × (new ≡ with_file old (new_file old name))
AddsFile old name (Err fault) new = (fault ≡ Some enomem) × (new ≡ old)

-- why a file of this name can't be made in this directory: there is no such directory, the name is
-- taken, or there is no place or no number for it
abbrev pub refusal_of : Stock → (parent : ℕ) → (name : List ℕ) → Option ℕ
refusal_of stock parent name =
    if not (parent == 1) then Some enoent
    else if is_some (place_of stock parent name) then Some eexist
    else if nat_le 1000 (length stock.files) || stock.next == 2 ^ 64 - 1 then Some enospc
    else None

-- a file is made and opened without a handle, or refused
abbrev pub Makes : Stock → (name : List ℕ) → Option ℕ → Answer → Stock → Type 0
Makes old name (Some number) answer new = (answer ≡ Failed (Some number)) × (new ≡ old)
Makes old name None (Created entry handle options) new =
    (handle ≡ None) × (options ≡ 0) × AddsFile old name (Ok entry) new
Makes old name None (Failed fault) new = AddsFile old name (Err fault) new
Makes old name None _ new = ⊥

-- the contents of the file at this place
abbrev pub contents_at : List Stored → (place : ℕ) → List ℕ
contents_at files place = slice_index_or (map (λ file. file.contents) files) place []

-- files, where the one at this place has other contents
abbrev pub with_contents : List Stored → (place : ℕ) → List ℕ → List Stored
with_contents [] place bytes = []
with_contents (file ∷ files) zero bytes = record file { contents = bytes } ∷ files
with_contents (file ∷ files) (suc place) bytes = file ∷ with_contents files place bytes

-- bytes of the file at this place are put into a reply, from off on and at most that many: all of
-- these that are there; or there is no such file
abbrev pub AnswersRead : Stock → Option ℕ → (off most : ℕ) → Answer → Type 0
AnswersRead stock (Some place) off most answer =
    answer ≡ Put (part_of (contents_at stock.files place) off most)
AnswersRead stock None off most answer = answer ≡ Failed (Some enoent)

-- these bytes are written into the file at this place from off on, as `Writes` says, and all other
-- files stay; or there is no such file
abbrev pub WritesInto :
    Stock → Option ℕ → (off : ℕ) → (bytes : List ℕ) → Answer → Stock → Type 0
WritesInto old (Some place) off bytes (Wrote count) new =
    (contents : List ℕ) × Writes (contents_at old.files place) bytes off (Ok count) contents
    × (new ≡ record old { files = with_contents old.files place contents })
WritesInto old (Some place) off bytes (Failed fault) new =
    Writes (contents_at old.files place) bytes off (Err fault) (contents_at old.files place)
    × (new ≡ old)
WritesInto old (Some place) off bytes _ new = ⊥
WritesInto old None off bytes answer new = (answer ≡ Failed (Some enoent)) × (new ≡ old)

-- the item of a name that leads back to the root
abbrev pub root_item : (offset : ℕ) → (name : List ℕ) → Item
root_item offset name = record { ino = 1; offset = offset; type_ = 4; name = name }

-- the item of a file
abbrev pub file_item : (offset : ℕ) → Stored → Item
file_item offset file =
    record { ino = file.node; offset = offset; type_ = 8; name = file.name }

-- the items of files in order, with offsets that count on from this one
abbrev pub file_items : (offset : ℕ) → List Stored → List Item
file_items offset [] = []
file_items offset (file ∷ files) = file_item offset file ∷ file_items (offset + 1) files

-- what a root with these files holds: `.`, `..` and then the files, with offsets from 1 on
abbrev pub root_items : List Stored → List Item
root_items files =
    root_item 1 (codes ".") ∷ root_item 2 (codes "..") ∷ file_items 3 files

-- why a reading of this node is refused: there is no memory, or the node is no directory
abbrev pub reading_refusal : (node : ℕ) → ℕ
reading_refusal node = if node == 1 then enomem else enotdir

-- a reading of this node is an iterator over what the root holds now, but for that many items at the
-- beginning; or it is refused
abbrev pub OpensRoot : Stock → (node off : ℕ) → Handed (List Item) → Type 0
OpensRoot stock node off (Iterator items) =
    (node ≡ 1) × (items ≡ drop off (root_items stock.files))
OpensRoot stock node off (Plain answer) = answer ≡ Failed (Some (reading_refusal node))

-- from the old files this call may hand this back and leave the new files: the one table of what
-- the file system does. What it has no line for has its default answer, and the files stay.
abbrev pub MemFsAllows : Stock → Call → Handed (List Item) → Stock → Type 0
MemFsAllows old (Init _) (Plain answer) new = (answer ≡ Options 0x2000) × (new ≡ old)
MemFsAllows old (Lookup _ parent name) (Plain answer) new =
    AnswersEntry (file_named old parent name) answer × (new ≡ old)
MemFsAllows old (Getattr _ inode _) (Plain answer) new =
    AnswersAttr (attr_at old inode) answer × (new ≡ old)
MemFsAllows old (Unlink _ parent name) (Plain answer) new =
    TakesOut old (place_of old parent name) answer new
MemFsAllows old (Create _ parent name _ _ _ _ _) (Plain answer) new =
    Makes old name (refusal_of old parent name) answer new
MemFsAllows old (Read _ inode _ room size off _ _) (Plain answer) new =
    AnswersRead old (node_place old inode) off (most_put room size) answer × (new ≡ old)
MemFsAllows old (Write _ inode _ bytes size off _ _ _ _) (Plain answer) new =
    WritesInto old (node_place old inode) off (take size bytes) answer new
MemFsAllows old (Readdir _ inode _ _ off) handed new = OpensRoot old inode off handed × (new ≡ old)
MemFsAllows old call (Plain answer) new = (answer ≡ default_answer call) × (new ≡ old)
MemFsAllows old call (Iterator _) new = ⊥
