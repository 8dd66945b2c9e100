-- The file system that is made of a tree which is only read: what its calls answer.
use Rattle.std.specs.Prelude.{◌≡◌, ℕ, ◌+◌, ◌==◌, bit_and, Bool, true, false, List, [], ◌∷◌, drop, Option, Some, None, is_some, if◌then◌else◌}
use Rattle.vfs_flags.specs.Numbers.{enoent, enotdir, eisdir, erofs}
use Rattle.vfs_wire.specs.declared.attributes.Attr.{Attr}
use Rattle.vfs_files.specs.Values.{Item}
use Rattle.vfs_files.specs.Calls.{Call, Lookup, Getattr, Setattr, Symlink, Mknod, Mkdir, Unlink, Rmdir, Rename, Link, Open, Read, Write, Setxattr, Removexattr, Readdir, Access, Create, Fallocate, Copyfilerange, Tmpfile, Answer, Done, Failed, Found, Attributes, Put, Handed, Plain, Iterator, default_opening, default_answer}
use Rattle.vfs_files.specs.Bytes.{part_of, most_put}
use Rattle.fs_small.specs.Tables.{Named, Tables}
use Rattle.fs_small.specs.Makers.{IsSecond, IsEntryOf}

-- why a node is refused that is not of the kind that is wanted: there is no such node, or it is of
-- the other kind, for which this number stands
abbrev pub refusal_of : Tables → (node other : ℕ) → ℕ
refusal_of t node other = if is_some (t.attr node) then other else enoent

-- why a directory has no entry of a name: no such name, or it is no directory
abbrev pub lookup_refusal : Tables → (parent : ℕ) → ℕ
lookup_refusal t parent =
    if is_some (t.items parent) then enoent else refusal_of t parent enotdir

-- the entry of a node with these attributes is answered, or that there is no such node
abbrev pub AnswersEntry : (node : ℕ) → Option Attr → Answer → Type 0
AnswersEntry node (Some attr) (Found entry) = IsEntryOf node attr entry
AnswersEntry node None answer = answer ≡ Failed (Some enoent)
AnswersEntry node _ _ = ⊥

-- the entry of the node that a name has in this directory is answered, or why there is none
abbrev pub AnswersLookup : Tables → (parent : ℕ) → Option ℕ → Answer → Type 0
AnswersLookup t parent (Some node) answer = AnswersEntry node (t.attr node) answer
AnswersLookup t parent None answer = answer ≡ Failed (Some (lookup_refusal t parent))

-- attributes are answered, which hold for a second, or that there is no such node
abbrev pub AnswersAttr : Option Attr → Answer → Type 0
AnswersAttr (Some attr) (Attributes found timeout) = (found ≡ attr) × IsSecond timeout
AnswersAttr None answer = answer ≡ Failed (Some enoent)
AnswersAttr _ _ = ⊥

-- what a read of these bytes answers: all that are there from off on, as many as may be put; or why
-- the node has no bytes
abbrev pub read_of : Option (List ℕ) → (refusal room size off : ℕ) → Answer
read_of (Some bytes) refusal room size off = Put (part_of bytes off (most_put room size))
read_of None refusal room size off = Failed (Some refusal)

-- an item as a reading gives it: a later one goes on after its offset
abbrev pub item_at : (offset : ℕ) → Named → Item
item_at offset named = record {
  ino = named.node;
  offset = offset;
  type_ = named.kind;
  name = named.name;
}

-- items in order, with offsets that count on from this one
abbrev pub items_from : (offset : ℕ) → List Named → List Item
items_from offset [] = []
items_from offset (item ∷ items) = item_at offset item ∷ items_from (offset + 1) items

-- what is read of a directory after an offset: all items but as many at the beginning
abbrev pub items_after : List Named → (offset : ℕ) → List Item
items_after items offset = items_from (offset + 1) (drop offset items)

-- a reading of these items after an offset, or why the node has none
abbrev pub OpensItems : Option (List Named) → (refusal offset : ℕ) → Handed (List Item) → Type 0
OpensItems (Some items) refusal offset (Iterator left) = left ≡ items_after items offset
OpensItems None refusal offset (Plain answer) = answer ≡ Failed (Some refusal)
OpensItems _ _ _ _ = ⊥

-- the calls that would change something
abbrev pub changes : Call → Bool
changes (Setattr _ _ _ _ _) = true
changes (Symlink _ _ _ _ _) = true
changes (Mknod _ _ _ _ _ _ _) = true
changes (Mkdir _ _ _ _ _ _) = true
changes (Unlink _ _ _) = true
changes (Rmdir _ _ _) = true
changes (Rename _ _ _ _ _ _) = true
changes (Link _ _ _ _) = true
changes (Write _ _ _ _ _ _ _ _ _ _) = true
changes (Setxattr _ _ _ _ _ _) = true
changes (Removexattr _ _ _) = true
changes (Create _ _ _ _ _ _ _ _) = true
changes (Fallocate _ _ _ _ _ _) = true
changes (Copyfilerange _ _ _ _ _ _ _ _ _) = true
changes Tmpfile = true
changes _ = false

-- the answer of a call that asks the tree for nothing. A file is opened where `flags` have neither
-- O_WRONLY (1) nor O_RDWR (2), and access is given where `mask` has not W_OK (2)
abbrev pub other_answer : Call → Answer
other_answer (Open _ _ _ flags) =
    if bit_and flags 3 == 0 then default_opening else Failed (Some erofs)
other_answer (Access _ _ mask) = if bit_and mask 2 == 0 then Done else Failed (Some erofs)
other_answer call = if changes call then Failed (Some erofs) else default_answer call

-- what each call hands back of a tree with these tables
abbrev pub TreeHands : Tables → Call → Handed (List Item) → Type 0
TreeHands t (Lookup _ parent name) (Plain answer) =
    AnswersLookup t parent (t.child parent name) answer
TreeHands t (Getattr _ inode _) (Plain answer) = AnswersAttr (t.attr inode) answer
TreeHands t (Read _ inode _ room size off _ _) (Plain answer) =
    answer ≡ read_of (t.contents inode) (refusal_of t inode eisdir) room size off
TreeHands t (Readdir _ inode _ _ off) handed =
    OpensItems (t.items inode) (refusal_of t inode enotdir) off handed
TreeHands t call (Plain answer) = answer ≡ other_answer call
TreeHands t call (Iterator _) = ⊥
