-- What calls and answers carry, as values: names, the caller, entries, extensions, and the items of
-- directories.
use Rattle.std.specs.Prelude.{◌≡◌, ◌≢◌, ℕ, List, [], ◌∷◌, ◌++◌, Option, Some, None, ◌+◌, ◌<◌, ◌==◌, length, take, drop, slice_index, position, if◌then◌else◌, ◌/◌, ◌%◌, option_map, option_and_then, ⊤}
use Rattle.vfs_files.specs.declared.name.CStr.{CStr}
use Rattle.std.specs.Duration.{as_nanos}
use Rattle.std.specs.Int.{w32, cast_signed}
use Rattle.std.specs.declared.time.Duration.{Duration}
use Rattle.vfs_wire.specs.declared.headers.InHeader.{InHeader}
use Rattle.vfs_wire.specs.declared.entries.EntryOut.{EntryOut}
use Rattle.vfs_files.specs.declared.entry.Context.{Context}
use Rattle.vfs_files.specs.declared.entry.Entry.{Entry}
use Rattle.vfs_files.specs.declared.extensions.SecContext.{SecContext}
use Rattle.vfs_files.specs.declared.extensions.Extensions.{Extensions}
use Rattle.std.specs.Borrow.{follows_so, Fml, RattleType, MutBor}
use Rattle.vfs_files.specs.declared.directory.DirEntry.{DirEntry}
use mathlib.Core.Option.{none}

-- ---- names, which end at their only 0

-- the text of a name: a byte list is a name where its last byte is 0 and no other is, and its text
-- is the rest
abbrev pub name_of : List ℕ → Option (List ℕ)
name_of bytes = option_and_then (λ i. if i + 1 == length bytes then Some (take i bytes) else None)
    (position (λ b. b == 0) bytes)

-- the text of the first name in a byte list, and what follows the 0 after it, where there is a 0
abbrev pub first_name : List ℕ → Option (List ℕ × List ℕ)
first_name bytes = option_map (λ i. (take i bytes, drop (i + 1) bytes)) (position (λ b. b == 0) bytes)

-- ---- callers and entries

-- the whole seconds of a time
abbrev pub whole_seconds : Duration → ℕ
whole_seconds time = as_nanos time / 1_000_000_000

-- the nanoseconds of a time beyond its whole seconds
abbrev pub nanoseconds_beyond : Duration → ℕ
nanoseconds_beyond time = as_nanos time % 1_000_000_000

-- the caller that a header names: its user, its group, and its process, whose 32 bits are read as
-- signed
abbrev pub context_of : InHeader → Context
context_of header = record { uid = header.uid; gid = header.gid; pid = cast_signed w32 header.pid }

-- the record of an entry: its node, generation and attributes, and each timeout in whole seconds
-- and the nanoseconds beyond
abbrev pub entry_out_of : Entry → EntryOut
entry_out_of entry = record {
  nodeid = entry.inode;
  generation = entry.generation;
  entry_valid = whole_seconds entry.entry_timeout;
  attr_valid = whole_seconds entry.attr_timeout;
  entry_valid_nsec = nanoseconds_beyond entry.entry_timeout;
  attr_valid_nsec = nanoseconds_beyond entry.attr_timeout;
  attr = entry.attr;
}

-- ---- extensions

-- what a request carries beside its record and its names: the name and the value of a security
-- context, and a group, each where it is there
pub record ExtensionValues : Type 0 where
  pub context : Option (List ℕ × List ℕ)
  pub group : Option ℕ

-- ---- directories' items

-- an item of a directory: its four values, the name as bytes without the 0
pub record Item : Type 0 where
  pub ino : ℕ
  pub offset : ℕ
  pub type_ : ℕ
  pub name : List ℕ

-- ---- no more is of the promise but its premise, the trait's contract

-- the bytes of a name, without the 0 after them
abbrev pub name_text : CStr → List ℕ
name_text name = name.bytes.now

-- the name of a security context, without the 0 after it, and its value
abbrev pub context_values : SecContext → List ℕ × List ℕ
context_values context = (context.name, context.secctx.items)

-- the values of extensions
abbrev pub extension_values_of : Extensions → ExtensionValues
extension_values_of ext = record {
  context = option_map context_values ext.secctx;
  group = ext.sup_gid;
}

-- the values of an item as `next` gives it
abbrev pub item : DirEntry → Item
item e = record { ino = e.ino; offset = e.offset; type_ = e.type_; name = name_text e.name }

-- the item that a taking gave, or none at the end
abbrev pub item_of : Option DirEntry → Option Item
item_of None = None
item_of (Some e) = Some (item e)

-- P holds of the value after a mutable reference once what was lent of it has come back
abbrev pub Rests : (R : RattleType) → MutBor R.Denot → (R.Denot → Type 0) → Fml
Rests R s P = follows_so R R s.ghost_name none (λ _ _. ⊤) P

-- ---- no more is of the promise: the rest is for proofs, and for contracts of parts

-- a byte list whose last byte is 0 and no other is, and its text
abbrev pub IsName : List ℕ → List ℕ → Type 0
IsName bytes text = (bytes ≡ text ++ 0 ∷ []) × ((k : ℕ) → k < length text → slice_index text k ≢ 0)
