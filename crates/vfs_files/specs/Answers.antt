-- Answers, and the kinds of answers. Nothing here knows a file system's state or its iterators.
use Rattle.std.specs.Prelude.{⊤, ◌≡◌, ◌≤◌, ◌<◌, ◌^◌, ◌-◌, length, ℕ, List, [], ◌∷◌, Option, Some, None, option_map, unwrap_or, Result, Ok, Err, Vec}
use Rattle.std.specs.declared.alloc.Global.{Global}
use Rattle.std.specs.declared.time.Duration.{Duration}
use Rattle.vfs_flags.specs.Flags.{fs_options_bits, open_options_bits}
use Rattle.vfs_flags.specs.declared.fs_options.FsOptions.{FsOptions}
use Rattle.vfs_flags.specs.declared.flag_sets.OpenOptions.{OpenOptions}
use Rattle.vfs_wire.specs.Fields.{Fit}
use Rattle.vfs_wire.specs.Records.{attr, attr_out, entry_out, kstatfs, kstatfs_of}
use Rattle.vfs_wire.specs.declared.attributes.Attr.{Attr}
use Rattle.vfs_wire.specs.declared.stat.Statvfs64.{Statvfs64}
use Rattle.vfs_files.specs.Values.{entry_out_of, whole_seconds, nanoseconds_beyond}
use Rattle.vfs_files.specs.declared.entry.Entry.{Entry}
use Rattle.vfs_files.specs.declared.xattr.GetxattrReply.{GetxattrReply}
use Rattle.vfs_files.specs.declared.xattr.GetxattrReply.TheVariants as getxattr
use Rattle.vfs_files.specs.declared.xattr.ListxattrReply.{ListxattrReply}
use Rattle.vfs_files.specs.declared.xattr.ListxattrReply.TheVariants as listxattr

-- every answer that is a value
pub data Answer : Type 0 where
  -- that it was done, or nothing where a call has nothing to answer
  Done : Answer
  -- a fault: an error number, or none, for which EIO is replied
  Failed : (fault : Option ℕ) → Answer
  -- the bits of the options that are wanted
  Options : (want : ℕ) → Answer
  -- an entry
  Found : (entry : Entry) → Answer
  -- attributes, and how long they hold
  Attributes : (attributes : Attr) (timeout : Duration) → Answer
  -- the bytes that were put into a reply
  Put : (bytes : List ℕ) → Answer
  -- a handle, where there is one, and the bits of how to use what was opened
  Opened : (handle : Option ℕ) (opening : ℕ) → Answer
  -- an entry, and a handle and bits as above
  Created : (entry : Entry) (handle : Option ℕ) (opening : ℕ) → Answer
  -- what a file system holds
  Statistics : (statistics : Statvfs64) → Answer
  -- the text of a link, the value of an extended attribute, or the names of all
  Text : (bytes : List ℕ) → Answer
  -- how many bytes such a text has
  Count : (length : ℕ) → Answer
  -- a place in a file
  Offset : (offset : ℕ) → Answer
  -- how many bytes were written
  Wrote : (count : ℕ) → Answer

-- what a call hands back: an answer, or an iterator over a directory
pub data Handed (I : Type 0) : Type 0 where
  Plain : Answer → Handed I
  Iterator : I → Handed I

-- the answer of `read`: the bytes that were put, or the fault
abbrev pub read_answer : Result ℕ (Option ℕ) → List ℕ → Answer
read_answer (Ok count) bytes = Put bytes
read_answer (Err fault) bytes = Failed fault

-- the kinds of answers: which of them a call may have beside a fault. `kind_of` in Calls says which kind
-- each call has, and `IsAnswer` below which answers are of it. Told and Untold say whether the client gets a reply
pub data Kind : Type 0 where
  -- none at all, and no fault either: there is no reply
  Quiet : Kind
  -- that it was done, which is replied
  Told : Kind
  -- that it was done, which is not replied
  Untold : Kind
  -- bytes that were put into the reply, at most that many
  Data : (size : ℕ) → Kind
  -- options
  Agreements : Kind
  -- an entry
  Entries : Kind
  -- attributes with their timeout
  TimedAttributes : Kind
  -- a handle, where there is one, and how to use it
  Openings : Kind
  -- an entry, and a handle as above
  Creations : Kind
  -- what a file system holds
  Capacities : Kind
  -- a text
  Texts : Kind
  -- a text, or how long it is
  TextsOrCounts : Kind
  -- a place in a file
  Offsets : Kind
  -- how many bytes were written
  Writes : Kind
  -- an iterator over a directory, which is no answer by value: the trait's contract has it, and no turn
  Iterators : Kind
  -- a fault and nothing else
  Faults : Kind

-- a fault's number, where it has one, is from 1 to 2 ^ 31 - 1
abbrev pub IsFault : Option ℕ → Type 0
IsFault None = Unit {0}
IsFault (Some number) = (0 < number) × (number < 2 ^ 31)

-- each number of an entry is within its width in the reply
abbrev pub FitsEntry : Entry → Type 0
FitsEntry entry = Fit entry_out.widths (entry_out.fields (entry_out_of entry))

-- a handle's number, or 0 where there is no handle, and the bits of how to use it are within their
-- widths in the reply, of 8 and 4 bytes; 4 bytes after them are padding
abbrev pub FitsOpening : Option ℕ → ℕ → Type 0
FitsOpening handle opening = Fit (8 ∷ 4 ∷ 4 ∷ []) (unwrap_or handle 0 ∷ opening ∷ 0 ∷ [])

-- the length of a reply with this text, 16 bytes of its header included, is below 2 ^ 32
abbrev pub FitsText : List ℕ → Type 0
FitsText bytes = length bytes < 2 ^ 32 - 16

-- An answer of this kind, with its numbers in their widths in the reply: a fault is one of every kind but
-- `Quiet`, and the only one of `Iterators` and `Faults`; a time is in whole seconds and the nanoseconds
-- beyond. `Fit` and the `Fits..` above are of widths, and say nothing of a room.
abbrev pub IsAnswer : Kind → Answer → Type 0
IsAnswer Quiet Done = Unit {0}
IsAnswer Quiet _ = ⊥
IsAnswer _ (Failed fault) = IsFault fault
IsAnswer Told Done = Unit {0}
IsAnswer Untold Done = Unit {0}
IsAnswer (Data size) (Put bytes) = (length bytes ≤ size) × FitsText bytes
IsAnswer Agreements (Options want) = want < 2 ^ 64
IsAnswer Entries (Found entry) = FitsEntry entry
IsAnswer TimedAttributes (Attributes attributes timeout) =
    Fit attr_out.widths
    (whole_seconds timeout ∷ nanoseconds_beyond timeout ∷ 0 ∷ attr.fields attributes)
IsAnswer Openings (Opened handle opening) = FitsOpening handle opening
IsAnswer Creations (Created entry handle opening) = FitsEntry entry × FitsOpening handle opening
IsAnswer Capacities (Statistics statistics) =
    Fit kstatfs.widths (kstatfs.fields (kstatfs_of statistics))
IsAnswer Texts (Text bytes) = FitsText bytes
IsAnswer TextsOrCounts (Text bytes) = FitsText bytes
IsAnswer TextsOrCounts (Count length) = length < 2 ^ 32
IsAnswer Offsets (Offset offset) = offset < 2 ^ 64
IsAnswer Writes (Wrote count) = count < 2 ^ 32
IsAnswer _ _ = ⊥

-- ---- no more is of the promise but its premise, the trait's contract: which answer the
-- result of each method is

-- where the answer is a text, its length leaves room for a header
abbrev pub KeepsTextShort : Answer → Type 0
KeepsTextShort (Text bytes) = FitsText bytes
KeepsTextShort _ = ⊤

-- where `read` answers a number, it is that of the bytes put, at most `size`, and their length leaves
-- room for a header
abbrev pub Counts : Result ℕ (Option ℕ) → List ℕ → ℕ → Type 0
Counts (Ok count) bytes size = (count ≡ length bytes) × (count ≤ size) × FitsText bytes
Counts (Err fault) bytes size = ⊤

-- the answer of `init`
abbrev pub init_answer : Result FsOptions (Option ℕ) → Answer
init_answer (Ok want) = Options (fs_options_bits want)
init_answer (Err fault) = Failed fault

-- the answer of a call that answers an entry
abbrev pub entry_answer : Result Entry (Option ℕ) → Answer
entry_answer (Ok entry) = Found entry
entry_answer (Err fault) = Failed fault

-- the answer of a call that answers attributes and how long they hold
abbrev pub attr_answer : Result (Attr × Duration) (Option ℕ) → Answer
attr_answer (Ok reply) = Attributes reply.0 reply.1
attr_answer (Err fault) = Failed fault

-- the answer of a call that answers nothing but whether it was done
abbrev pub done_answer : Result (Unit {0}) (Option ℕ) → Answer
done_answer (Ok _) = Done
done_answer (Err fault) = Failed fault

-- the answer of a call that opens a file or a directory, where the first argument gives a handle's
-- number
abbrev pub opened_answer : {H : Type 0} → (H → ℕ) → Result (Option H × OpenOptions) (Option ℕ) → Answer
opened_answer number (Ok reply) = Opened (option_map number reply.0) (open_options_bits reply.1)
opened_answer number (Err fault) = Failed fault

-- the answer of `create`, where the first argument gives a handle's number
abbrev pub created_answer :
    {H : Type 0} → (H → ℕ) → Result (Entry × Option H × OpenOptions) (Option ℕ) → Answer
created_answer number (Ok reply) =
    Created reply.0 (option_map number reply.1) (open_options_bits reply.2)
created_answer number (Err fault) = Failed fault

-- the answer of `statfs`
abbrev pub statistics_answer : Result Statvfs64 (Option ℕ) → Answer
statistics_answer (Ok statistics) = Statistics statistics
statistics_answer (Err fault) = Failed fault

-- the answer of a call that answers a text
abbrev pub text_answer : Result (Vec ℕ Global) (Option ℕ) → Answer
text_answer (Ok text) = Text text.items
text_answer (Err fault) = Failed fault

-- the value of an extended attribute, or how long it is
abbrev pub value_or_count : GetxattrReply → Answer
value_or_count (getxattr.Value value) = Text value.items
value_or_count (getxattr.Count count) = Count count

-- the answer of `getxattr`
abbrev pub getxattr_answer : Result GetxattrReply (Option ℕ) → Answer
getxattr_answer (Ok reply) = value_or_count reply
getxattr_answer (Err fault) = Failed fault

-- the names of the extended attributes, or how long they are
abbrev pub names_or_count : ListxattrReply → Answer
names_or_count (listxattr.Names names) = Text names.items
names_or_count (listxattr.Count count) = Count count

-- the answer of `listxattr`
abbrev pub listxattr_answer : Result ListxattrReply (Option ℕ) → Answer
listxattr_answer (Ok reply) = names_or_count reply
listxattr_answer (Err fault) = Failed fault

-- the answer of a call that answers a place in a file
abbrev pub offset_answer : Result ℕ (Option ℕ) → Answer
offset_answer (Ok offset) = Offset offset
offset_answer (Err fault) = Failed fault

-- the answer of a call that answers how many bytes were written
abbrev pub written_answer : Result ℕ (Option ℕ) → Answer
written_answer (Ok count) = Wrote count
written_answer (Err fault) = Failed fault

-- what `readdir` hands back: an iterator over the directory, or the fault
abbrev pub directory_answer : {I : Type 0} → Result I (Option ℕ) → Handed I
directory_answer (Ok it) = Iterator it
directory_answer (Err fault) = Plain (Failed fault)
