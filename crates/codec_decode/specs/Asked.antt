-- What is told of a request: its call as data, or that it is finished.
use Rattle.std.specs.Prelude.{◌≡◌, ◌≤◌, ◌<◌, ◌⊎◌, ⊤, ◌==◌, ◌+◌, ◌*◌, ℕ, List, length, take, drop, position, nat_lt, if◌then◌else◌, Option, None, Some, Result, Ok, Err, IfOk}
use Rattle.vfs_flags.specs.Numbers.{number_of}
use Rattle.vfs_flags.specs.declared.opcode.Opcode.TheVariants.{Interrupt}
use Rattle.vfs_segments.specs.Written.{Written}
use Rattle.vfs_wire.specs.Records.{in_header, out_header, init_out}
use Rattle.vfs_wire.specs.declared.headers.InHeader.{InHeader}
use Rattle.vfs_wire.specs.declared.init.InitInCompat.{InitInCompat}
use Rattle.vfs_wire_more.specs.Locks.{interrupt_in}
use Rattle.vfs_wire_more.specs.declared.locks.InterruptIn.{InterruptIn}
use Rattle.vfs_files.specs.Calls.{Call, Init, Lookup, Symlink, Mknod, Mkdir, Unlink, Rmdir, Rename, Link, Read, Write, Setxattr, Getxattr, Removexattr, Readdir, Create, BatchForget}
use Rattle.vfs_messages.specs.Rooms.{Replies}
use Rattle.vfs_grammar.specs.Ask.{ask}
use Rattle.vfs_grammar.specs.Forms.{Ask, Ends, Asks, Lists, WithMemory, pairs_of}
use Rattle.vfs_grammar.specs.Listing.{Listing}
use Rattle.vfs_grammar.specs.Limits.{max_len}
use Rattle.vfs_grammar.specs.Records.{size_of, record_of}
use Rattle.vfs_grammar.specs.Words.{pair_size}
use Rattle.vfs_grammar.specs.Options.{options_offered}
use Rattle.vfs_grammar.specs.Reply.{Reply, Refusal, Echo, echo_of}
use Rattle.vfs_grammar.specs.declared.limits.Limits.{Limits}
use Rattle.vfs_grammar.specs.declared.error.Error.{Error}
use Rattle.vfs_grammar.specs.declared.error.Error.TheVariants.{OutOfMemory}
use Rattle.codec_calls.specs.Shapes.{bit, no_range, nothing, shape_of, unplaced}
use Rattle.codec_calls.specs.declared.call.CallData.{CallData}
use Rattle.codec_calls.specs.declared.call.has.TheConstants as has
use Rattle.codec_calls.specs.declared.call.Range.{Range}
use Rattle.codec_decode.specs.declared.asked.Asked.{Asked}
use Rattle.codec_decode.specs.declared.asked.Asked.TheVariants as asked

-- ---- of the codec's promise: where in a request something is

-- the bytes of a request in this range
abbrev pub bytes_in : (request : List ℕ) → Range → List ℕ
bytes_in request range = take range.len (drop range.at request)

-- this range lies within the request, and has these bytes there
pub record Stand (request : List ℕ) (range : Range) (bytes : List ℕ) : Type 0 where
  pub within : range.at + range.len ≤ length request
  pub bytes_are : bytes_in request range ≡ bytes

-- This range lies within the request, and has this name there: the first 0 from there on is the byte after the
-- range. So a name that lies in one piece is a string of C where it lies.
pub record IsNameIn (request : List ℕ) (range : Range) (name : List ℕ) : Type 0 where
  pub within : range.at + range.len < length request
  pub bytes_are : bytes_in request range ≡ name
  pub ended : position (λ b. b == 0) (drop range.at request) ≡ Some range.len

-- this range lies within the request, and its bytes spell these pairs of a node and a count
pub record Spell (request : List ℕ) (range : Range) (pairs : List (ℕ × ℕ)) : Type 0 where
  pub within : range.at + range.len ≤ length request
  pub pairs_are : pairs_of (length pairs) (bytes_in request range) ≡ pairs

-- ---- no more is of the promise: the rest is for proofs, and for contracts of parts

-- ---- a call as data

-- the length of a call: of a READ how many bytes of data there is room for
abbrev pub length_of_call : Call → ℕ
length_of_call (Read ctx inode handle room size offset lock_owner flags) = room
length_of_call call = (shape_of call).length

-- the data of a call by their length: of a BATCH_FORGET its pairs
abbrev pub data_of_call : Call → Range
data_of_call (Write ctx inode handle bytes size offset lock_owner delayed kill_priv flags) =
    unplaced bytes
data_of_call (BatchForget ctx pairs) = record { at = 0; len = length pairs * pair_size }
data_of_call call = (shape_of call).data

-- a call as data, without the places of its names and values: what of it is in the request with this
-- echo, the options that were agreed on when it was asked, and the room for its reply
abbrev pub told_of : (options room : ℕ) → Echo → Call → CallData
told_of options room echo call = record (shape_of call) {
  unique = echo.unique;
  readahead = echo.max_readahead;
  options = options;
  room = room;
  length = length_of_call call;
  «data» = data_of_call call;
}

-- the same of a directory that is to be read
abbrev pub told_of_listing : (options room : ℕ) → Echo → Listing → CallData
told_of_listing options room echo l =
    record (told_of options room echo (Readdir l.ctx l.parent l.handle l.size l.offset)) {
      has = bit l.plus has.PLUS;
    }

-- the call of an INIT with this header and this record
abbrev pub init_told : InHeader → InitInCompat → (flags2 options room : ℕ) → CallData
init_told h r flags2 options room =
    told_of options room (record (echo_of h) { max_readahead = r.max_readahead })
    (Init (options_offered r.flags flags2))

-- a range without its place
abbrev pub long_range : Range → Range
long_range range = record { at = 0; len = range.len }

-- a call as data without the places of its names and values
abbrev pub without_places : CallData → CallData
without_places told = record told {
  name = long_range told.name;
  other_name = long_range told.other_name;
  «data» = long_range told.data;
  context_name = long_range told.context_name;
  context = long_range told.context;
}

-- ---- the places of its names and values

-- the name and the value of a context, where there is one, are in the ranges of the request that are told
abbrev pub IsContextPlaced : (request : List ℕ) → Option (List ℕ × List ℕ) → CallData → Type 0
IsContextPlaced q None told = ⊤
IsContextPlaced q (Some context) told =
    IsNameIn q told.context_name context.0 × Stand q told.context context.1

-- The names and the value of a call are in the ranges of the request that are told, each name, and the text
-- of a SYMLINK, with a 0 after it; and the pairs of a BATCH_FORGET are those that these bytes spell.
abbrev pub ArePlaced : (request : List ℕ) → Call → CallData → Type 0
ArePlaced q (Lookup ctx parent name) told = IsNameIn q told.name name
ArePlaced q (Symlink ctx text parent name ext) told =
    IsNameIn q told.name name × IsNameIn q told.other_name text × IsContextPlaced q ext.context told
ArePlaced q (Mknod ctx inode name mode rdev umask ext) told =
    IsNameIn q told.name name × IsContextPlaced q ext.context told
ArePlaced q (Mkdir ctx parent name mode umask ext) told =
    IsNameIn q told.name name × IsContextPlaced q ext.context told
ArePlaced q (Unlink ctx parent name) told = IsNameIn q told.name name
ArePlaced q (Rmdir ctx parent name) told = IsNameIn q told.name name
ArePlaced q (Rename ctx olddir oldname newdir newname flags) told =
    IsNameIn q told.name oldname × IsNameIn q told.other_name newname
ArePlaced q (Link ctx inode newparent newname) told = IsNameIn q told.name newname
ArePlaced q (Write ctx inode handle bytes size offset lock_owner delayed kill_priv flags) told =
    Stand q told.data bytes
ArePlaced q (Setxattr ctx inode name value flags extra) told =
    IsNameIn q told.name name × Stand q told.data value
ArePlaced q (Getxattr ctx inode name size) told = IsNameIn q told.name name
ArePlaced q (Removexattr ctx inode name) told = IsNameIn q told.name name
ArePlaced q (Create ctx parent name mode kill_priv flags umask ext) told =
    IsNameIn q told.name name × IsContextPlaced q ext.context told
ArePlaced q (BatchForget ctx pairs) told = Spell q told.data pairs
ArePlaced q call told = ⊤

-- a range of a context, where there is one
abbrev pub of_context : Option (List ℕ × List ℕ) → Range → Range
of_context None range = no_range
of_context (Some context) range = range

-- a call as data that has no name and no value
abbrev pub without_ranges : CallData → CallData
without_ranges told = record told {
  name = no_range;
  other_name = no_range;
  «data» = no_range;
  context_name = no_range;
  context = no_range;
}

-- a call as data with the ranges alone of the names and values that it has: what is not there is { 0, 0 }
abbrev pub with_its_ranges : Call → CallData → CallData
with_its_ranges (Lookup ctx parent name) told = record (without_ranges told) { name = told.name }
with_its_ranges (Symlink ctx text parent name ext) told = record (without_ranges told) {
  name = told.name;
  other_name = told.other_name;
  context_name = of_context ext.context told.context_name;
  context = of_context ext.context told.context;
}
with_its_ranges (Mknod ctx inode name mode rdev umask ext) told = record (without_ranges told) {
  name = told.name;
  context_name = of_context ext.context told.context_name;
  context = of_context ext.context told.context;
}
with_its_ranges (Mkdir ctx parent name mode umask ext) told = record (without_ranges told) {
  name = told.name;
  context_name = of_context ext.context told.context_name;
  context = of_context ext.context told.context;
}
with_its_ranges (Unlink ctx parent name) told = record (without_ranges told) { name = told.name }
with_its_ranges (Rmdir ctx parent name) told = record (without_ranges told) { name = told.name }
with_its_ranges (Rename ctx olddir oldname newdir newname flags) told =
    record (without_ranges told) { name = told.name; other_name = told.other_name }
with_its_ranges (Link ctx inode newparent newname) told = record (without_ranges told) { name = told.name }
with_its_ranges (Write ctx inode handle bytes size offset lock_owner delayed kill_priv flags) told =
    record (without_ranges told) { «data» = told.data }
with_its_ranges (Setxattr ctx inode name value flags extra) told =
    record (without_ranges told) { name = told.name; «data» = told.data }
with_its_ranges (Getxattr ctx inode name size) told = record (without_ranges told) { name = told.name }
with_its_ranges (Removexattr ctx inode name) told = record (without_ranges told) { name = told.name }
with_its_ranges (Create ctx parent name mode kill_priv flags umask ext) told = record (without_ranges told) {
  name = told.name;
  context_name = of_context ext.context told.context_name;
  context = of_context ext.context told.context;
}
with_its_ranges (BatchForget ctx pairs) told = record (without_ranges told) { «data» = told.data }
with_its_ranges call told = without_ranges told

-- ---- what is told

-- how many bytes a reply to a request that asks for no call has at most: our version, as a newer client is
-- told it
abbrev pub longest_reply : ℕ
longest_reply = size_of out_header + size_of init_out

-- this very call of a request is told
pub record IsTold (request : List ℕ) (options room : ℕ) (echo : Echo) (call : Call) (told : CallData)
    : Type 0 where
  pub numbers : without_places told ≡ told_of options room echo call
  pub places : ArePlaced request call told
  pub others : told ≡ with_its_ranges call told

-- a request is finished: this comes back of it, and it interrupts this one
abbrev pub IsFinished : Reply → (interrupts : ℕ) → (writer : Written) → Asked → (writer_after : Written)
    → CallData → Type 0
IsFinished reply interrupts writer (asked.Finished outcome interrupted) writer_after told =
    Replies reply writer outcome writer_after × (interrupted ≡ interrupts) × (told ≡ nothing)
IsFinished reply interrupts writer asked.Call writer_after told = ⊥

-- what is told of a request that asks this, for which memory may be wanted so, with that much room for a
-- reply
abbrev pub Tells : (wanted : Type 0) → (request : List ℕ) → (options interrupts room : ℕ) → Ask
    → (writer : Written) → Asked → (writer_after : Written) → CallData → Type 0
Tells wanted q options interrupts room (Ends reply) writer result writer_after told =
    IsFinished reply interrupts writer result writer_after told
Tells wanted q options interrupts room (Asks echo call) writer result writer_after told =
    (result ≡ asked.Call) × IsTold q options room echo call told
Tells wanted q options interrupts room (Lists echo l) writer result writer_after told =
    (result ≡ asked.Call) × (told ≡ told_of_listing options room echo l)
Tells wanted q options interrupts room (WithMemory rest) writer result writer_after told =
    Tells wanted q options interrupts room rest writer result writer_after told
    ⊎ (wanted × IsFinished (Refusal OutOfMemory) interrupts writer result writer_after told)

-- the number in the record of an INTERRUPT, 0 where the record isn't whole
abbrev pub unique_or_none : Result InterruptIn Error → ℕ
unique_or_none (Ok r) = r.unique
unique_or_none (Err error) = 0

-- the number of INTERRUPT
abbrev pub interrupt_number : ℕ
interrupt_number = number_of Interrupt

-- the request that one with this header interrupts, and 0 where it interrupts none
abbrev pub interrupted_after : Limits → InHeader → (rest : List ℕ) → ℕ
interrupted_after limits h rest =
    if nat_lt (max_len limits) h.len then 0
    else if h.opcode == interrupt_number then unique_or_none (record_of interrupt_in rest) else 0

abbrev pub interrupted_or_none : Limits → Result InHeader Error → (rest : List ℕ) → ℕ
interrupted_or_none limits (Ok h) rest = interrupted_after limits h rest
interrupted_or_none limits (Err error) rest = 0

-- the request that a request interrupts, and 0 where it interrupts none
abbrev pub interrupted_by : Limits → (request : List ℕ) → ℕ
interrupted_by limits q =
    interrupted_or_none limits (record_of in_header q) (drop (size_of in_header) q)

-- What is told of a request, with that much room for a reply, under these limits and agreed options: the call
-- that the grammar says, where it says one; and else that the request is finished, as the grammar says.
-- When memory may be wanted isn't said here.
abbrev pub IsAsked : Limits → (options : ℕ) → (request : List ℕ) → (writer : Written) → Asked
    → (writer_after : Written) → CallData → Type 0
IsAsked limits options q writer result writer_after told =
    Tells ⊤ q options (interrupted_by limits q) (length writer.left)
    (ask limits options (length writer.left) q) writer result writer_after told

-- the room that a writer has left is all of a reply's, or the beginning of it, as long as the longest reply
-- to a request that asks for no call
abbrev pub IsEnough : (left room : ℕ) → Type 0
IsEnough left room = (left ≡ room) ⊎ ((longest_reply ≤ left) × (left ≤ room))

-- the reply, where there is one, has no more bytes than these
abbrev pub LiesWithin : (space : ℕ) → Asked → Type 0
LiesWithin space asked.Call = ⊤
LiesWithin space (asked.Finished outcome interrupts) = IfOk outcome (λ len. len ≤ space)
