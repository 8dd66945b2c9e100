-- Parts of the other definitions by names of their own, for contracts of parts and for proofs. No
-- definition of the promise names one of them.
use Rattle.std.specs.Prelude.{◌≡◌, ◌≤◌, ◌+◌, ◌==◌, ◌||◌, ◌⊎◌, ℕ, List, [], ◌∷◌, ◌++◌, Bool, true, false, length, take, drop, nat_lt, nat_le, ◌&&◌, if◌then◌else◌, sum_by, Option, Some, None, Result, Ok, Err, ok_or, unwrap_or}
use Rattle.std.specs.declared.time.Duration.{Duration}
use Rattle.vfs_flags.specs.Numbers.{eio, ext_type_of, opcode_of}
use Rattle.vfs_flags.specs.Flags.{security_ctx, create_supp_group, has_flag}
use Rattle.vfs_flags.specs.declared.opcode.Opcode.{Opcode}
use Rattle.vfs_wire.specs.Fields.{number, value_of}
use Rattle.vfs_wire.specs.Records.{ext_header}
use Rattle.vfs_wire.specs.declared.attributes.Attr.{Attr}
use Rattle.vfs_wire.specs.declared.attributes.AttrOut.{AttrOut}
use Rattle.vfs_wire.specs.declared.headers.InHeader.{InHeader}
use Rattle.vfs_wire.specs.declared.listings.Dirent.{Dirent}
use Rattle.vfs_wire_more.specs.declared.files.WriteOut.{WriteOut}
use Rattle.vfs_wire_more.specs.declared.xattrs.GetxattrOut.{GetxattrOut}
use Rattle.vfs_files.specs.Answers.{Answer, Done, FitsEntry}
use Rattle.vfs_files.specs.Answers.{Kind, Quiet, Untold, Data}
use Rattle.vfs_files.specs.Calls.{Call, Readdir, Lookup, Found, Failed}
use Rattle.vfs_files.specs.Runs.{Event, Called, OpenedDirectory}
use Rattle.vfs_files.specs.Values.{ExtensionValues, Item, entry_out_of, name_of, whole_seconds, nanoseconds_beyond}
use Rattle.vfs_files.specs.declared.entry.Context.{Context}
use Rattle.vfs_files.specs.declared.entry.Entry.{Entry}
use Rattle.vfs_grammar.specs.Ask.{form_of, ask_number}
use Rattle.vfs_grammar.specs.Books.{answered, sent, accepted, delivered}
use Rattle.vfs_grammar.specs.Extensions.{error_or, Block, Cut, Received, no_extensions, receive_kind, receive_all, received_at_end, extensions_in}
use Rattle.vfs_grammar.specs.Forms.{Ask, Ends, Layout, layout_size, ask_form, pairs_of, within}
use Rattle.vfs_grammar.specs.Limits.{max_len}
use Rattle.vfs_grammar.specs.Listing.{Listing, Line, Got, IsListing, IsDirectory, dot_out, entry_bytes, dirent_bytes, lookup_got}
use Rattle.vfs_grammar.specs.Reply.{Reply, Refusal, NoReply, Bytes, OpenAfter, answer_reply, body_of}
use Rattle.vfs_grammar.specs.Turn.{Turn, events_in}
use Rattle.vfs_grammar.specs.declared.limits.Limits.{Limits}
use Rattle.vfs_grammar.specs.declared.error.Error.{Error}
use Rattle.vfs_grammar.specs.declared.error.Error.TheVariants.{DecodeMessage, EncodeMessage, InvalidCString}

-- ---- numbers and sizes

-- the number of the four bytes from this place on
abbrev pub u32_at : ℕ → List ℕ → ℕ
u32_at place bytes = number 4 (drop place bytes)

-- the number of the eight bytes from this place on
abbrev pub u64_at : ℕ → List ℕ → ℕ
u64_at place bytes = number 8 (drop place bytes)

-- the bytes of a request's header, of a reply's, of an `EntryOut`, of a `Dirent`, and of a pair of a
-- node and a count
abbrev pub in_header_size : ℕ
in_header_size = 40

abbrev pub out_header_size : ℕ
out_header_size = 16

abbrev pub entry_out_size : ℕ
entry_out_size = 128

abbrev pub dirent_size : ℕ
dirent_size = 24

abbrev pub pair_size : ℕ
pair_size = 16

-- where a BATCH_FORGET has its first pair
abbrev pub pairs_place : ℕ
pairs_place = 48

-- where a directory's record with an entry has the length of its name
abbrev pub namelen_place : ℕ
namelen_place = 144

-- ---- books

-- that many pairs of a node and a count, that bytes begin with
abbrev pub pairs_at : (count : ℕ) → (bytes : List ℕ) → List (ℕ × ℕ)
pairs_at count bytes = pairs_of count bytes

-- the books of a node balance over turns
abbrev pub AreBalanced : (n : ℕ) → List Turn → Type 0
AreBalanced n turns =
    answered n (events_in turns) + sum_by (accepted n) turns
    ≡ sum_by (delivered n) turns + sent n (events_in turns)

-- after each turn the client has given back no more of a node than was delivered to it by these
-- turns
abbrev pub GivesBackWithin : (n : ℕ) → List Turn → Type 0
GivesBackWithin n turns =
    (k : ℕ) → sum_by (accepted n) (take k turns) ≤ sum_by (delivered n) (take k turns)

-- after each event no more of a node was sent back than was answered in these events
abbrev pub NeverBelow : (n : ℕ) → List Event → Type 0
NeverBelow n events = (k : ℕ) → sent n (take k events) ≤ answered n (take k events)

-- ---- requests

-- a request that is refused with an error
abbrev pub refused : Error → Ask
refused error = Ends (Refusal error)

-- a request that nothing comes back of, without a call
abbrev pub silent : Ask
silent = Ends NoReply

-- the name that a tail is
abbrev pub name_in : (tail : List ℕ) → Result (List ℕ) Error
name_in tail = ok_or (name_of tail) InvalidCString

-- what follows the record
abbrev pub following : {R : Type 0} → Layout R → (rest : List ℕ) → List ℕ
following layout rest = drop (layout_size layout) rest

module _ (limits : Limits) (options room_len : ℕ) where
  -- what the bytes after a header ask, by its opcode
  abbrev pub ask_opcode : Opcode → InHeader → (rest : List ℕ) → Ask
  ask_opcode opcode h rest = ask_form h rest (form_of limits options room_len h opcode)

  -- what a request with this header asks
  abbrev pub ask_header : InHeader → (rest : List ℕ) → Ask
  ask_header h rest =
      within (nat_lt (max_len limits) h.len) h
      (ask_number limits options room_len (opcode_of h.opcode) h rest)

-- ---- extensions

-- the bytes that the header says that its block has, itself among them
abbrev pub block_size : (bytes : List ℕ) → ℕ
block_size bytes = (value_of ext_header bytes).size

-- extensions are read, since there is an option for one of them
abbrev pub reads_extensions : (options : ℕ) → Bool
reads_extensions options = has_flag options security_ctx || has_flag options create_supp_group

-- nothing
abbrev pub nothing_received : Received
nothing_received = record { has_contexts = false; values = no_extensions }

-- with a block of contexts
abbrev pub with_context : Received → Option (List ℕ × List ℕ) → Received
with_context received context =
    record { has_contexts = true; values = record received.values { context = context } }

-- with a block of groups
abbrev pub with_group : Received → (group : ℕ) → Received
with_group received group =
    record received { values = record received.values { group = Some group } }

-- what is received with one more block
abbrev pub receive : (options : ℕ) → Received → Block → Result Received Error
receive options received block =
    receive_kind options received (ext_type_of block.ext_type) block.body

-- the extensions that a cut says, where that much was received before
abbrev pub extensions_of : (options : ℕ) → Received → Cut → Result ExtensionValues Error
extensions_of options received cut =
    error_or (receive_all options received cut.blocks) (received_at_end options cut.error)

-- the extensions after the first `skip` bytes, which must be there where extensions are read
abbrev pub extensions_after :
    (options skip : ℕ) → (bytes : List ℕ) → Result ExtensionValues Error
extensions_after options skip bytes =
    if nat_lt (length bytes) skip && reads_extensions options then Err DecodeMessage
    else extensions_in options (drop skip bytes)

-- ---- replies

-- the number of a fault: that of EIO where it has none
abbrev pub fault_number : Option ℕ → ℕ
fault_number fault = unwrap_or fault eio

-- the attributes of a node and how long they hold, as GETATTR replies them
abbrev pub attr_out_of : Attr → (timeout : Duration) → AttrOut
attr_out_of attr timeout = record {
  attr_valid = whole_seconds timeout;
  attr_valid_nsec = nanoseconds_beyond timeout;
  dummy = 0;
  attr = attr;
}

-- how many bytes extended attributes have, as GETXATTR and LISTXATTR reply it
abbrev pub getxattr_out_of : (length : ℕ) → GetxattrOut
getxattr_out_of length = record { size = length; padding = 0 }

-- how many bytes were written, as WRITE and COPY_FILE_RANGE reply it
abbrev pub write_out_of : (count : ℕ) → WriteOut
write_out_of count = record { size = count; padding = 0 }

-- what comes back of a call of this kind, but INIT, with this answer, as `reply_of` says
abbrev pub reply_to : (unique : ℕ) → Kind → Answer → Reply
reply_to unique Quiet answer = NoReply
reply_to unique Untold Done = NoReply
reply_to unique (Data size) answer = OpenAfter (answer_reply (body_of answer) unique answer)
reply_to unique _ answer = Bytes (answer_reply (body_of answer) unique answer)

-- a node whose lookups are counted: any but 0
abbrev pub counted : (node : ℕ) → Option ℕ
counted node = if node == 0 then None else Some node

-- the outcome of a reply that fits is its length, that of another is EncodeMessage
abbrev pub put_outcome : (reply room : List ℕ) → Result ℕ Error
put_outcome reply room =
    if nat_le (length reply) (length room) then Ok (length reply) else Err EncodeMessage

-- the room afterwards: the reply and the old bytes after it, or as much of the reply as there is
-- room for
abbrev pub put_room : (reply room : List ℕ) → List ℕ
put_room reply room =
    if nat_le (length reply) (length room) then reply ++ drop (length reply) room
    else take (length room) reply

-- ---- directories

-- the `Dirent` of an item
abbrev pub dirent_of : Item → Dirent
dirent_of i = record { ino = i.ino; off = i.offset; namelen = length i.name; type_ = i.type_ }

-- the bytes of a record
abbrev pub record_bytes : Option Entry → Item → List ℕ
record_bytes entry i = entry_bytes entry ++ dirent_bytes i

-- each number of an entry, where there is one, is within its width in the record
abbrev pub FitsOption : Option Entry → Type 0
FitsOption None = Unit {0}
FitsOption (Some entry) = FitsEntry entry

-- the entry that `.` and `..` get
abbrev pub IsDotEntry : Item → Got → Type 0
IsDotEntry i (Ok (Some entry)) = entry_out_of entry ≡ dot_out i
IsDotEntry i _ = ⊥

module _ (ctx : Context) (parent : ℕ) where
  -- the lookup that gave this
  abbrev pub lookup_of : (name : List ℕ) → Got → List Event
  lookup_of name (Ok (Some entry)) = Called (Lookup ctx parent name) (Found entry) ∷ []
  lookup_of name (Ok None) = []
  lookup_of name (Err fault) = Called (Lookup ctx parent name) (Failed fault) ∷ []

  -- an item is looked up where entries are wanted, but for `.` and `..`
  abbrev pub lookups : (plus dot : Bool) → Line → List Event
  lookups plus dot l = lookup_got ctx parent plus dot l.item.name l.got

-- a directory was read in these events: its records, and how many bytes these have, or a fault in
-- their place
abbrev pub IsRead : Listing → List Event → (records : List ℕ) → Result ℕ (Option ℕ) → Type 0
IsRead l events records answer = IsDirectory l events records answer

-- `readdir` failed
abbrev pub IsUnopened :
    Call → List Event → (records : List ℕ) → Result ℕ (Option ℕ) → Type 0
IsUnopened call events records result =
    (fault : Option ℕ)
    × (events ≡ Called call (Failed fault) ∷ []) × (records ≡ []) × (result ≡ Err fault)

-- `readdir` handed back an iterator
abbrev pub IsOpened :
    (plus : Bool) → Call → Context → (parent size space : ℕ)
    → List Event → (records : List ℕ) → Result ℕ (Option ℕ) → Type 0
IsOpened plus call ctx parent size space events records result =
    (takings : List Event)
    × (events ≡ OpenedDirectory call ∷ takings)
    × IsListing plus ctx parent size space takings records result

-- the same, by the parts of a listing
abbrev pub IsDirectoryOf :
    (plus : Bool) (ctx : Context) (parent handle size offset space : ℕ)
    → List Event → List ℕ → Result ℕ (Option ℕ) → Type 0
IsDirectoryOf plus ctx parent handle size offset space events records result =
    IsUnopened (Readdir ctx parent handle size offset) events records result
    ⊎ IsOpened plus (Readdir ctx parent handle size offset) ctx parent size space events records result
