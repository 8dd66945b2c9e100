-- The calls that virtiofsd has not: a further table of the protocol, of which a file system offers rows. A
-- request of no row that is offered asks what the table of virtiofsd says (vfs_grammar).
use Rattle.std.specs.Prelude.{◌≡◌, ◌==◌, ◌&&◌, ◌+◌, if◌then◌else◌, nat_le, nat_lt, bit_and, Bool, ℕ, List, length, drop, Result, Ok, Err}
use Rattle.std.specs.Int.{w32, cast_signed}
use Rattle.vfs_flags.specs.Flags.{has_flag}
use Rattle.vfs_flags.specs.declared.constants.TheConstants.{GETATTR_FH, LK_FLOCK}
use Rattle.vfs_wire.specs.Records.{in_header}
use Rattle.vfs_wire.specs.declared.headers.InHeader.{InHeader}
use Rattle.vfs_wire_more.specs.Records.{copyfilerange_in}
use Rattle.vfs_wire_more.specs.Locks.{lk_in}
use Rattle.vfs_wire_more.specs.Devices.{bmap_in, ioctl_in, poll_in, statx_in}
use Rattle.vfs_wire_more.specs.Notifications.{notify_retrieve_in}
use Rattle.vfs_wire_more.specs.declared.locks.LkIn.{LkIn}
use Rattle.vfs_wire_more.specs.declared.devices.BmapIn.{BmapIn}
use Rattle.vfs_wire_more.specs.declared.devices.IoctlIn.{IoctlIn}
use Rattle.vfs_wire_more.specs.declared.devices.PollIn.{PollIn}
use Rattle.vfs_wire_more.specs.declared.devices.StatxIn.{StatxIn}
use Rattle.vfs_wire_more.specs.declared.notifications.NotifyRetrieveIn.{NotifyRetrieveIn}
use Rattle.vfs_wire_more.specs.declared.CopyfilerangeIn.{CopyfilerangeIn}
use Rattle.vfs_grammar.specs.Limits.{max_len}
use Rattle.vfs_grammar.specs.Records.{record_of, size_of}
use Rattle.vfs_grammar.specs.declared.error.Error.{Error}
use Rattle.vfs_grammar.specs.declared.limits.Limits.{Limits}
use Rattle.codec_calls.specs.Shapes.{nothing}
use Rattle.codec_calls.specs.declared.call.CallData.{CallData}
use Rattle.codec_calls.specs.declared.call.has.TheConstants as has
use Rattle.codec_calls.specs.declared.call.kind.TheConstants as kind
use Rattle.codec_calls.specs.declared.call.number.TheConstants as number
use Rattle.codec_decode.specs.declared.offers.TheConstants as row
use Rattle.codec_decode.specs.declared.row.Further.{Further}
use Rattle.codec_decode.specs.declared.row.Further.TheVariants as further

-- What a request asks: what the table of virtiofsd says; or nothing, since its record, or the data that it
-- says it has, are not whole; or this call; or a file without a name, which is asked for as by CREATE.
pub data What : Type 0 where
  Ordinary : What
  Short : What
  Row : CallData → What
  Unnamed : What

-- what a request asks by its record, where it is whole
abbrev pub or_short : {R : Type 0} → Result R Error → (R → What) → What
or_short (Err error) next = Short
or_short (Ok r) next = next r

-- the call of a request that has that many bytes, and says that it has at least these
abbrev pub if_whole : (least len : ℕ) → CallData → What
if_whole least len told = if nat_le least len then Row told else Short

-- this call of the node and the caller that the header names, with this kind of answer
abbrev pub told_of : (number answer : ℕ) → InHeader → CallData
told_of number answer h = record nothing {
  unique = h.unique;
  node = h.nodeid;
  call = number;
  answer = answer;
  uid = h.uid;
  gid = h.gid;
  pid = cast_signed w32 h.pid;
}

-- GETLK, SETLK and SETLKW: the first byte and the last one, the type, the process, and whose lock it is
abbrev pub lock_told : (number answer : ℕ) → InHeader → LkIn → CallData
lock_told number answer h r = record (told_of number answer h) {
  handle = r.fh;
  lock_owner = r.owner;
  offset = r.lk.start;
  other_offset = r.lk.end;
  flags = r.lk.type_;
  more = r.lk.pid;
  has = if bit_and r.lk_flags LK_FLOCK == 0 then has.OWNER else has.OWNER + has.LK_FLOCK;
}

-- BMAP: a block of the file, and how long blocks are. A block of the device is answered
abbrev pub bmap_told : InHeader → BmapIn → CallData
bmap_told h r = record (told_of number.BMAP kind.OFFSET h) { offset = r.block; size = r.blocksize }

-- where the input of an IOCTL begins, and the data of a NOTIFY_REPLY
abbrev pub ioctl_place : ℕ
ioctl_place = size_of in_header + size_of ioctl_in

abbrev pub notify_place : ℕ
notify_place = size_of in_header + size_of notify_retrieve_in

-- IOCTL: the command, its argument and its input, and how much output there may be. A text is answered: the
-- record of its reply, and the output
abbrev pub ioctl_told : InHeader → IoctlIn → CallData
ioctl_told h r = record (told_of number.IOCTL kind.BYTES h) {
  handle = r.fh;
  flags = r.flags;
  more = r.cmd;
  offset = r.arg;
  «data» = record { at = ioctl_place; len = r.in_size };
  length = r.in_size;
  size = r.out_size;
}

-- POLL: the events that are asked for, and the number that a notice is to have. Those that are there are
-- answered
abbrev pub poll_told : InHeader → PollIn → CallData
poll_told h r = record (told_of number.POLL kind.COUNT h) {
  handle = r.fh;
  offset = r.kh;
  flags = r.flags;
  more = r.events;
}

-- NOTIFY_REPLY: the bytes from a place of the node on, as the client keeps them, by the number of the notice
-- that asked for them. It has no reply
abbrev pub notify_told : InHeader → NotifyRetrieveIn → CallData
notify_told h r = record (told_of number.NOTIFY_REPLY kind.NONE h) {
  offset = r.offset;
  size = r.size;
  «data» = record { at = notify_place; len = r.size };
}

-- STATX: the open file, where it names one, and what is asked for. A text is answered: the record of its reply
abbrev pub statx_told : InHeader → StatxIn → CallData
statx_told h r = record (told_of number.STATX kind.BYTES h) {
  handle = if bit_and r.getattr_flags GETATTR_FH == 0 then 0 else r.fh;
  has = if bit_and r.getattr_flags GETATTR_FH == 0 then 0 else has.HANDLE;
  flags = r.sx_flags;
  more = r.sx_mask;
}

-- COPY_FILE_RANGE_64, which is COPY_FILE_RANGE but for its answer: how many bytes, in 64 bits
abbrev pub copy_told : InHeader → CopyfilerangeIn → CallData
copy_told h r = record (told_of number.COPY_64 kind.OFFSET h) {
  handle = r.fh_in;
  offset = r.off_in;
  length = r.len;
  lock_owner = r.flags;
  other_node = r.nodeid_out;
  other_handle = r.fh_out;
  other_offset = r.off_out;
}

-- whether a request has this number, and its row is offered
abbrev pub asks_row : (offers : ℕ) → InHeader → (number row : ℕ) → Bool
asks_row offers h number row = h.opcode == number && has_flag offers row

-- The further table: what a request with this header asks, which has that many bytes, and these after the
-- header.
abbrev pub row_of : (offers : ℕ) → InHeader → (rest : List ℕ) → (len : ℕ) → What
row_of offers h rest len =
    if asks_row offers h number.GETLK row.LOCKS
    then or_short (record_of lk_in rest) (λ r. Row (lock_told number.GETLK kind.BYTES h r))
    else if asks_row offers h number.SETLK row.LOCKS
    then or_short (record_of lk_in rest) (λ r. Row (lock_told number.SETLK kind.STATUS h r))
    else if asks_row offers h number.SETLKW row.LOCKS
    then or_short (record_of lk_in rest) (λ r. Row (lock_told number.SETLKW kind.STATUS h r))
    else if asks_row offers h number.BMAP row.BMAP
    then or_short (record_of bmap_in rest) (λ r. Row (bmap_told h r))
    else if asks_row offers h number.IOCTL row.IOCTL
    then or_short (record_of ioctl_in rest) (λ r.
    if_whole (ioctl_place + r.in_size) len (ioctl_told h r))
    else if asks_row offers h number.POLL row.POLL
    then or_short (record_of poll_in rest) (λ r. Row (poll_told h r))
    else if asks_row offers h number.NOTIFY_REPLY row.NOTIFY_REPLY
    then or_short (record_of notify_retrieve_in rest) (λ r.
    if_whole (notify_place + r.size) len (notify_told h r))
    else if asks_row offers h number.TMPFILE row.TMPFILE then Unnamed
    else if asks_row offers h number.STATX row.STATX
    then or_short (record_of statx_in rest) (λ r. Row (statx_told h r))
    else if asks_row offers h number.COPY_64 row.COPY_64
    then or_short (record_of copyfilerange_in rest) (λ r. Row (copy_told h r))
    else Ordinary

-- the same of a header that may not be whole, or may say too much: virtiofsd's table refuses it
abbrev pub what_after : (offers : ℕ) → Limits → Result InHeader Error → (rest : List ℕ) → (len : ℕ) → What
what_after offers limits (Err error) rest len = Ordinary
what_after offers limits (Ok h) rest len =
    if nat_lt (max_len limits) h.len then Ordinary else row_of offers h rest len

-- what these bytes ask by the rows that are offered
abbrev pub what_of : (offers : ℕ) → Limits → (request : List ℕ) → What
what_of offers limits q =
    what_after offers limits (record_of in_header q) (drop (size_of in_header) q) (length q)

-- a call with the options that were agreed on when it was asked, and the room for its reply
abbrev pub told_under : (options room : ℕ) → CallData → CallData
told_under options room told = record told { options = options; room = room }

-- what is told of it: a call, to which this is added, or none
abbrev pub Tells : What → (added : CallData → CallData) → Further → (call call_after : CallData) → Type 0
Tells Ordinary added result call call_after = (result ≡ further.Ordinary) × (call_after ≡ call)
Tells Short added result call call_after = (result ≡ further.Short) × (call_after ≡ call)
Tells (Row told) added result call call_after = (result ≡ further.Row) × (call_after ≡ added told)
Tells Unnamed added result call call_after = (result ≡ further.Unnamed) × (call_after ≡ call)
