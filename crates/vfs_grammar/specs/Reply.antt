-- What comes back to the client, and the bytes of replies. It leads from `Reply` to `reply_of`, the last
-- definition.
use Rattle.std.specs.Prelude.{ℕ, pos, ◌+◌, ◌-◌, ◌-ℤ◌, ◌/◌, ◌%◌, ◌^◌, List, [], ◌++◌, length, Option, unwrap_or, replicate}
use Rattle.vfs_flags.specs.Numbers.{eio}
use Rattle.vfs_flags.specs.declared.constants.TheConstants.{KERNEL_VERSION, KERNEL_MINOR_VERSION}
use Rattle.vfs_wire.specs.Fields.{bytes_of}
use Rattle.vfs_wire.specs.Records.{out_header, init_out, attr_out, entry_out, kstatfs, kstatfs_of}
use Rattle.vfs_wire_more.specs.Records.{open_out, write_out, lseek_out, getxattr_out}
use Rattle.vfs_wire.specs.declared.headers.InHeader.{InHeader}
use Rattle.vfs_wire.specs.declared.init.InitOut.{InitOut}
use Rattle.vfs_wire_more.specs.declared.files.OpenOut.{OpenOut}
use Rattle.vfs_files.specs.Answers.{Kind, Quiet, Untold, Data, Agreements, Answer, Done, Failed, Found, Put, Attributes, Opened, Created, Statistics, Text, Count, Offset, Wrote}
use Rattle.vfs_files.specs.Values.{context_of, entry_out_of, whole_seconds, nanoseconds_beyond}
use Rattle.vfs_files.specs.declared.entry.Context.{Context}
use Rattle.vfs_grammar.specs.Records.{size_of}
use Rattle.vfs_grammar.specs.declared.limits.Limits.{Limits}
use Rattle.vfs_grammar.specs.declared.error.Error.{Error}

-- What comes back of a request: an error, with no byte put; nothing; these bytes, after which
-- the room stays as it was; or these bytes, after which the room is open: any bytes may be there.
pub data Reply : Type 0 where
  Refusal : (error : Error) → Reply
  NoReply : Reply
  Bytes : (reply : List ℕ) → Reply
  OpenAfter : (reply : List ℕ) → Reply

-- What is kept of a request after its call: what the reply repeats, which is the client's number
-- and, of INIT alone, the read-ahead; and the caller, for whom an entry is given back.
pub record Echo : Type 0 where
  pub unique : ℕ
  pub max_readahead : ℕ
  pub ctx : Context

-- what is kept of a request; INIT adds its read-ahead
abbrev pub echo_of : InHeader → Echo
echo_of h = record { unique = h.unique; max_readahead = 0; ctx = context_of h }

-- a reply that says a fault: the header alone, with the negated number, that of EIO where it has none
abbrev pub fault_reply : (fault : Option ℕ) → (unique : ℕ) → List ℕ
fault_reply fault unique =
    bytes_of out_header
    (record { len = size_of out_header; error = pos 0 -ℤ pos (unwrap_or fault eio); unique = unique })

-- a reply with a body after its header
abbrev pub body_reply : (body : List ℕ) → (unique : ℕ) → List ℕ
body_reply body unique =
    bytes_of out_header
    (record { len = size_of out_header + length body; error = pos 0; unique = unique })
    ++ body

-- what was opened, as OPEN, OPENDIR and CREATE reply it: handle 0 where there is none
abbrev pub open_out_of : (handle : Option ℕ) → (opening : ℕ) → OpenOut
open_out_of handle opening = record { fh = unwrap_or handle 0; open_flags = opening; padding = 0 }

-- what INIT replies to a client of a newer major version: the version that the server speaks, and
-- zeros
abbrev pub version_out : InitOut
version_out =
    record (init_out.made (replicate 18 0)) { major = KERNEL_VERSION; minor = KERNEL_MINOR_VERSION }

-- What INIT replies, of the version, the limits, the client's read-ahead and the agreed options.
-- Requests in the background are bounded by what the field holds, and the threshold is three
-- quarters of that, each quarter rounded down; times are kept by the nanosecond; the last pages are those
-- that the largest payload takes.
abbrev pub init_out_of : Limits → (max_readahead options : ℕ) → InitOut
init_out_of limits max_readahead options = record version_out {
  max_readahead = max_readahead;
  flags = options % 2 ^ 32;
  max_background = 65535;
  congestion_threshold = 49149;
  max_write = limits.max_buffer;
  time_gran = 1;
  max_pages = (limits.max_buffer - 1) / limits.page_size + 1;
  flags2 = options / 2 ^ 32;
}

-- The body of the reply to an answer, by what it is: none of a fault, and where it says that something
-- was done. INIT's is not of its answer alone: `reply_of` has it.
abbrev pub body_of : Answer → List ℕ
body_of (Put bytes) = bytes
body_of (Found entry) = bytes_of entry_out (entry_out_of entry)
body_of (Attributes attr timeout) = bytes_of attr_out (record {
  attr_valid = whole_seconds timeout;
  attr_valid_nsec = nanoseconds_beyond timeout;
  dummy = 0;
  attr = attr;
})
body_of (Opened handle opening) = bytes_of open_out (open_out_of handle opening)
body_of (Created entry handle opening) =
    bytes_of entry_out (entry_out_of entry) ++ bytes_of open_out (open_out_of handle opening)
body_of (Statistics statistics) = bytes_of kstatfs (kstatfs_of statistics)
body_of (Text bytes) = bytes
body_of (Count length) = bytes_of getxattr_out (record { size = length; padding = 0 })
body_of (Offset offset) = bytes_of lseek_out (record { offset = offset })
body_of (Wrote count) = bytes_of write_out (record { size = count; padding = 0 })
body_of _ = []

-- the reply to an answer: that of its fault, or a header and this body
abbrev pub answer_reply : (body : List ℕ) → (unique : ℕ) → Answer → List ℕ
answer_reply body unique (Failed fault) = fault_reply fault unique
answer_reply body unique _ = body_reply body unique

-- What comes back of a call of this kind with this answer, where these are the options after it:
-- nothing of a `Quiet` one, and of an `Untold` one that was done; of READ and of a directory the reply,
-- a fault too, after which the room is open; and else the reply.
abbrev pub reply_of : Limits → Echo → (options : ℕ) → Kind → Answer → Reply
reply_of limits echo options Agreements answer = Bytes (answer_reply
    (bytes_of init_out (init_out_of limits echo.max_readahead options)) echo.unique answer)
reply_of limits echo options Quiet answer = NoReply
reply_of limits echo options Untold Done = NoReply
reply_of limits echo options (Data size) answer =
    OpenAfter (answer_reply (body_of answer) echo.unique answer)
reply_of limits echo options _ answer = Bytes (answer_reply (body_of answer) echo.unique answer)
