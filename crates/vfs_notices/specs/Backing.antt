-- The reply to an OPEN or a CREATE whose file the client reads and writes by itself.
use Rattle.std.specs.Prelude.{◌≡◌, ◌≤◌, ◌+◌, ◌-◌, ◌++◌, ℕ, pos, List, length, take, bit_or}
use Rattle.vfs_wire.specs.Fields.{bytes_of}
use Rattle.vfs_wire.specs.Records.{out_header}
use Rattle.vfs_wire_more.specs.Records.{open_out}
use Rattle.vfs_wire_more.specs.declared.files.OpenOut.{OpenOut}
use Rattle.vfs_notices.specs.Init.{record_at}
use Rattle.vfs_notices.specs.Notices.{size_of}
use Rattle.vfs_notices.specs.declared.backing.TheConstants.{FOPEN_PASSTHROUGH}

-- a whole reply that is no fault, and has room for the record of an open file
pub record Opens (reply : List ℕ) : Type 0 where
  pub long : size_of out_header + size_of open_out ≤ length reply
  pub len : (record_at out_header 0 reply).len ≡ length reply
  pub no_fault : (record_at out_header 0 reply).error ≡ pos 0

-- where that record is: at the reply's end, also after an entry
abbrev pub open_at : (reply : List ℕ) → ℕ
open_at reply = length reply - size_of open_out

-- The record with this backing file. In fuse.h its last field is `backing_id`.
abbrev pub with_backing : (id : ℕ) → OpenOut → OpenOut
with_backing id said = record said {
  open_flags = bit_or said.open_flags FOPEN_PASSTHROUGH;
  padding = id;
}

-- the reply with this backing file: all before the record stays
abbrev pub reply_with_backing : (id : ℕ) → (reply : List ℕ) → List ℕ
reply_with_backing id reply =
    take (open_at reply) reply
    ++ bytes_of open_out (with_backing id (record_at open_out (open_at reply) reply))
