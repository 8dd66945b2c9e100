-- What holds of the call of each row.
use Rattle.std.proofs.Common.{◌+◌, ℕ, Bool, true, false, List, nat_le, nat_lt, if◌then◌else◌, Result, Ok, Err}
use Rattle.vfs_wire.specs.declared.headers.InHeader.{InHeader}
use Rattle.vfs_wire_more.specs.declared.locks.LkIn.{LkIn}
use Rattle.vfs_wire_more.specs.declared.devices.BmapIn.{BmapIn}
use Rattle.vfs_wire_more.specs.declared.devices.IoctlIn.{IoctlIn}
use Rattle.vfs_wire_more.specs.declared.devices.PollIn.{PollIn}
use Rattle.vfs_wire_more.specs.declared.devices.StatxIn.{StatxIn}
use Rattle.vfs_wire_more.specs.declared.notifications.NotifyRetrieveIn.{NotifyRetrieveIn}
use Rattle.vfs_wire_more.specs.declared.CopyfilerangeIn.{CopyfilerangeIn}
use Rattle.vfs_wire_more.specs.Records.{copyfilerange_in}
use Rattle.vfs_wire_more.specs.Locks.{lk_in}
use Rattle.vfs_wire_more.specs.Devices.{bmap_in, ioctl_in, poll_in, statx_in}
use Rattle.vfs_wire_more.specs.Notifications.{notify_retrieve_in}
use Rattle.vfs_grammar.specs.Limits.{max_len}
use Rattle.vfs_grammar.specs.Records.{record_of}
use Rattle.vfs_grammar.specs.declared.error.Error.{Error}
use Rattle.vfs_grammar.specs.declared.limits.Limits.{Limits}
use Rattle.codec_calls.specs.declared.call.CallData.{CallData}
use Rattle.codec_calls.specs.declared.call.kind.TheConstants as kind
use Rattle.codec_calls.specs.declared.call.number.TheConstants as number
use Rattle.codec_decode.specs.declared.offers.TheConstants as row
use Rattle.codec_decode.specs.Further.{What, Ordinary, Short, Row, Unnamed, asks_row, bmap_told, copy_told, if_whole, ioctl_place, ioctl_told, lock_told, notify_place, notify_told, or_short, poll_told, row_of, statx_told, what_after}

module _ (P : CallData → Type 0) where
  -- it holds of the call that a request asks for, where it asks for one of a row
  abbrev pub OfRow : What → Type 0
  OfRow (Row told) = P told
  OfRow what = Unit {0}

  by_record : {R : Type 0} (r : Result R Error) (next : R → What) → ((x : R) → OfRow (next x)) → OfRow (or_short r next)
  by_record (Err error) next p = tt {0}
  by_record (Ok x) next p = p x

  whole : (b : Bool) (told : CallData) → P told → OfRow (if b then Row told else Short)
  whole true told p = p
  whole false told p = tt {0}

  -- what is to be shown for it to hold of each row
  pub record OfEachRow : Type 0 where
    pub getlk : (h : InHeader) (r : LkIn) → P (lock_told number.GETLK kind.BYTES h r)
    pub setlk : (h : InHeader) (r : LkIn) → P (lock_told number.SETLK kind.STATUS h r)
    pub setlkw : (h : InHeader) (r : LkIn) → P (lock_told number.SETLKW kind.STATUS h r)
    pub bmap : (h : InHeader) (r : BmapIn) → P (bmap_told h r)
    pub ioctl : (h : InHeader) (r : IoctlIn) → P (ioctl_told h r)
    pub poll : (h : InHeader) (r : PollIn) → P (poll_told h r)
    pub notify : (h : InHeader) (r : NotifyRetrieveIn) → P (notify_told h r)
    pub statx : (h : InHeader) (r : StatxIn) → P (statx_told h r)
    pub copy : (h : InHeader) (r : CopyfilerangeIn) → P (copy_told h r)

  module _ (each : OfEachRow) where
    of_row : (h : InHeader) (rest : List ℕ) (len : ℕ) (getlk setlk setlkw bmap ioctl poll notify tmpfile statx copy : Bool)
        → OfRow (if getlk then or_short (record_of lk_in rest) (λ r. Row (lock_told number.GETLK kind.BYTES h r))
        else if setlk then or_short (record_of lk_in rest) (λ r. Row (lock_told number.SETLK kind.STATUS h r))
        else if setlkw then or_short (record_of lk_in rest) (λ r. Row (lock_told number.SETLKW kind.STATUS h r))
        else if bmap then or_short (record_of bmap_in rest) (λ r. Row (bmap_told h r))
        else if ioctl then or_short (record_of ioctl_in rest) (λ r. if_whole (ioctl_place + r.in_size) len (ioctl_told h r))
        else if poll then or_short (record_of poll_in rest) (λ r. Row (poll_told h r))
        else if notify then or_short (record_of notify_retrieve_in rest) (λ r. if_whole (notify_place + r.size) len (notify_told h r))
        else if tmpfile then Unnamed
        else if statx then or_short (record_of statx_in rest) (λ r. Row (statx_told h r))
        else if copy then or_short (record_of copyfilerange_in rest) (λ r. Row (copy_told h r))
        else Ordinary)
    of_row h rest len true _ _ _ _ _ _ _ _ _ =
        by_record (record_of lk_in rest) (λ r. Row (lock_told number.GETLK kind.BYTES h r)) (each.getlk h)
    of_row h rest len false true _ _ _ _ _ _ _ _ =
        by_record (record_of lk_in rest) (λ r. Row (lock_told number.SETLK kind.STATUS h r)) (each.setlk h)
    of_row h rest len false false true _ _ _ _ _ _ _ =
        by_record (record_of lk_in rest) (λ r. Row (lock_told number.SETLKW kind.STATUS h r)) (each.setlkw h)
    of_row h rest len false false false true _ _ _ _ _ _ =
        by_record (record_of bmap_in rest) (λ r. Row (bmap_told h r)) (each.bmap h)
    of_row h rest len false false false false true _ _ _ _ _ =
        by_record (record_of ioctl_in rest) (λ r. if_whole (ioctl_place + r.in_size) len (ioctl_told h r)) (λ r.
        whole (nat_le (ioctl_place + r.in_size) len) (ioctl_told h r) (each.ioctl h r))
    of_row h rest len false false false false false true _ _ _ _ =
        by_record (record_of poll_in rest) (λ r. Row (poll_told h r)) (each.poll h)
    of_row h rest len false false false false false false true _ _ _ =
        by_record (record_of notify_retrieve_in rest) (λ r. if_whole (notify_place + r.size) len (notify_told h r)) (λ r.
        whole (nat_le (notify_place + r.size) len) (notify_told h r) (each.notify h r))
    of_row h rest len false false false false false false false true _ _ = tt {0}
    of_row h rest len false false false false false false false false true _ =
        by_record (record_of statx_in rest) (λ r. Row (statx_told h r)) (each.statx h)
    of_row h rest len false false false false false false false false false true =
        by_record (record_of copyfilerange_in rest) (λ r. Row (copy_told h r)) (each.copy h)
    of_row h rest len false false false false false false false false false false = tt {0}

    by_limit : (above : Bool) (offers : ℕ) (h : InHeader) (rest : List ℕ) (len : ℕ)
        → OfRow (if above then Ordinary else row_of offers h rest len)
    by_limit true offers h rest len = tt {0}
    by_limit false offers h rest len =
        of_row h rest len (asks_row offers h number.GETLK row.LOCKS) (asks_row offers h number.SETLK row.LOCKS)
        (asks_row offers h number.SETLKW row.LOCKS) (asks_row offers h number.BMAP row.BMAP)
        (asks_row offers h number.IOCTL row.IOCTL) (asks_row offers h number.POLL row.POLL)
        (asks_row offers h number.NOTIFY_REPLY row.NOTIFY_REPLY) (asks_row offers h number.TMPFILE row.TMPFILE)
        (asks_row offers h number.STATX row.STATX) (asks_row offers h number.COPY_64 row.COPY_64)

    -- so it holds of the call of a row that is asked for
    pub of_what : (offers : ℕ) (limits : Limits) (h : Result InHeader Error) (rest : List ℕ) (len : ℕ)
        → OfRow (what_after offers limits h rest len)
    of_what offers limits (Err error) rest len = tt {0}
    of_what offers limits (Ok h) rest len = by_limit (nat_lt (max_len limits) h.len) offers h rest len
