-- What the reply to an INIT agrees on beyond what virtiofsd's does: further options, and its numbers.
use Rattle.std.specs.Prelude.{◌≡◌, ◌≤◌, ◌+◌, ◌-◌, ◌*◌, ◌/◌, ◌^◌, ◌==◌, ◌++◌, ℕ, pos, List, [], ◌∷◌, length, take, min, max, nat_lt, if◌then◌else◌, bit_and, bit_or, slice_index}
use Rattle.vfs_flags.specs.Flags.{init_ext}
use Rattle.vfs_flags.specs.Numbers.{number_of}
use Rattle.vfs_flags.specs.declared.constants.TheConstants.{LEAST_MAX_BUFFER}
use Rattle.vfs_flags.specs.declared.opcode.Opcode.TheVariants.{Init}
use Rattle.vfs_wire.specs.Fields.{Table, bytes_of, numbers_at}
use Rattle.vfs_wire.specs.Records.{in_header, init_in_compat, init_in_ext, init_out, out_header}
use Rattle.vfs_wire.specs.declared.init.InitOut.{InitOut}
use Rattle.vfs_notices.specs.Notices.{size_of}
use Rattle.vfs_notices.specs.declared.init.InitMore.{InitMore}
use Rattle.vfs_notices.specs.declared.init.further.TheConstants as further

-- the record of the bytes from this place on
abbrev pub record_at : {R : Type 0} → Table R → (at : ℕ) → (bytes : List ℕ) → R
record_at t at bytes = t.made (numbers_at at t.widths bytes)

-- where the first record of an INIT is, and the second
abbrev pub compat_at : ℕ
compat_at = size_of in_header

abbrev pub ext_at : ℕ
ext_at = compat_at + size_of init_in_compat

-- the further options of an INIT's second record, of the bits from 32 on
abbrev pub offered_by : (flags2 : ℕ) → ℕ
offered_by flags2 = bit_and (flags2 * 2 ^ 32) further.ALL

-- The further options that a request offers: an INIT that is long enough and says INIT_EXT. Another offers
-- none.
abbrev pub further_offered : (request : List ℕ) → ℕ
further_offered request =
    if nat_lt (length request) (ext_at + size_of init_in_ext) then 0
    else if (record_at in_header 0 request).opcode == number_of Init
    then (if bit_and (record_at init_in_compat compat_at request).flags init_ext == 0 then 0
    else offered_by (record_at init_in_ext ext_at request).flags2)
    else 0

-- the record of a reply to INIT
abbrev pub said_in : (reply : List ℕ) → InitOut
said_in reply = record_at init_out (size_of out_header) reply

-- A reply to INIT that says what was agreed on: it is whole, and no fault. One that says only a version, which
-- a client of a later one gets, has no `max_write`.
pub record Agrees (reply : List ℕ) : Type 0 where
  pub whole : length reply ≡ size_of out_header + size_of init_out
  pub len : (record_at out_header 0 reply).len ≡ length reply
  pub no_fault : (record_at out_header 0 reply).error ≡ pos 0
  pub max_write : LEAST_MAX_BUFFER ≤ (said_in reply).max_write

-- The further options that are agreed on: those offered that are wanted. None where the reply does not say
-- INIT_EXT, without which a client does not look at `flags2`.
abbrev pub further_agreed : (offered want flags : ℕ) → ℕ
further_agreed offered want flags =
    if bit_and flags init_ext == 0 then 0 else bit_and (bit_and offered want) further.ALL

-- what is said: ours, where it isn't 0
abbrev pub in_place : (ours said : ℕ) → ℕ
in_place ours said = if ours == 0 then said else ours

-- the same, and no more than was said
abbrev pub lowered : (ours said : ℕ) → ℕ
lowered ours said = min (in_place ours said) said

-- a number that is said with this option alone
abbrev pub with_option : (option agreed ours said : ℕ) → ℕ
with_option option agreed ours said = if bit_and agreed option == 0 then said else ours

-- the most seconds of a timeout, which has 16 bits of its field; the others are 0
abbrev pub most_seconds : ℕ
most_seconds = 2 ^ 16 - 1

-- The reply's record with these further options. In fuse.h the first of `unused` is `max_stack_depth`, and the
-- second `request_timeout`.
abbrev pub with_more : (agreed : ℕ) → InitMore → InitOut → InitOut
with_more agreed more said = record said {
  max_readahead = lowered more.max_readahead said.max_readahead;
  max_background = in_place more.max_background said.max_background;
  congestion_threshold = in_place more.congestion_threshold said.congestion_threshold;
  max_write = max LEAST_MAX_BUFFER (lowered more.max_write said.max_write);
  time_gran = in_place more.time_gran said.time_gran;
  flags2 = bit_or said.flags2 (agreed / 2 ^ 32);
  unused =
      with_option further.PASSTHROUGH agreed more.max_stack_depth (slice_index said.unused 0)
      ∷ with_option further.REQUEST_TIMEOUT agreed (min more.request_timeout most_seconds)
      (slice_index said.unused 1)
      ∷ slice_index said.unused 2 ∷ slice_index said.unused 3 ∷ slice_index said.unused 4
      ∷ slice_index said.unused 5 ∷ slice_index said.unused 6 ∷ [];
}

-- nothing is to be added: no further option is wanted, and no number is ours
pub record AddsNothing (more : InitMore) : Type 0 where
  pub want : more.want ≡ 0
  pub max_readahead : more.max_readahead ≡ 0
  pub max_write : more.max_write ≡ 0
  pub time_gran : more.time_gran ≡ 0
  pub max_background : more.max_background ≡ 0
  pub congestion_threshold : more.congestion_threshold ≡ 0

-- the reply with these further options: its header stays
abbrev pub reply_with_more : (agreed : ℕ) → InitMore → (reply : List ℕ) → List ℕ
reply_with_more agreed more reply =
    take (size_of out_header) reply ++ bytes_of init_out (with_more agreed more (said_in reply))
