-- Which texts are answers of a row. Others are answered by EIO in their place.
use Rattle.std.specs.Prelude.{◌≡◌, ◌==◌, ◌&&◌, ◌+◌, ◌*◌, if◌then◌else◌, nat_le, not, true, false, Bool, ⊤, pos, ℕ, List, length, Result, Ok, Err}
use Rattle.std.specs.Ordering.{int_eq}
use Rattle.vfs_flags.specs.Flags.{has_flag}
use Rattle.vfs_flags.specs.Numbers.{eio}
use Rattle.vfs_wire_more.specs.Locks.{lk_out}
use Rattle.vfs_wire_more.specs.Devices.{ioctl_iovec, ioctl_out}
use Rattle.vfs_wire_more.specs.declared.devices.IoctlOut.{IoctlOut}
use Rattle.vfs_files.specs.Calls.{Kind, Texts, Answer, Text}
use Rattle.vfs_grammar.specs.Records.{record_of, size_of}
use Rattle.vfs_grammar.specs.declared.error.Error.{Error}
use Rattle.codec_calls.specs.declared.call.CallData.{CallData}
use Rattle.codec_calls.specs.declared.call.kind.TheConstants as kind
use Rattle.codec_calls.specs.declared.call.number.TheConstants as number
use Rattle.codec_calls.specs.declared.data.AnswerData.{AnswerData}
use Rattle.codec_encode.specs.declared.fitting.TheConstants.{IOCTL_MAX_IOV, IOCTL_RETRY, STATX_OUT_SIZE}

-- Whether a text of this length, which begins with this record, answers an IOCTL: the record, and no more output
-- than there may be; or, where it is to be asked again, the record and the places of its input and its output.
abbrev pub fits_record : (out_size len : ℕ) → Result IoctlOut Error → Bool
fits_record out_size len (Err error) = false
fits_record out_size len (Ok out) =
    if has_flag out.flags IOCTL_RETRY
    then nat_le (out.in_iovs + out.out_iovs) IOCTL_MAX_IOV
    && len == size_of ioctl_out + (out.in_iovs + out.out_iovs) * size_of ioctl_iovec
    else nat_le len (size_of ioctl_out + out_size)

abbrev pub fits_ioctl : (out_size : ℕ) → (text : List ℕ) → Bool
fits_ioctl out_size text = fits_record out_size (length text) (record_of ioctl_out text)

-- whether this text answers a call
abbrev pub fits : CallData → (text : List ℕ) → Bool
fits call text =
    if call.call == number.GETLK then length text == size_of lk_out
    else if call.call == number.STATX then length text == STATX_OUT_SIZE
    else if call.call == number.IOCTL then fits_ioctl call.size text
    else true

-- a call whose answer is a text is answered one that doesn't fit
abbrev pub is_unfit : CallData → AnswerData → (text : List ℕ) → Bool
is_unfit call a text = call.answer == kind.BYTES && (int_eq a.error (pos 0) && not (fits call text))

-- what is answered: EIO in the place of a text that doesn't fit
abbrev pub answer_offered : CallData → AnswerData → (text : List ℕ) → AnswerData
answer_offered call a text = if is_unfit call a text then record a { error = pos eio } else a

-- the answer to a call of this kind fits
abbrev pub IsFit : CallData → Kind → Answer → Type 0
IsFit call Texts (Text bytes) = fits call bytes ≡ true
IsFit call kind answer = ⊤
