-- What a check says of a request.
use Rattle.std.specs.Prelude.{◌≡◌, ◌⊎◌, ℕ, List, length, drop, nat_lt, if◌then◌else◌, Ok, Err}
use Rattle.vfs_flags.specs.Flags.{fs_options_bits}
use Rattle.vfs_flags.specs.Numbers.{opcode_of}
use Rattle.vfs_wire.specs.Records.{in_header, out_header}
use Rattle.vfs_wire.specs.declared.headers.InHeader.{InHeader}
use Rattle.vfs_segments.specs.Unread.{Unread}
use Rattle.vfs_grammar.specs.Ask.{ask}
use Rattle.vfs_grammar.specs.Words.{ask_header}
use Rattle.vfs_grammar.specs.Forms.{Ask, Ends, Asks, Lists, WithMemory}
use Rattle.vfs_grammar.specs.Records.{record_of, size_of}
use Rattle.vfs_grammar.specs.Reply.{Reply, Refusal, NoReply, Bytes, OpenAfter}
use Rattle.vfs_grammar.specs.declared.limits.Limits.{Limits}
use Rattle.vfs_grammar.specs.declared.error.Error.{Error}
use Rattle.vfs_grammar.specs.declared.error.Error.TheVariants.{EncodeMessage, OutOfMemory}
use Rattle.codec_calls.specs.Shapes.{nothing}
use Rattle.codec_calls.specs.declared.call.CallData.{CallData}
use Rattle.vfs_server.specs.MemoryByPieces.{MayWantAfter}
use Rattle.codec_decode.specs.Asked.{IsTold, interrupted_after, interrupted_by, told_of_listing}
use Rattle.codec_decode.specs.Memory.{MayWant}
use Rattle.codec_decode.specs.declared.asked.Asked.{Asked}
use Rattle.codec_decode.specs.declared.asked.Asked.TheVariants as asked
use Rattle.codec_decode.specs.declared.asked.Terms.{Terms}
use Rattle.codec_decode.specs.declared.checked.Checked.{Checked}
use Rattle.codec_decode.specs.declared.checked.Checked.TheVariants as checked

-- a reply of that many bytes is due: so it is refused where there is less room
abbrev pub answered : (room interrupts len : ℕ) → Checked
answered room interrupts len =
    if nat_lt room len then checked.Refused EncodeMessage else checked.Finished interrupts

-- what is said of a request that ends so
abbrev pub judged : (room interrupts : ℕ) → Reply → Checked
judged room interrupts (Refusal error) = checked.Refused error
judged room interrupts NoReply = checked.Finished interrupts
judged room interrupts (Bytes reply) = answered room interrupts (length reply)
judged room interrupts (OpenAfter reply) = answered room interrupts (length reply)

-- what is said of a request that asks this, for which memory may be wanted so, with that much room for a reply
abbrev pub Judges : (wanted : Type 0) → (request : List ℕ) → (options interrupts room : ℕ) → Ask → Checked
    → CallData → Type 0
Judges wanted q options interrupts room (Ends reply) result told =
    (result ≡ judged room interrupts reply) × (told ≡ nothing)
Judges wanted q options interrupts room (Asks echo call) result told =
    (result ≡ checked.Call) × IsTold q options room echo call told
Judges wanted q options interrupts room (Lists echo l) result told =
    (result ≡ checked.Call) × (told ≡ told_of_listing options room echo l)
Judges wanted q options interrupts room (WithMemory rest) result told =
    Judges wanted q options interrupts room rest result told
    ⊎ (wanted × (result ≡ checked.Refused OutOfMemory) × (told ≡ nothing))

-- What is said of the request that a reader has left: what the grammar says that it asks, or that memory was
-- refused where it may be wanted.
abbrev pub IsChecked : Limits → (options : ℕ) → Unread → (room : ℕ) → Checked → CallData → Type 0
IsChecked limits options r room result told =
    Judges (MayWant limits options room r) r.left options (interrupted_by limits r.left) room
    (ask limits options room r.left) result told

-- what is said where a request without room for a reply came to this, if a reply to it is a header alone
abbrev pub refused_as : (room interrupts : ℕ) → Error → Checked
refused_as room interrupts EncodeMessage = answered room interrupts (size_of out_header)
refused_as room interrupts error = checked.Refused error

abbrev pub checked_of : (room : ℕ) → Asked → Checked
checked_of room asked.Call = checked.Call
checked_of room (asked.Finished (Ok len) interrupts) = checked.Finished interrupts
checked_of room (asked.Finished (Err error) interrupts) = refused_as room interrupts error

-- what is said of a request with this header, after which a reader is
abbrev pub JudgesHeader : Terms → InHeader → Unread → Checked → CallData → Type 0
JudgesHeader terms h r result told =
    (request : List ℕ) → length request ≡ terms.len → record_of in_header request ≡ Ok h
    → drop (size_of in_header) request ≡ r.left
    → Judges
    (MayWantAfter terms.limits (fs_options_bits terms.options) terms.room (opcode_of h.opcode) h r.pieces)
    request (fs_options_bits terms.options) (interrupted_after terms.limits h r.left) terms.room
    (ask_header terms.limits (fs_options_bits terms.options) terms.room h r.left) result told
