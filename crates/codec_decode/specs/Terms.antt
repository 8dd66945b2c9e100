-- What is told of a request, of which the header was read.
use Rattle.std.specs.Prelude.{◌≡◌, ℕ, List, length, drop, Ok, Some}
use Rattle.vfs_flags.specs.Flags.{fs_options_bits}
use Rattle.vfs_flags.specs.Numbers.{opcode_of}
use Rattle.vfs_flags.specs.declared.opcode.Opcode.{Opcode}
use Rattle.vfs_wire.specs.Records.{in_header}
use Rattle.vfs_wire.specs.declared.headers.InHeader.{InHeader}
use Rattle.vfs_segments.specs.Unread.{Unread}
use Rattle.vfs_segments.specs.Written.{Written}
use Rattle.vfs_grammar.specs.Words.{ask_header, ask_opcode}
use Rattle.vfs_grammar.specs.Forms.{Ask}
use Rattle.vfs_grammar.specs.Records.{record_of, size_of}
use Rattle.vfs_server.specs.MemoryByPieces.{MayWantAfter}
use Rattle.codec_calls.specs.declared.call.CallData.{CallData}
use Rattle.codec_decode.specs.declared.asked.Asked.{Asked}
use Rattle.codec_decode.specs.declared.asked.Terms.{Terms}
use Rattle.codec_decode.specs.Asked.{Tells, interrupted_after}

-- What is told of a request that asks this, whose header is followed by these bytes.
abbrev pub TellsAfter : Terms → (wanted : Type 0) → (interrupts : ℕ) → InHeader → (rest : List ℕ) → Ask
    → (writer : Written) → Asked → (writer_after : Written) → CallData → Type 0
TellsAfter terms wanted interrupts h rest a writer result writer_after told =
    (request : List ℕ) → length request ≡ terms.len → record_of in_header request ≡ Ok h
    → drop (size_of in_header) request ≡ rest
    → Tells wanted request (fs_options_bits terms.options) interrupts terms.room a writer result writer_after
    told

-- What is told of a request with this header, after which a reader is.
abbrev pub TellsOfHeader : Terms → InHeader → Unread → (writer : Written) → Asked → (writer_after : Written)
    → CallData → Type 0
TellsOfHeader terms h r writer result writer_after told =
    TellsAfter terms
    (MayWantAfter terms.limits (fs_options_bits terms.options) terms.room (opcode_of h.opcode) h r.pieces)
    (interrupted_after terms.limits h r.left) h r.left
    (ask_header terms.limits (fs_options_bits terms.options) terms.room h r.left)
    writer result writer_after told

-- The same of one of this opcode, which is no INTERRUPT.
abbrev pub TellsOfOpcode : Terms → Opcode → InHeader → Unread → (writer : Written) → Asked
    → (writer_after : Written) → CallData → Type 0
TellsOfOpcode terms opcode h r writer result writer_after told =
    TellsAfter terms
    (MayWantAfter terms.limits (fs_options_bits terms.options) terms.room (Some opcode) h r.pieces) 0 h r.left
    (ask_opcode terms.limits (fs_options_bits terms.options) terms.room opcode h r.left)
    writer result writer_after told
