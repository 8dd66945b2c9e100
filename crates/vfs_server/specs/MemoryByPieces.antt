-- Which requests may want memory, as a handler says it: by the pieces of memory in which the bytes
-- after their headers lie.
use Rattle.std.specs.Prelude.{◌⊎◌, ℕ, List, Option, Some, None}
use Rattle.vfs_flags.specs.declared.opcode.Opcode.{Opcode}
use Rattle.vfs_wire.specs.declared.headers.InHeader.{InHeader}
use Rattle.vfs_grammar.specs.Ask.{form_of}
use Rattle.vfs_grammar.specs.Forms.{Form, layout_size}
use Rattle.vfs_grammar.specs.Memory.{by_memory}
use Rattle.vfs_grammar.specs.declared.limits.Limits.{Limits}
use Rattle.vfs_messages.specs.Parts.{MayHoldContext, TailIsCut, pieces_after}

-- memory may be wanted for a request of this form, where the bytes after its header lie in these
-- pieces: for a tail that is cut, for a context, or for pairs
abbrev pub MayWantFor : InHeader → (pieces : List ℕ) → Form → Type 0
MayWantFor h pieces form =
    by_memory ⊥ (λ R layout. TailIsCut h (layout_size layout) (pieces_after layout pieces))
    (λ R layout options.
    TailIsCut h (layout_size layout) (pieces_after layout pieces) ⊎ MayHoldContext options)
    (λ R layout above count. Unit {0}) form

-- the same by the opcode
abbrev pub MayWantAfter : Limits → (options room_len : ℕ) → Option Opcode → InHeader
    → (pieces : List ℕ) → Type 0
MayWantAfter limits options room_len None h pieces = ⊥
MayWantAfter limits options room_len (Some opcode) h pieces =
    MayWantFor h pieces (form_of limits options room_len h opcode)
