-- Which requests want memory, as a transport sees it: by the pieces of memory in which their bytes
-- lie.
use Rattle.std.specs.Prelude.{◌+◌, ◌-◌, ℕ, Option, Some, None, IsTrue, IsFalse}
use Rattle.vfs_flags.specs.Flags.{security_ctx, has_flag}
use Rattle.vfs_flags.specs.Numbers.{opcode_of}
use Rattle.vfs_flags.specs.declared.opcode.Opcode.{Opcode}
use Rattle.vfs_wire.specs.Records.{in_header}
use Rattle.vfs_wire.specs.declared.headers.InHeader.{InHeader}
use Rattle.vfs_segments.specs.Lengths.{lengths_from}
use Rattle.vfs_segments.specs.Unread.{Unread, are_together}
use Rattle.vfs_grammar.specs.Ask.{form_of}
use Rattle.vfs_grammar.specs.Memory.{header_of, by_memory}
use Rattle.vfs_grammar.specs.Forms.{Form, Layout, layout_size}
use Rattle.vfs_grammar.specs.Records.{size_of}
use Rattle.vfs_grammar.specs.declared.limits.Limits.{Limits}
use Rattle.vfs_server.specs.MemoryByPieces.{MayWantAfter}

-- of a request that a reader has left: the tail after a record of this layout is all there, and
-- lies in one segment
abbrev pub TailIsTogether : {R : Type 0} → InHeader → Unread → Layout R → Type 0
TailIsTogether h u layout =
    IsTrue (are_together u (size_of in_header + layout_size layout)
    (h.len - (size_of in_header + layout_size layout)))

-- of a request of this form that a reader has left, no memory is wanted for it: it has no tail and
-- no pairs; or its tail lies in one segment, and no context can be in it
abbrev pub WantsNone : InHeader → Unread → Form → Type 0
WantsNone h u form =
    by_memory (Unit {0}) (λ R layout. TailIsTogether h u layout)
    (λ R layout options. TailIsTogether h u layout × IsFalse (has_flag options security_ctx))
    (λ R layout above count. ⊥) form

-- the same by the opcode; a number that is none is answered without memory
abbrev pub WantsNoneAfter : Limits → (options room_len : ℕ) → Option Opcode → InHeader → Unread
    → Type 0
WantsNoneAfter limits options room_len None h u = Unit {0}
WantsNoneAfter limits options room_len (Some opcode) h u =
    WantsNone h u (form_of limits options room_len h opcode)

-- no memory is wanted for the request that a reader has left
abbrev pub WantsNoMemory : Limits → (options room_len : ℕ) → Unread → Type 0
WantsNoMemory limits options room_len u =
    WantsNoneAfter limits options room_len (opcode_of (header_of u.left).opcode) (header_of u.left) u

-- ---- no more is of the promise: the rest is for proofs, and for contracts of parts

-- memory may be wanted for the request that a reader has left
abbrev pub MayWant : Limits → (options room_len : ℕ) → Unread → Type 0
MayWant limits options room_len u =
    MayWantAfter limits options room_len (opcode_of (header_of u.left).opcode) (header_of u.left)
    (lengths_from (size_of in_header) u.pieces)
