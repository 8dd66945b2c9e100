-- Which requests are refused for want of memory.
use Rattle.std.specs.Prelude.{◌≢◌, ⊤, ℕ, List, Err}
use Rattle.vfs_flags.specs.Numbers.{opcode_of}
use Rattle.vfs_wire.specs.Records.{in_header}
use Rattle.vfs_segments.specs.Lengths.{lengths_from}
use Rattle.vfs_segments.specs.Unread.{Unread}
use Rattle.vfs_grammar.specs.Memory.{header_of}
use Rattle.vfs_grammar.specs.Records.{size_of}
use Rattle.vfs_grammar.specs.declared.error.Error.TheVariants.{OutOfMemory}
use Rattle.vfs_grammar.specs.declared.limits.Limits.{Limits}
use Rattle.vfs_server.specs.MemoryByPieces.{MayWantAfter}
use Rattle.codec_decode.specs.declared.asked.Asked.{Asked}
use Rattle.codec_decode.specs.declared.asked.Asked.TheVariants as asked

-- memory may be wanted for the request that a reader has left
abbrev pub MayWant : Limits → (options space : ℕ) → Unread → Type 0
MayWant limits options space u =
    MayWantAfter limits options space (opcode_of (header_of u.left).opcode) (header_of u.left)
    (lengths_from (size_of in_header) u.pieces)

-- memory may be wanted for a request with these bytes, of which those after the header lie in these pieces
abbrev pub MayWantAfterHeader : Limits → (options space : ℕ) → (request : List ℕ) → (pieces : List ℕ) → Type 0
MayWantAfterHeader limits options space q pieces =
    MayWantAfter limits options space (opcode_of (header_of q).opcode) (header_of q) pieces

-- a request is not refused for want of memory: a call is told, or what it came to is another thing
abbrev pub LacksNoMemory : Asked → Type 0
LacksNoMemory asked.Call = ⊤
LacksNoMemory (asked.Finished outcome interrupts) = outcome ≢ Err OutOfMemory
