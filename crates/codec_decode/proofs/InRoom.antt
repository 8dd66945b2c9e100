-- What is noted of a request doesn't hang on the room, but for a READ and a directory that is to be read.
use Rattle.std.proofs.Common.{◌≢◌, ℕ, List, Some, Result, refl}
use Rattle.vfs_flags.specs.declared.opcode.Opcode.{Opcode}
use Rattle.vfs_flags.specs.declared.opcode.Opcode.TheVariants as opcode
use Rattle.vfs_segments.specs.Written.{Written}
use Rattle.vfs_wire.specs.declared.headers.InHeader.{InHeader}
use Rattle.vfs_grammar.specs.Words.{ask_opcode}
use Rattle.vfs_grammar.specs.declared.limits.Limits.{Limits}
use Rattle.vfs_grammar.specs.declared.error.Error.{Error}
use Rattle.codec_calls.specs.declared.call.CallData.{CallData}
use Rattle.vfs_server.specs.MemoryByPieces.{MayWantAfter}
use Rattle.codec_decode.specs.Noting.{IsNoted}

module _ (limits : Limits) (options left room : ℕ) (h : InHeader) (rest pieces : List ℕ)
    (writer : Written) (outcome : Result ℕ Error) (writer_after : Written) (noted : CallData) where
  abbrev Noted : (space : ℕ) → Opcode → Type 0
  Noted space o = IsNoted (MayWantAfter limits options space (Some o) h pieces) (ask_opcode limits options space o h rest) writer outcome writer_after noted

  pub noted_in_room : (o : Opcode) → o ≢ opcode.Readdir → o ≢ opcode.Readdirplus → o ≢ opcode.Read → Noted left o → Noted room o
  noted_in_room opcode.Read not_readdir not_plus not_read n = absurd (not_read refl)
  noted_in_room opcode.Readdir not_readdir not_plus not_read n = absurd (not_readdir refl)
  noted_in_room opcode.Readdirplus not_readdir not_plus not_read n = absurd (not_plus refl)
  noted_in_room _ not_readdir not_plus not_read n = n
