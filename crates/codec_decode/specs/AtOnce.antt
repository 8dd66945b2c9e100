-- What is told at once of a request: the call that it asks for.
use Rattle.std.specs.Prelude.{◌≡◌, ◌⊎◌, ⊤, List, ℕ}
use Rattle.vfs_flags.specs.Flags.{fs_options_bits}
use Rattle.vfs_flags.specs.Numbers.{number_of}
use Rattle.vfs_flags.specs.declared.opcode.Opcode.{Opcode}
use Rattle.vfs_flags.specs.declared.opcode.Opcode.TheVariants.{Lookup, Getattr, Read, Write}
use Rattle.vfs_wire.specs.declared.headers.InHeader.{InHeader}
use Rattle.vfs_segments.specs.Written.{Written}
use Rattle.vfs_grammar.specs.Ask.{ask}
use Rattle.vfs_grammar.specs.Words.{ask_header, ask_opcode}
use Rattle.vfs_grammar.specs.Forms.{Ask, Ends, Asks, Lists, WithMemory}
use Rattle.vfs_grammar.specs.Memory.{header_of}
use Rattle.vfs_grammar.specs.declared.limits.Limits.{Limits}
use Rattle.codec_calls.specs.Shapes.{shape_of}
use Rattle.codec_calls.specs.declared.call.CallData.{CallData}
use Rattle.codec_decode.specs.Asked.{interrupted_after}
use Rattle.codec_decode.specs.Parts.{told_with}
use Rattle.codec_decode.specs.Terms.{TellsAfter}
use Rattle.codec_decode.specs.declared.asked.Asked.TheVariants as asked
use Rattle.codec_decode.specs.declared.asked.Terms.{Terms}

-- what is asked is a call
abbrev pub IsCallAsked : Ask → Type 0
IsCallAsked (Ends reply) = ⊥
IsCallAsked (Asks echo call) = ⊤
IsCallAsked (Lists echo l) = ⊥
IsCallAsked (WithMemory rest) = IsCallAsked rest

-- the opcode of what is asked for most: a LOOKUP, a GETATTR, a READ or a WRITE
abbrev pub IsAskedMost : (opcode : ℕ) → Type 0
IsAskedMost n =
    (n ≡ number_of Lookup) ⊎ (n ≡ number_of Getattr) ⊎ (n ≡ number_of Read) ⊎ (n ≡ number_of Write)

-- a request that is told at once: one of these four that asks for a call
abbrev pub AsksAtOnce : Limits → (options room : ℕ) → (request : List ℕ) → Type 0
AsksAtOnce limits options room request =
    IsAskedMost (header_of request).opcode × IsCallAsked (ask limits options room request)

-- ---- no more is of the promise: the rest is for contracts of parts

-- a request of this opcode asks for a call
abbrev pub AsksForCall : Terms → Opcode → InHeader → (rest : List ℕ) → Type 0
AsksForCall terms o h rest =
    IsCallAsked (ask_opcode terms.limits (fs_options_bits terms.options) terms.room o h rest)

-- a request with this header asks for one
abbrev pub AsksAfterHeader : Terms → InHeader → (rest : List ℕ) → Type 0
AsksAfterHeader terms h rest =
    IsCallAsked (ask_header terms.limits (fs_options_bits terms.options) terms.room h rest)

-- what is asked is a call, and it is told with its places
abbrev pub IsCallTold : Ask → (place : CallData → CallData) → CallData → Type 0
IsCallTold (Ends reply) place told = ⊥
IsCallTold (Asks echo call) place told = told ≡ place (shape_of call)
IsCallTold (Lists echo l) place told = ⊥
IsCallTold (WithMemory rest) place told = IsCallTold rest place told

-- the call is told that a request of this opcode asks for
abbrev pub IsToldAtOnce : Terms → Opcode → InHeader → (rest : List ℕ) → CallData → Type 0
IsToldAtOnce terms o h rest told =
    IsCallTold (ask_opcode terms.limits (fs_options_bits terms.options) terms.room o h rest)
    (told_with h.unique (fs_options_bits terms.options) terms.room terms.len o) told

-- the call is told that a request with this header asks for, whatever a writer has
abbrev pub TellsAtOnce : Terms → InHeader → (rest : List ℕ) → CallData → Type 0
TellsAtOnce terms h rest told =
    (writer writer_after : Written) →
    TellsAfter terms ⊤ (interrupted_after terms.limits h rest) h rest
    (ask_header terms.limits (fs_options_bits terms.options) terms.room h rest)
    writer asked.Call writer_after told
