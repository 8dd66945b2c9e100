-- Where a security context is.
use Rattle.std.specs.Prelude.{◌≡◌, ◌⊎◌, ◌<◌, ◌+◌, ◌-◌, ◌==◌, ◌^◌, min, ℕ, Bool, false, if◌then◌else◌, List, drop, length, Some, Ok, Err, Result}
use Rattle.vfs_flags.specs.Flags.{security_ctx, has_flag}
use Rattle.vfs_flags.specs.declared.opcode.Opcode.{Opcode}
use Rattle.vfs_flags.specs.declared.opcode.Opcode.TheVariants as opcode
use Rattle.vfs_files.specs.Values.{ExtensionValues}
use Rattle.vfs_wire.specs.declared.headers.InHeader.{InHeader}
use Rattle.vfs_wire_more.specs.Records.{create_in, mkdir_in, mknod_in}
use Rattle.vfs_grammar.specs.Extensions.{error_or, extensions_in}
use Rattle.vfs_grammar.specs.Forms.{tail_of}
use Rattle.vfs_grammar.specs.Records.{record_of, size_of}
use Rattle.vfs_grammar.specs.declared.error.Error.{Error}
use Rattle.vfs_grammar.specs.declared.error.Error.TheVariants.{OutOfMemory}
use Rattle.codec_calls.specs.declared.call.CallData.{CallData}
use Rattle.codec_calls.specs.declared.call.Range.{Range}
use Rattle.codec_decode.specs.Parts.{place_after, placed_at}
use Rattle.codec_decode.specs.Asked.{IsNameIn, Stand}

-- a context is here: its name, and its value after the name and a byte, which isn't empty
pub record ContextAt (bytes : List ℕ) (at : ℕ) (context : List ℕ × List ℕ) : Type 0 where
  pub name : IsNameIn bytes (record { at = at; len = length context.0 }) context.0
  pub value : Stand bytes (record { at = at + (length context.0 + 1); len = length context.1 }) context.1
  pub some : 0 < length context.1

-- the context of these blocks, where they have one, is here
abbrev pub StandsInBlocks : (blocks : List ℕ) → (at : ℕ) → Type 0
StandsInBlocks blocks at =
    (options : ℕ) (ext : ExtensionValues) (context : List ℕ × List ℕ)
    → extensions_in options blocks ≡ Ok ext → ext.context ≡ Some context → ContextAt blocks at context

-- whether a request of this opcode may have a context, where these options are agreed on
abbrev pub may_have_context : (options : ℕ) → Opcode → Bool
may_have_context options opcode.Symlink = has_flag options security_ctx
may_have_context options opcode.Mknod = has_flag options security_ctx
may_have_context options opcode.Mkdir = has_flag options security_ctx
may_have_context options opcode.Create = has_flag options security_ctx
may_have_context options opcode = false

-- the tail of such a request
abbrev pub tail_after : Opcode → InHeader → (rest : List ℕ) → Result (List ℕ) Error
tail_after opcode.Mknod h rest =
    error_or (record_of mknod_in rest) (λ r. tail_of h (size_of mknod_in) (drop (size_of mknod_in) rest))
tail_after opcode.Mkdir h rest =
    error_or (record_of mkdir_in rest) (λ r. tail_of h (size_of mkdir_in) (drop (size_of mkdir_in) rest))
tail_after opcode.Create h rest =
    error_or (record_of create_in rest) (λ r. tail_of h (size_of create_in) (drop (size_of create_in) rest))
tail_after opcode h rest = tail_of h 0 rest

-- the tail is this one, or refused as the grammar says, or there was no memory for one that is whole
abbrev pub GivesTailOf : Result (List ℕ) Error → (tail : Result (List ℕ) Error) → Type 0
GivesTailOf (Ok bytes) tail = tail ≡ Ok bytes
GivesTailOf (Err e) tail =
    (tail ≡ Err e) ⊎ ((whole : List ℕ) × (tail ≡ Ok whole) × (e ≡ OutOfMemory))

-- the last name or text of such a request, after which its blocks are
abbrev pub last_name : Opcode → CallData → Range
last_name opcode.Symlink c = c.other_name
last_name opcode c = c.name

-- where the blocks begin, and how far after the first name that is
abbrev pub blocks_place : Opcode → CallData → ℕ
blocks_place o c = place_after (last_name o c).at (last_name o c)

abbrev pub blocks_of : Opcode → CallData → (tail : List ℕ) → List ℕ
blocks_of o c tail = drop (blocks_place o c - c.name.at) tail

-- a call whose context, where it has one, is so far after the place of the blocks
abbrev pub with_context_at : (place : ℕ) → CallData → CallData
with_context_at place c =
    if c.context.len == 0 then c
    else
    record c {
      context_name = placed_at place c.context_name;
      context = placed_at (place_after place c.context_name) c.context;
    }

-- the greatest number, where a sum is above it
abbrev pub sum_or_most : ℕ → ℕ → ℕ
sum_or_most a b = min (a + b) (2 ^ 64 - 1)

-- the context of a call is told where it is in the blocks of its tail
pub record PlacesContext (o : Opcode) (tail : List ℕ) (old new : CallData) : Type 0 where
  pub place : ℕ
  pub stands : StandsInBlocks (blocks_of o old tail) place
  pub new_is : new ≡ with_context_at (sum_or_most (blocks_place o old) place) old
