-- Extensions as they are written, and that bytes are cut into blocks in one way.
use Rattle.std.specs.Prelude.{◌≡◌, ◌≢◌, ◌<◌, ◌+◌, ◌^◌, ℕ, List, [], ◌∷◌, ◌++◌, length, slice_index, Option, Some, None, Result, Ok, Err}
use Rattle.vfs_wire.specs.Fields.{bytes_of, value_of, lone_number}
use Rattle.vfs_wire.specs.Records.{ext_header, secctx, supp_groups}
use Rattle.vfs_files.specs.Values.{ExtensionValues}
use Rattle.vfs_grammar.specs.Extensions.{Block, block_in}
use Rattle.vfs_grammar.specs.Records.{size_of}
use Rattle.vfs_grammar.specs.declared.error.Error.{Error}

-- ---- as they are written

-- a block of this type with this body
abbrev pub block_bytes : (ext_type : ℕ) → (body : List ℕ) → List ℕ
block_bytes ext_type body =
    bytes_of ext_header (record { size = size_of ext_header + length body; ext_type = ext_type })
    ++ body

-- the body of a block of one context: its name ends with a 0, and its value is after it
abbrev pub context_bytes : (context : List ℕ × List ℕ) → List ℕ
context_bytes context =
    bytes_of secctx (record { size = length context.1; padding = 0 })
    ++ (context.0 ++ 0 ∷ context.1)

-- the block of contexts: of one, or of none
abbrev pub context_block : Option (List ℕ × List ℕ) → List ℕ
context_block None = block_bytes 0 []
context_block (Some context) = block_bytes 1 (context_bytes context)

-- the body of a block of one group
abbrev pub group_bytes : (group : ℕ) → List ℕ
group_bytes group =
    bytes_of supp_groups (record { nr_groups = 1 }) ++ bytes_of (lone_number 4) group

-- the block of groups, where there is a group
abbrev pub group_block : Option ℕ → List ℕ
group_block None = []
group_block (Some group) = block_bytes 32 (group_bytes group)

-- extensions as they are written where both are agreed on
abbrev pub blocks_of : ExtensionValues → List ℕ
blocks_of values = context_block values.context ++ group_block values.group

-- a context that can be written: no byte of its name is 0, its value has a byte, and its block is
-- no longer than a header can say
pub record FitsContext (context : List ℕ × List ℕ) : Type 0 where
  pub no_nul : (k : ℕ) → k < length context.0 → slice_index context.0 k ≢ 0
  pub has_value : 0 < length context.1
  pub in_size : length context.0 + length context.1 + 17 < 2 ^ 32

-- the same of a context that may be there
abbrev pub MayFitContext : Option (List ℕ × List ℕ) → Type 0
MayFitContext None = Unit {0}
MayFitContext (Some context) = FitsContext context

-- a group, where there is one, is a number of four bytes
abbrev pub MayFitGroup : Option ℕ → Type 0
MayFitGroup None = Unit {0}
MayFitGroup (Some group) = group < 2 ^ 32

-- extensions that can be written
pub record FitExtensions (values : ExtensionValues) : Type 0 where
  pub context : MayFitContext values.context
  pub group : MayFitGroup values.group

-- ---- cut in one way

-- bytes begin with this block: a header that says its type and how long it is, then its body, and
-- these bytes after it
pub record IsBlock (bytes : List ℕ) (block : Block) (following : List ℕ) : Type 0 where
  pub head : List ℕ
  pub whole_head : length head ≡ size_of ext_header
  pub says :
      value_of ext_header head
      ≡ record { size = size_of ext_header + length block.body; ext_type = block.ext_type }
  pub parts : bytes ≡ head ++ (block.body ++ following)

-- bytes are these blocks, one after the other, and a rest that begins with none
abbrev pub IsCut : (bytes : List ℕ) → (blocks : List Block) → (rest : List ℕ) → Type 0
IsCut bytes [] rest = (bytes ≡ rest) × ((b : Block) (following : List ℕ) → ¬ (IsBlock rest b following))
IsCut bytes (block ∷ blocks) rest =
    (following : List ℕ) × IsBlock bytes block following × IsCut following blocks rest

-- the error of what isn't there
abbrev pub error_of : {A : Type 0} → Result A Error → Option Error
error_of (Ok part) = None
error_of (Err error) = Some error

-- why a rest that begins with no block is refused, where it isn't empty
abbrev pub error_left : (rest : List ℕ) → Option Error
error_left [] = None
error_left (b ∷ rest) = error_of (block_in (b ∷ rest))
