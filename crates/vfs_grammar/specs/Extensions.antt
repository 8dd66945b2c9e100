-- The extensions of a SYMLINK, MKNOD, MKDIR or CREATE: blocks, one after the other, and what they say. It leads
-- to `extensions_in`.
use Rattle.std.specs.Prelude.{◌-◌, ◌==◌, ◌||◌, ◌&&◌, not, ℕ, zero, suc, Bool, true, false, List, [], ◌∷◌, length, take, drop, is_some, nat_lt, if◌then◌else◌, Option, Some, None, Result, Ok, Err, ok_or}
use Rattle.vfs_flags.specs.Numbers.{ext_type_of}
use Rattle.vfs_flags.specs.Flags.{security_ctx, create_supp_group, has_flag}
use Rattle.vfs_flags.specs.declared.ext_type.ExtType.{ExtType}
use Rattle.vfs_flags.specs.declared.ext_type.ExtType.TheVariants.{SecCtx, SupGroups}
use Rattle.vfs_wire.specs.Fields.{lone_number, value_of}
use Rattle.vfs_wire.specs.Records.{ext_header, secctx, supp_groups}
use Rattle.vfs_files.specs.Values.{ExtensionValues, first_name}
use Rattle.vfs_grammar.specs.Records.{size_of, record_of}
use Rattle.vfs_grammar.specs.declared.error.Error.{Error}
use Rattle.vfs_grammar.specs.declared.error.Error.TheVariants.{DecodeMessage, InvalidHeaderLength, MissingExtension, MissingParameter}

-- Rust's `and_then`: the error of a part that is at fault, and otherwise what is made of the part
abbrev pub error_or : {A B : Type 0} → Result A Error → (A → Result B Error) → Result B Error
error_or (Err error) next = Err error
error_or (Ok part) next = next part

-- ---- one body

-- a name, which runs through the first 0, and the `size` bytes after it; more is ignored. No byte at all is
-- another error than a part of this
abbrev pub name_and_value : (size : ℕ) → (bytes : List ℕ) → Result (List ℕ × List ℕ) Error
name_and_value size [] = Err MissingParameter
name_and_value size (b ∷ bytes) = error_or (ok_or (first_name (b ∷ bytes)) DecodeMessage) (λ cut.
    if nat_lt (length cut.1) size then Err DecodeMessage else Ok (cut.0, take size cut.1))

-- the name and the value of the context that bytes begin with: after a record with the size of the
-- value, which isn't 0
abbrev pub context_in : (bytes : List ℕ) → Result (List ℕ × List ℕ) Error
context_in bytes = error_or (record_of secctx bytes) (λ r.
    if r.size == 0 then Err DecodeMessage
    else name_and_value r.size (drop (size_of secctx) bytes))

-- the context in the body of a block of `nr` contexts: none where there are none, whatever the
-- body; more than one are refused
abbrev pub security_context_in : ℕ → (body : List ℕ) → Result (Option (List ℕ × List ℕ)) Error
security_context_in nr body =
    if nat_lt 1 nr then Err DecodeMessage
    else if nr == 0 then Ok None
    else error_or (context_in body) (λ context. Ok (Some context))

-- the group in the body of a block of groups, of which there is exactly one; more is ignored
abbrev pub group_in : (body : List ℕ) → Result ℕ Error
group_in body = error_or (record_of supp_groups body) (λ r.
    if r.nr_groups == 1 then record_of (lone_number 4) (drop (size_of supp_groups) body)
    else Err DecodeMessage)

-- ---- blocks

-- a block: its type, and the body after its header
pub record Block : Type 0 where
  pub ext_type : ℕ
  pub body : List ℕ

-- the block that bytes begin with: a header and a body, as long together as the header says
abbrev pub block_in : (bytes : List ℕ) → Result Block Error
block_in bytes = error_or (record_of ext_header bytes) (λ r.
    if nat_lt r.size (size_of ext_header) then Err InvalidHeaderLength
    else if nat_lt (length bytes) r.size then Err DecodeMessage
    else Ok (record {
      ext_type = r.ext_type;
      body = take (r.size - size_of ext_header) (drop (size_of ext_header) bytes);
    }))

-- ---- what blocks say

-- no extension
abbrev pub no_extensions : ExtensionValues
no_extensions = record { context = None; group = None }

-- what was received: whether there was a block of contexts, and the values
pub record Received : Type 0 where
  pub has_contexts : Bool
  pub values : ExtensionValues

-- What is received with a block of this kind. One that wasn't agreed on, or a second of a kind,
-- is refused, and so is an unknown kind.
abbrev pub receive_kind :
    (options : ℕ) → Received → Option ExtType → (body : List ℕ) → Result Received Error
receive_kind options received None body = Err DecodeMessage
receive_kind options received (Some (SecCtx nr)) body =
    if not (has_flag options security_ctx) || received.has_contexts then Err DecodeMessage
    else error_or (security_context_in nr body) (λ context.
    Ok (record { has_contexts = true; values = record received.values { context = context } }))
receive_kind options received (Some SupGroups) body =
    if not (has_flag options create_supp_group) || is_some received.values.group
    then Err DecodeMessage
    else error_or (group_in body) (λ group.
    Ok (record received { values = record received.values { group = Some group } }))

-- What bytes say after what was received before, block by block, at most that many: the error of the first
-- that is bad, or of what begins with none. At the end the values, if a block of contexts came, of none
-- too, where contexts were agreed on. More blocks than bytes there are not.
abbrev pub values_in : (options most : ℕ) → Received → (bytes : List ℕ) → Result ExtensionValues Error
values_in options most received [] =
    if has_flag options security_ctx && not received.has_contexts then Err MissingExtension
    else Ok received.values
values_in options zero received (b ∷ bytes) = Err DecodeMessage
values_in options (suc most) received (b ∷ bytes) =
    error_or (block_in (b ∷ bytes)) (λ block.
    error_or (receive_kind options received (ext_type_of block.ext_type) block.body) (λ more.
    values_in options most more (drop (value_of ext_header (b ∷ bytes)).size (b ∷ bytes))))

-- The extensions that bytes are. Where neither kind is agreed on nothing is read.
unfoldable pub extensions_in : (options : ℕ) → (bytes : List ℕ) → Result ExtensionValues Error
extensions_in options bytes =
    if has_flag options security_ctx || has_flag options create_supp_group
    then values_in options (length bytes) (record { has_contexts = false; values = no_extensions }) bytes
    else Ok no_extensions

-- ---- no more is of the promise: the rest is for proofs, and for contracts of parts

-- what bytes are: blocks, one after the other, and the error of what is left then, which begins
-- with no block, if something is left
pub record Cut : Type 0 where
  pub blocks : List Block
  pub error : Option Error

-- a block in front of the others, or none
abbrev pub cut_on : Result Block Error → (others : Cut) → Cut
cut_on (Err error) others = record { blocks = []; error = Some error }
cut_on (Ok block) others = record { blocks = block ∷ others.blocks; error = others.error }

-- what bytes are, cut into at most that many blocks: the number of bytes is always enough. A
-- header's size counts the header too.
abbrev pub cut_of_most : (most : ℕ) → (bytes : List ℕ) → Cut
cut_of_most zero bytes = record { blocks = []; error = None }
cut_of_most (suc most) [] = record { blocks = []; error = None }
cut_of_most (suc most) (b ∷ bytes) =
    cut_on (block_in (b ∷ bytes))
    (cut_of_most most (drop (value_of ext_header (b ∷ bytes)).size (b ∷ bytes)))

-- what bytes are
unfoldable pub cut_of : (bytes : List ℕ) → Cut
cut_of bytes = cut_of_most (length bytes) bytes

-- what is received with these blocks, or the error of the first bad one
abbrev pub receive_all : (options : ℕ) → Received → List Block → Result Received Error
receive_all options received [] = Ok received
receive_all options received (block ∷ blocks) =
    error_or (receive_kind options received (ext_type_of block.ext_type) block.body) (λ more.
    receive_all options more blocks)

-- the values, if nothing is left after the blocks and, where contexts were agreed on, a block of
-- contexts came, of none too
abbrev pub received_at_end : (options : ℕ) → Option Error → Received → Result ExtensionValues Error
received_at_end options (Some error) received = Err error
received_at_end options None received =
    if has_flag options security_ctx && not received.has_contexts then Err MissingExtension
    else Ok received.values
