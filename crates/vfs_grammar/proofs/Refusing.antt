-- The errors by which the table refuses a request; the extensions of a request are refused by no
-- other.
use Rattle.std.proofs.Common.{◌==◌, ◌||◌, ◌&&◌, ℕ, zero, suc, Bool, true, false, not, List, [], ◌∷◌, length, take, drop, is_some, nat_lt, if◌then◌else◌, Option, Some, None, Result, Ok, Err}
use Rattle.vfs_flags.specs.Numbers.{ext_type_of}
use Rattle.vfs_flags.specs.Flags.{security_ctx, create_supp_group, has_flag}
use Rattle.vfs_flags.specs.declared.ext_type.ExtType.{ExtType}
use Rattle.vfs_flags.specs.declared.ext_type.ExtType.TheVariants.{SecCtx, SupGroups}
use Rattle.vfs_wire.specs.Fields.{Table, lone_number, value_of}
use Rattle.vfs_wire.specs.Records.{ext_header, secctx, supp_groups}
use Rattle.vfs_files.specs.Values.{ExtensionValues, first_name}
use Rattle.vfs_grammar.specs.Extensions.{error_or, name_and_value, context_in, security_context_in, group_in, Block, block_in, Cut, cut_on, cut_of_most, cut_of, Received, receive_kind, receive_all, received_at_end, extensions_in}
use Rattle.vfs_grammar.specs.Words.{block_size, reads_extensions, nothing_received, with_context, with_group, receive}
use Rattle.vfs_grammar.proofs.Blocks.{extensions_in-cut}
use Rattle.vfs_grammar.specs.FormParts.{value_after, after_name, extended_or_refusal, link_or_refusal}
use Rattle.vfs_grammar.specs.Forms.{extended_in, link_in_tail}
use Rattle.vfs_grammar.specs.Records.{size_of, record_of}
use Rattle.vfs_grammar.specs.declared.error.Error.{Error}
use Rattle.vfs_grammar.specs.declared.error.Error.TheVariants.{DecodeMessage, EncodeMessage, FlushMessage, InvalidCString2, OutOfMemory}

-- the errors by which a request is refused, whatever the room
abbrev pub MayRefuse : Error → Type 0
MayRefuse EncodeMessage = ⊥
MayRefuse FlushMessage = ⊥
MayRefuse InvalidCString2 = ⊥
MayRefuse OutOfMemory = ⊥
MayRefuse _ = Unit {0}

-- what holds on both sides of a test holds of the choice
pub either : {A : Type 0} (P : A → Type 0) (b : Bool) (x y : A) → P x → P y → P (if b then x else y)
either P true x y p q = p
either P false x y p q = q

-- a part that is refused by no other error
abbrev pub IsRefused : {A : Type 0} → Result A Error → Type 0
IsRefused (Ok x) = Unit {0}
IsRefused (Err e) = MayRefuse e

-- what is made of such a part
onward : {A B : Type 0} (r : Result A Error) (next : A → Result B Error) → IsRefused r → ((x : A) → IsRefused (next x))
    → IsRefused (error_or r next)
onward (Ok x) next f p = p x
onward (Err e) next f p = f

-- a test between two of them
pub tested : {A : Type 0} (b : Bool) (x y : Result A Error) → IsRefused x → IsRefused y → IsRefused (if b then x else y)
tested b x y p q = either IsRefused b x y p q

of_record : {R : Type 0} (t : Table R) (bytes : List ℕ) → IsRefused (record_of t bytes)
of_record t bytes = tested (nat_lt (length bytes) (size_of t)) (Err DecodeMessage) (Ok (value_of t bytes)) tt tt

-- ---- one body

of_value : (size : ℕ) (name : Option (List ℕ × List ℕ)) → IsRefused (value_after size name)
of_value size None = tt
of_value size (Some cut) = tested (nat_lt (length cut.1) size) (Err DecodeMessage) (Ok (cut.0, take size cut.1)) tt tt

of_name_and_value : (size : ℕ) (bytes : List ℕ) → IsRefused (name_and_value size bytes)
of_name_and_value size [] = tt
of_name_and_value size (b ∷ bytes) = of_value size (first_name (b ∷ bytes))

of_context : (bytes : List ℕ) → IsRefused (context_in bytes)
of_context bytes =
    onward (record_of secctx bytes) _ (of_record secctx bytes) (λ r.
    tested (r.size == 0) (Err DecodeMessage) (name_and_value r.size (drop (size_of secctx) bytes)) tt
    (of_name_and_value r.size (drop (size_of secctx) bytes)))

of_security_context : (nr : ℕ) (body : List ℕ) → IsRefused (security_context_in nr body)
of_security_context nr body =
    tested (nat_lt 1 nr) _ _ tt
    (tested (nr == 0) _ _ tt (onward (context_in body) (λ context. Ok (Some context)) (of_context body) (λ c. tt)))

of_group : (body : List ℕ) → IsRefused (group_in body)
of_group body =
    onward (record_of supp_groups body) _ (of_record supp_groups body) (λ r.
    tested (r.nr_groups == 1) _ _ (of_record (lone_number 4) (drop (size_of supp_groups) body)) tt)

-- ---- blocks

of_block : (bytes : List ℕ) → IsRefused (block_in bytes)
of_block bytes =
    onward (record_of ext_header bytes) _ (of_record ext_header bytes) (λ r.
    tested (nat_lt r.size (size_of ext_header)) _ _ tt (tested (nat_lt (length bytes) r.size) _ _ tt tt))

-- why what is left begins with no block
IsLeft : Option Error → Type 0
IsLeft None = Unit {0}
IsLeft (Some e) = MayRefuse e

of_cut_on : (block : Result Block Error) (others : Cut) → IsRefused block → IsLeft others.error → IsLeft (cut_on block others).error
unfolding IsLeft
of_cut_on (Err e) others f g = f
of_cut_on (Ok block) others f g = g

of_cut : (most : ℕ) (bytes : List ℕ) → IsLeft (cut_of_most most bytes).error
unfolding IsLeft
of_cut zero bytes = tt
of_cut (suc most) [] = tt
of_cut (suc most) (b ∷ bytes) =
    of_cut_on (block_in (b ∷ bytes)) (cut_of_most most (drop (block_size (b ∷ bytes)) (b ∷ bytes))) (of_block (b ∷ bytes))
    (of_cut most (drop (block_size (b ∷ bytes)) (b ∷ bytes)))

-- ---- what blocks say

of_kind : (options : ℕ) (received : Received) (kind : Option ExtType) (body : List ℕ) → IsRefused (receive_kind options received kind body)
of_kind options received None body = tt
of_kind options received (Some (SecCtx nr)) body =
    tested (not (has_flag options security_ctx) || received.has_contexts) _ _ tt
    (onward (security_context_in nr body) (λ context. Ok (with_context received context)) (of_security_context nr body) (λ c. tt))
of_kind options received (Some SupGroups) body =
    tested (not (has_flag options create_supp_group) || is_some received.values.group) _ _ tt
    (onward (group_in body) (λ group. Ok (with_group received group)) (of_group body) (λ g. tt))

of_all : (options : ℕ) (received : Received) (blocks : List Block) → IsRefused (receive_all options received blocks)
of_all options received [] = tt
of_all options received (block ∷ blocks) =
    onward (receive options received block) _ (of_kind options received (ext_type_of block.ext_type) block.body) (λ more. of_all options more blocks)

of_end : (options : ℕ) (fault : Option Error) (received : Received) → IsLeft fault → IsRefused (received_at_end options fault received)
unfolding IsLeft
of_end options (Some e) received f = f
of_end options None received f = tested (has_flag options security_ctx && not received.has_contexts) _ _ tt tt

pub of_extensions : (options : ℕ) (bytes : List ℕ) → IsRefused (extensions_in options bytes)
unfolding cut_of
of_extensions options bytes =
    let cut = cut_of_most (length bytes) bytes in
    rw (extensions_in-cut options bytes) (tested (reads_extensions options) _ _
    (onward (receive_all options nothing_received cut.blocks) _ (of_all options nothing_received cut.blocks)
    (λ received. of_end options cut.error received (of_cut (length bytes) bytes)))
    tt)

-- ---- names and extensions

of_extended_name : (part : Option (List ℕ × List ℕ)) (ext : ExtensionValues) → IsRefused (extended_or_refusal part ext)
of_extended_name None ext = tt
of_extended_name (Some part) ext = tt

pub of_extended : (options : ℕ) (bytes : List ℕ) → IsRefused (extended_in options bytes)
of_extended options [] = tt
of_extended options (b ∷ bytes) =
    let part = first_name (b ∷ bytes) in
    onward (extensions_in options (after_name part)) _ (of_extensions options (after_name part)) (of_extended_name part)

of_link_or_refusal : (options : ℕ) (part : Option (List ℕ × List ℕ)) → IsRefused (link_or_refusal options part)
of_link_or_refusal options None = tt
of_link_or_refusal options (Some part) =
    onward (extended_in options part.1) (λ text. Ok (part.0, text.0, text.1)) (of_extended options part.1) (λ t. tt)

pub of_link : (options : ℕ) (tail : List ℕ) → IsRefused (link_in_tail options tail)
of_link options tail = of_link_or_refusal options (first_name tail)
