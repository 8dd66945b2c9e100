-- Extensions held against examples: what these bytes are, computed.
use Rattle.std.proofs.Common.{◌≡◌, ◌+◌, ℕ, List, [], ◌∷◌, ◌++◌, Some, None, Ok, Err, refl}
use Rattle.vfs_flags.specs.Flags.{security_ctx, create_supp_group}
use Rattle.vfs_wire.specs.Fields.{number}
use Rattle.vfs_grammar.specs.Extensions.{cut_of, extensions_in, no_extensions, security_context_in, group_in}
use Rattle.vfs_grammar.specs.Words.{extensions_after}
use Rattle.vfs_grammar.specs.declared.error.Error.TheVariants.{DecodeMessage, InvalidHeaderLength, MissingExtension, MissingParameter}

-- four bytes of a number below 256
abbrev four : ℕ → List ℕ
four n = n ∷ 0 ∷ 0 ∷ 0 ∷ []

-- a block's header
abbrev head : (size ext_type : ℕ) → List ℕ
head size ext_type = four size ++ four ext_type

-- a block of one context, named `s`, of the value `v`, whose size is said to be this
abbrev context_s : (size : ℕ) → List ℕ
context_s size = (head size 1 ++ head 1 0) ++ (0x73 ∷ 0 ∷ 0x76 ∷ [])

-- the group 1000 after a header and a count
abbrev groups : (size ext_type count : ℕ) → List ℕ
groups size ext_type count = (head size ext_type ++ four count) ++ (0xe8 ∷ 3 ∷ 0 ∷ 0 ∷ [])

context_is_read : extensions_in security_ctx (context_s 19)
    ≡ Ok (record { context = Some (0x73 ∷ [], 0x76 ∷ []); group = None })
unfolding extensions_in cut_of number
context_is_read = refl

size_past_the_rest : extensions_in security_ctx (context_s 20) ≡ Err DecodeMessage
unfolding extensions_in cut_of number
size_past_the_rest = refl

size_below_the_header : extensions_in security_ctx (head 7 0) ≡ Err InvalidHeaderLength
unfolding extensions_in cut_of number
size_below_the_header = refl

no_block : extensions_in security_ctx [] ≡ Err MissingExtension
unfolding extensions_in cut_of number
no_block = refl

no_context_is_received : extensions_in security_ctx (head 8 0) ≡ Ok no_extensions
unfolding extensions_in cut_of number
no_context_is_received = refl

second_context : extensions_in security_ctx (head 8 0 ++ head 8 0) ≡ Err DecodeMessage
unfolding extensions_in cut_of number
second_context = refl

name_is_missing : extensions_in security_ctx (head 16 1 ++ head 1 0) ≡ Err MissingParameter
unfolding extensions_in cut_of number
name_is_missing = refl

value_of_size_0 : extensions_in security_ctx (head 16 1 ++ head 0 0) ≡ Err DecodeMessage
unfolding extensions_in cut_of number
value_of_size_0 = refl

largest_size : extensions_in security_ctx ((0xff ∷ 0xff ∷ 0xff ∷ 0xff ∷ []) ++ four 0) ≡ Err DecodeMessage
unfolding extensions_in cut_of number
largest_size = refl

one_context_of_no_byte : extensions_in security_ctx (head 8 1) ≡ Err DecodeMessage
unfolding extensions_in cut_of number
one_context_of_no_byte = refl

too_many_contexts : extensions_in security_ctx (head 8 31) ≡ Err DecodeMessage
unfolding extensions_in cut_of number
too_many_contexts = refl

name_without_0 : extensions_in security_ctx ((head 17 1 ++ head 1 0) ++ (0x73 ∷ [])) ≡ Err DecodeMessage
unfolding extensions_in cut_of number
name_without_0 = refl

-- after a block of contexts that is well, seven bytes are no block
cut_short_after_a_block : extensions_in security_ctx (head 8 0 ++ (0 ∷ 0 ∷ 0 ∷ 0 ∷ 0 ∷ 0 ∷ 0 ∷ [])) ≡ Err DecodeMessage
unfolding extensions_in cut_of number
cut_short_after_a_block = refl

-- the fault of a block comes before that of what comes after it
first_fault_first : extensions_in security_ctx ((head 16 1 ++ head 1 0) ++ head 7 0) ≡ Err MissingParameter
unfolding extensions_in cut_of number
first_fault_first = refl

group_is_read : extensions_in create_supp_group (groups 16 32 1) ≡ Ok (record { context = None; group = Some 1000 })
unfolding extensions_in cut_of number
group_is_read = refl

two_groups : extensions_in create_supp_group (groups 16 32 2) ≡ Err DecodeMessage
unfolding extensions_in cut_of number
two_groups = refl

unknown_type : extensions_in create_supp_group (groups 16 33 1) ≡ Err DecodeMessage
unfolding extensions_in cut_of number
unknown_type = refl

context_was_not_agreed_on : extensions_in create_supp_group (groups 16 1 1) ≡ Err DecodeMessage
unfolding extensions_in cut_of number
context_was_not_agreed_on = refl

group_was_not_agreed_on : extensions_in security_ctx (groups 16 32 1) ≡ Err DecodeMessage
unfolding extensions_in cut_of number
group_was_not_agreed_on = refl

no_group_may_come : extensions_in create_supp_group [] ≡ Ok no_extensions
unfolding extensions_in cut_of number
no_group_may_come = refl

both_are_read : extensions_in (security_ctx + create_supp_group) (groups 16 32 1 ++ context_s 19)
    ≡ Ok (record { context = Some (0x73 ∷ [], 0x76 ∷ []); group = Some 1000 })
unfolding extensions_in cut_of number
both_are_read = refl

nothing_agreed_on : extensions_after 0 100 (head 7 0) ≡ Ok no_extensions
unfolding extensions_in cut_of number
nothing_agreed_on = refl

skip_past_the_bytes : extensions_after security_ctx 9 (head 8 0) ≡ Err DecodeMessage
unfolding extensions_in cut_of number
skip_past_the_bytes = refl

-- bytes after a value are ignored
bytes_after_a_value : security_context_in 1 (head 1 0 ++ (0x73 ∷ 0 ∷ 0x76 ∷ 0 ∷ 0 ∷ []))
    ≡ Ok (Some (0x73 ∷ [], 0x76 ∷ []))
unfolding number
bytes_after_a_value = refl

-- and after a group
bytes_after_a_group : group_in (four 1 ++ head 9 8) ≡ Ok 9
unfolding number
bytes_after_a_group = refl
