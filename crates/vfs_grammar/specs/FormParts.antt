-- The words of the forms for a part that is known: what it gives, or the refusal of what is none.
use Rattle.std.specs.Prelude.{ℕ, ◌==◌, [], List, length, take, nat_lt, if◌then◌else◌, Option, Result, Ok, Err, ok_or, option_map, unwrap_or}
use Rattle.vfs_wire.specs.declared.init.InitInExt.{InitInExt}
use Rattle.vfs_files.specs.Values.{ExtensionValues, name_of}
use Rattle.vfs_grammar.specs.Extensions.{error_or}
use Rattle.vfs_grammar.specs.Forms.{extended_in}
use Rattle.vfs_grammar.specs.declared.error.Error.{Error}
use Rattle.vfs_grammar.specs.declared.error.Error.TheVariants.{DecodeMessage, MissingParameter, InvalidCString, InvalidXattrSize}

-- a name, or the refusal of what is none
abbrev pub name_or_refusal : Option (List ℕ) → Result (List ℕ) Error
name_or_refusal name = ok_or name InvalidCString

-- a name before another, or the refusal of what is none
abbrev pub second_or_refusal : (first : List ℕ) → Option (List ℕ)
    → Result (List ℕ × List ℕ) Error
second_or_refusal first second = error_or (ok_or second InvalidCString) (λ name. Ok (first, name))

-- a name and the name that follows it, or the refusal of what has none
abbrev pub both_or_refusal : Option (List ℕ × List ℕ) → Result (List ℕ × List ℕ) Error
both_or_refusal parts =
    error_or (ok_or parts MissingParameter) (λ part. second_or_refusal part.0 (name_of part.1))

-- a name and what follows it, or the refusal of what has none, and of what isn't as long as a record
-- says
abbrev pub sized_or_refusal : (size : ℕ) → Option (List ℕ × List ℕ)
    → Result (List ℕ × List ℕ) Error
sized_or_refusal size parts =
    error_or (ok_or parts MissingParameter) (λ part.
    if length part.1 == size then Ok part else Err (InvalidXattrSize (size, length part.1)))

-- what follows the first name, where a 0 ends it, and else nothing
abbrev pub after_name : Option (List ℕ × List ℕ) → List ℕ
after_name parts = unwrap_or (option_map (λ part. part.1) parts) []

-- the first name with these extensions, or the refusal of one that no 0 ends
abbrev pub extended_or_refusal : Option (List ℕ × List ℕ) → ExtensionValues
    → Result (List ℕ × ExtensionValues) Error
extended_or_refusal parts extensions =
    error_or (ok_or parts InvalidCString) (λ part. Ok (part.0, extensions))

-- a name, and the text with extensions after it, or the refusal of what has none
abbrev pub link_or_refusal : (options : ℕ) → Option (List ℕ × List ℕ)
    → Result (List ℕ × List ℕ × ExtensionValues) Error
link_or_refusal options parts =
    error_or (ok_or parts MissingParameter) (λ part.
    error_or (extended_in options part.1) (λ text. Ok (part.0, text.0, text.1)))

-- the word of flags in INIT's second record
abbrev pub flags2_in : Result InitInExt Error → Result ℕ Error
flags2_in second = error_or second (λ r. Ok r.flags2)

-- the name and the value of a context, where the name is found and `size` bytes are after it
abbrev pub value_after : (size : ℕ) → Option (List ℕ × List ℕ) → Result (List ℕ × List ℕ) Error
value_after size name =
    error_or (ok_or name DecodeMessage) (λ cut.
    if nat_lt (length cut.1) size then Err DecodeMessage else Ok (cut.0, take size cut.1))
