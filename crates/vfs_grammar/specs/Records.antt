-- Records at the beginning of bytes.
use Rattle.std.specs.Prelude.{ℕ, List, length, sum, nat_lt, if◌then◌else◌, Result, Ok, Err}
use Rattle.vfs_wire.specs.Fields.{Table, value_of}
use Rattle.vfs_grammar.specs.declared.error.Error.{Error}
use Rattle.vfs_grammar.specs.declared.error.Error.TheVariants.{DecodeMessage}

-- how many bytes a record has (sizes, lengths and places count bytes; a request, a room, a name and a text are lists of
-- bytes)
abbrev pub size_of : {R : Type 0} → Table R → ℕ
size_of t = sum t.widths

-- the record that the bytes begin with
abbrev pub record_of : {R : Type 0} → Table R → (bytes : List ℕ) → Result R Error
record_of t bytes =
    if nat_lt (length bytes) (size_of t) then Err DecodeMessage else Ok (value_of t bytes)
