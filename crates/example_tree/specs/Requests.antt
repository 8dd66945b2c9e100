-- The bytes of two requests, by the field tables of their records.
use Rattle.std.specs.Prelude.{ℕ, ◌+◌, List, [], ◌∷◌, ◌++◌, length}
use Rattle.vfs_flags.specs.declared.opcode.Opcode.TheVariants.{Lookup, Read}
use Rattle.vfs_wire.specs.Fields.{bytes_of}
use Rattle.vfs_wire.specs.Records.{in_header, request_header}
use Rattle.vfs_wire_more.specs.Records.{read_in}
use Rattle.vfs_wire_more.specs.declared.files.ReadIn.{ReadIn}

-- a LOOKUP of this name: its header, the name, and a nul
abbrev pub lookup_request : (unique parent : ℕ) → (name : List ℕ) → List ℕ
lookup_request unique parent name =
    bytes_of in_header (request_header (41 + length name) Lookup unique parent) ++ (name ++ 0 ∷ [])

-- the record of a READ, all of whose numbers are 0
abbrev pub nothing_read : ReadIn
nothing_read = read_in.made []

-- a READ of at most this many bytes of a file, from this place on: its header and its record
abbrev pub read_request : (unique node offset size : ℕ) → List ℕ
read_request unique node offset size =
    bytes_of in_header (request_header 80 Read unique node)
    ++ bytes_of read_in (record nothing_read { offset = offset; size = size })
