-- The words of the laws of directory records.
use Rattle.std.specs.Prelude.{◌<◌, ◌^◌, ℕ, List, length, Some, unwrap_or}
use Rattle.std.specs.List.{flat_map}
use Rattle.vfs_files.specs.Calls.{FitsEntry}
use Rattle.vfs_files.specs.Values.{Item}
use Rattle.vfs_files.specs.declared.entry.Entry.{Entry}
use Rattle.vfs_grammar.specs.Listing.{Line, node_got}
use Rattle.vfs_grammar.specs.Words.{record_bytes}

-- the node of the entry that a line got, or 0 where it got none
abbrev pub node_of_line : Line → ℕ
node_of_line l = unwrap_or (node_got l.got) 0

-- the bytes of records with entries, one after the other
abbrev pub rows_bytes : List (Entry × Item) → List ℕ
rows_bytes rows = flat_map (λ r. record_bytes (Some r.0) r.1) rows

-- each number of the entry is within its width, and the name has less than 2 ^ 32 bytes
abbrev pub IsRow : Entry × Item → Type 0
IsRow r = FitsEntry r.0 × (length r.1.name < 2 ^ 32)
