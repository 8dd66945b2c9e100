-- A file system as a whole.
use Rattle.std.specs.Prelude.{ℕ, List}
use Rattle.vfs_wire.specs.Fields.{Table, table}
use Rattle.vfs_wire.specs.Decoders.{made_kstatfs}
use Rattle.vfs_wire.specs.Records.{kstatfs}
use Rattle.vfs_wire_more.specs.declared.listings.StatfsOut.{StatfsOut}

-- the StatfsOut of its fields
abbrev pub made_statfs_out : List ℕ → StatfsOut
made_statfs_out xs = record {
  st = made_kstatfs xs;
}

-- StatfsOut: 80 bytes
abbrev pub statfs_out : Table StatfsOut
statfs_out = table (kstatfs.widths) (λ r. kstatfs.fields r.st) made_statfs_out
