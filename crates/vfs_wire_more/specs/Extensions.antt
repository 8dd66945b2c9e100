-- The header of all security contexts.
use Rattle.std.specs.Prelude.{ℕ, List, slice_index, [], ◌∷◌}
use Rattle.vfs_wire.specs.Fields.{Table, table}
use Rattle.vfs_wire_more.specs.declared.extensions.SecctxHeader.{SecctxHeader}

-- the SecctxHeader of its fields
abbrev pub made_secctx_header : List ℕ → SecctxHeader
made_secctx_header xs = record {
  size = slice_index xs 0;
  nr_secctx = slice_index xs 1;
}

-- SecctxHeader: 8 bytes
abbrev pub secctx_header : Table SecctxHeader
secctx_header = table (4 ∷ 4 ∷ []) (λ r. r.size ∷ r.nr_secctx ∷ []) made_secctx_header
