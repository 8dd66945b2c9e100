-- Mappings.
use Rattle.std.specs.Prelude.{ℕ, List, slice_index, [], ◌∷◌}
use Rattle.vfs_wire.specs.Fields.{Table, table}
use Rattle.vfs_wire_more.specs.declared.mappings.RemovemappingIn.{RemovemappingIn}
use Rattle.vfs_wire_more.specs.declared.mappings.RemovemappingOne.{RemovemappingOne}
use Rattle.vfs_wire_more.specs.declared.mappings.SetupmappingIn.{SetupmappingIn}

-- the SetupmappingIn of its fields
abbrev pub made_setupmapping_in : List ℕ → SetupmappingIn
made_setupmapping_in xs = record {
  fh = slice_index xs 0;
  foffset = slice_index xs 1;
  len = slice_index xs 2;
  flags = slice_index xs 3;
  moffset = slice_index xs 4;
}

-- SetupmappingIn: 40 bytes
abbrev pub setupmapping_in : Table SetupmappingIn
setupmapping_in = table (8 ∷ 8 ∷ 8 ∷ 8 ∷ 8 ∷ [])
    (λ r. r.fh ∷ r.foffset ∷ r.len ∷ r.flags ∷ r.moffset ∷ []) made_setupmapping_in

-- the RemovemappingIn of its fields
abbrev pub made_removemapping_in : List ℕ → RemovemappingIn
made_removemapping_in xs = record {
  count = slice_index xs 0;
}

-- RemovemappingIn: 4 bytes
abbrev pub removemapping_in : Table RemovemappingIn
removemapping_in = table (4 ∷ []) (λ r. r.count ∷ []) made_removemapping_in

-- the RemovemappingOne of its fields
abbrev pub made_removemapping_one : List ℕ → RemovemappingOne
made_removemapping_one xs = record {
  moffset = slice_index xs 0;
  len = slice_index xs 1;
}

-- RemovemappingOne: 16 bytes
abbrev pub removemapping_one : Table RemovemappingOne
removemapping_one = table (8 ∷ 8 ∷ []) (λ r. r.moffset ∷ r.len ∷ []) made_removemapping_one
