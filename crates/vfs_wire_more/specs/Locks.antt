-- The requests on locks.
use Rattle.std.specs.Prelude.{ℕ, List, drop, slice_index, [], ◌∷◌, ◌++◌}
use Rattle.vfs_wire.specs.Fields.{Table, table}
use Rattle.vfs_wire_more.specs.declared.locks.FileLock.{FileLock}
use Rattle.vfs_wire_more.specs.declared.locks.InterruptIn.{InterruptIn}
use Rattle.vfs_wire_more.specs.declared.locks.LkIn.{LkIn}
use Rattle.vfs_wire_more.specs.declared.locks.LkOut.{LkOut}

-- the FileLock of its fields
abbrev pub made_file_lock : List ℕ → FileLock
made_file_lock xs = record {
  start = slice_index xs 0;
  end = slice_index xs 1;
  type_ = slice_index xs 2;
  pid = slice_index xs 3;
}

-- FileLock: 24 bytes
abbrev pub file_lock : Table FileLock
file_lock = table (8 ∷ 8 ∷ 4 ∷ 4 ∷ []) (λ r. r.start ∷ r.end ∷ r.type_ ∷ r.pid ∷ []) made_file_lock

-- the LkIn of its fields
abbrev pub made_lk_in : List ℕ → LkIn
made_lk_in xs = record {
  fh = slice_index xs 0;
  owner = slice_index xs 1;
  lk = made_file_lock (drop 2 xs);
  lk_flags = slice_index xs 6;
  padding = slice_index xs 7;
}

-- LkIn: 48 bytes
abbrev pub lk_in : Table LkIn
lk_in = table (8 ∷ 8 ∷ (file_lock.widths ++ 4 ∷ 4 ∷ []))
    (λ r. r.fh ∷ r.owner ∷ (file_lock.fields r.lk ++ r.lk_flags ∷ r.padding ∷ [])) made_lk_in

-- the LkOut of its fields
abbrev pub made_lk_out : List ℕ → LkOut
made_lk_out xs = record {
  lk = made_file_lock xs;
}

-- LkOut: 24 bytes
abbrev pub lk_out : Table LkOut
lk_out = table (file_lock.widths) (λ r. file_lock.fields r.lk) made_lk_out

-- the InterruptIn of its fields
abbrev pub made_interrupt_in : List ℕ → InterruptIn
made_interrupt_in xs = record {
  unique = slice_index xs 0;
}

-- InterruptIn: 8 bytes
abbrev pub interrupt_in : Table InterruptIn
interrupt_in = table (8 ∷ []) (λ r. r.unique ∷ []) made_interrupt_in
