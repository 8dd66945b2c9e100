-- The requests BMAP, IOCTL, POLL and STATX.
use Rattle.std.specs.Int.{w32, cast_unsigned, cast_signed}
use Rattle.std.specs.Prelude.{ℕ, List, slice_index, [], ◌∷◌}
use Rattle.vfs_wire.specs.Fields.{Table, table}
use Rattle.vfs_wire_more.specs.declared.devices.BmapIn.{BmapIn}
use Rattle.vfs_wire_more.specs.declared.devices.BmapOut.{BmapOut}
use Rattle.vfs_wire_more.specs.declared.devices.IoctlIn.{IoctlIn}
use Rattle.vfs_wire_more.specs.declared.devices.IoctlIovec.{IoctlIovec}
use Rattle.vfs_wire_more.specs.declared.devices.IoctlOut.{IoctlOut}
use Rattle.vfs_wire_more.specs.declared.devices.PollIn.{PollIn}
use Rattle.vfs_wire_more.specs.declared.devices.PollOut.{PollOut}
use Rattle.vfs_wire_more.specs.declared.SyncfsIn.{SyncfsIn}
use Rattle.vfs_wire_more.specs.declared.devices.StatxIn.{StatxIn}

-- the BmapIn of its fields
abbrev pub made_bmap_in : List ℕ → BmapIn
made_bmap_in xs = record {
  block = slice_index xs 0;
  blocksize = slice_index xs 1;
  padding = slice_index xs 2;
}

-- BmapIn: 16 bytes
abbrev pub bmap_in : Table BmapIn
bmap_in = table (8 ∷ 4 ∷ 4 ∷ []) (λ r. r.block ∷ r.blocksize ∷ r.padding ∷ []) made_bmap_in

-- the BmapOut of its fields
abbrev pub made_bmap_out : List ℕ → BmapOut
made_bmap_out xs = record {
  block = slice_index xs 0;
}

-- BmapOut: 8 bytes
abbrev pub bmap_out : Table BmapOut
bmap_out = table (8 ∷ []) (λ r. r.block ∷ []) made_bmap_out

-- the IoctlIn of its fields
abbrev pub made_ioctl_in : List ℕ → IoctlIn
made_ioctl_in xs = record {
  fh = slice_index xs 0;
  flags = slice_index xs 1;
  cmd = slice_index xs 2;
  arg = slice_index xs 3;
  in_size = slice_index xs 4;
  out_size = slice_index xs 5;
}

-- IoctlIn: 32 bytes
abbrev pub ioctl_in : Table IoctlIn
ioctl_in = table (8 ∷ 4 ∷ 4 ∷ 8 ∷ 4 ∷ 4 ∷ [])
    (λ r. r.fh ∷ r.flags ∷ r.cmd ∷ r.arg ∷ r.in_size ∷ r.out_size ∷ []) made_ioctl_in

-- the IoctlIovec of its fields
abbrev pub made_ioctl_iovec : List ℕ → IoctlIovec
made_ioctl_iovec xs = record {
  base = slice_index xs 0;
  len = slice_index xs 1;
}

-- IoctlIovec: 16 bytes
abbrev pub ioctl_iovec : Table IoctlIovec
ioctl_iovec = table (8 ∷ 8 ∷ []) (λ r. r.base ∷ r.len ∷ []) made_ioctl_iovec

-- the IoctlOut of its fields
abbrev pub made_ioctl_out : List ℕ → IoctlOut
made_ioctl_out xs = record {
  result = cast_signed w32 (slice_index xs 0);
  flags = slice_index xs 1;
  in_iovs = slice_index xs 2;
  out_iovs = slice_index xs 3;
}

-- IoctlOut: 16 bytes
abbrev pub ioctl_out : Table IoctlOut
ioctl_out = table (4 ∷ 4 ∷ 4 ∷ 4 ∷ [])
    (λ r. cast_unsigned w32 r.result ∷ r.flags ∷ r.in_iovs ∷ r.out_iovs ∷ []) made_ioctl_out

-- the PollIn of its fields
abbrev pub made_poll_in : List ℕ → PollIn
made_poll_in xs = record {
  fh = slice_index xs 0;
  kh = slice_index xs 1;
  flags = slice_index xs 2;
  events = slice_index xs 3;
}

-- PollIn: 24 bytes
abbrev pub poll_in : Table PollIn
poll_in = table (8 ∷ 8 ∷ 4 ∷ 4 ∷ []) (λ r. r.fh ∷ r.kh ∷ r.flags ∷ r.events ∷ []) made_poll_in

-- the PollOut of its fields
abbrev pub made_poll_out : List ℕ → PollOut
made_poll_out xs = record {
  revents = slice_index xs 0;
  padding = slice_index xs 1;
}

-- PollOut: 8 bytes
abbrev pub poll_out : Table PollOut
poll_out = table (4 ∷ 4 ∷ []) (λ r. r.revents ∷ r.padding ∷ []) made_poll_out

-- the SyncfsIn of its fields
abbrev pub made_syncfs_in : List ℕ → SyncfsIn
made_syncfs_in xs = record {
  padding = slice_index xs 0;
}

-- SyncfsIn: 8 bytes
abbrev pub syncfs_in : Table SyncfsIn
syncfs_in = table (8 ∷ []) (λ r. r.padding ∷ []) made_syncfs_in

-- the StatxIn of its fields
abbrev pub made_statx_in : List ℕ → StatxIn
made_statx_in xs = record {
  getattr_flags = slice_index xs 0;
  reserved = slice_index xs 1;
  fh = slice_index xs 2;
  sx_flags = slice_index xs 3;
  sx_mask = slice_index xs 4;
}

-- StatxIn: 24 bytes
abbrev pub statx_in : Table StatxIn
statx_in = table (4 ∷ 4 ∷ 8 ∷ 4 ∷ 4 ∷ [])
    (λ r. r.getattr_flags ∷ r.reserved ∷ r.fh ∷ r.sx_flags ∷ r.sx_mask ∷ []) made_statx_in
