-- The records of the requests on files, names, ranges and extended attributes: what bytes become (the one
-- inverse of its fields), the width of each field in bytes, in order, and how a compiler lays it out: what the
-- bytes 1, 2, 3, .. of it say, field by field. Of the promise nothing here is to be read: `tests/c/kernel.py`
-- compiles the tables against the kernel's header.
use Rattle.std.specs.Prelude.{ℕ, List, slice_index, [], ◌∷◌}
use Rattle.vfs_wire.specs.Fields.{Table, table}
use Rattle.vfs_wire_more.specs.declared.files.FlushIn.{FlushIn}
use Rattle.vfs_wire_more.specs.declared.files.FsyncIn.{FsyncIn}
use Rattle.vfs_wire_more.specs.declared.files.OpenIn.{OpenIn}
use Rattle.vfs_wire_more.specs.declared.files.OpenOut.{OpenOut}
use Rattle.vfs_wire_more.specs.declared.files.ReadIn.{ReadIn}
use Rattle.vfs_wire_more.specs.declared.files.ReleaseIn.{ReleaseIn}
use Rattle.vfs_wire_more.specs.declared.files.WriteIn.{WriteIn}
use Rattle.vfs_wire_more.specs.declared.files.WriteOut.{WriteOut}
use Rattle.vfs_wire_more.specs.declared.names.AccessIn.{AccessIn}
use Rattle.vfs_wire_more.specs.declared.names.CreateIn.{CreateIn}
use Rattle.vfs_wire_more.specs.declared.names.LinkIn.{LinkIn}
use Rattle.vfs_wire_more.specs.declared.names.MkdirIn.{MkdirIn}
use Rattle.vfs_wire_more.specs.declared.names.MknodIn.{MknodIn}
use Rattle.vfs_wire_more.specs.declared.names.Rename2In.{Rename2In}
use Rattle.vfs_wire_more.specs.declared.names.RenameIn.{RenameIn}
use Rattle.vfs_wire_more.specs.declared.CopyfilerangeIn.{CopyfilerangeIn}
use Rattle.vfs_wire_more.specs.declared.FallocateIn.{FallocateIn}
use Rattle.vfs_wire_more.specs.declared.LseekIn.{LseekIn}
use Rattle.vfs_wire_more.specs.declared.LseekOut.{LseekOut}
use Rattle.vfs_wire_more.specs.declared.xattrs.GetxattrIn.{GetxattrIn}
use Rattle.vfs_wire_more.specs.declared.xattrs.GetxattrOut.{GetxattrOut}
use Rattle.vfs_wire_more.specs.declared.xattrs.SetxattrIn.{SetxattrIn}
use Rattle.vfs_wire_more.specs.declared.xattrs.SetxattrInCompat.{SetxattrInCompat}

-- ---- the requests on open files and directories

-- the OpenIn of its fields
abbrev pub made_open_in : List ℕ → OpenIn
made_open_in xs = record {
  flags = slice_index xs 0;
  open_flags = slice_index xs 1;
}

-- OpenIn: 8 bytes
abbrev pub open_in : Table OpenIn
open_in = table (4 ∷ 4 ∷ []) (λ r. r.flags ∷ r.open_flags ∷ []) made_open_in

-- the OpenOut of its fields
abbrev pub made_open_out : List ℕ → OpenOut
made_open_out xs = record {
  fh = slice_index xs 0;
  open_flags = slice_index xs 1;
  padding = slice_index xs 2;
}

-- OpenOut: 16 bytes
abbrev pub open_out : Table OpenOut
open_out = table (8 ∷ 4 ∷ 4 ∷ []) (λ r. r.fh ∷ r.open_flags ∷ r.padding ∷ []) made_open_out

-- the ReleaseIn of its fields
abbrev pub made_release_in : List ℕ → ReleaseIn
made_release_in xs = record {
  fh = slice_index xs 0;
  flags = slice_index xs 1;
  release_flags = slice_index xs 2;
  lock_owner = slice_index xs 3;
}

-- ReleaseIn: 24 bytes
abbrev pub release_in : Table ReleaseIn
release_in = table (8 ∷ 4 ∷ 4 ∷ 8 ∷ [])
    (λ r. r.fh ∷ r.flags ∷ r.release_flags ∷ r.lock_owner ∷ []) made_release_in

-- the FlushIn of its fields
abbrev pub made_flush_in : List ℕ → FlushIn
made_flush_in xs = record {
  fh = slice_index xs 0;
  unused = slice_index xs 1;
  padding = slice_index xs 2;
  lock_owner = slice_index xs 3;
}

-- FlushIn: 24 bytes
abbrev pub flush_in : Table FlushIn
flush_in = table (8 ∷ 4 ∷ 4 ∷ 8 ∷ [])
    (λ r. r.fh ∷ r.unused ∷ r.padding ∷ r.lock_owner ∷ []) made_flush_in

-- the ReadIn of its fields
abbrev pub made_read_in : List ℕ → ReadIn
made_read_in xs = record {
  fh = slice_index xs 0;
  offset = slice_index xs 1;
  size = slice_index xs 2;
  read_flags = slice_index xs 3;
  lock_owner = slice_index xs 4;
  flags = slice_index xs 5;
  padding = slice_index xs 6;
}

-- ReadIn: 40 bytes
abbrev pub read_in : Table ReadIn
read_in = table (8 ∷ 8 ∷ 4 ∷ 4 ∷ 8 ∷ 4 ∷ 4 ∷ [])
    (λ r. r.fh ∷ r.offset ∷ r.size ∷ r.read_flags ∷ r.lock_owner ∷ r.flags ∷ r.padding ∷ [])
    made_read_in

-- the WriteIn of its fields
abbrev pub made_write_in : List ℕ → WriteIn
made_write_in xs = record {
  fh = slice_index xs 0;
  offset = slice_index xs 1;
  size = slice_index xs 2;
  write_flags = slice_index xs 3;
  lock_owner = slice_index xs 4;
  flags = slice_index xs 5;
  padding = slice_index xs 6;
}

-- WriteIn: 40 bytes
abbrev pub write_in : Table WriteIn
write_in = table (8 ∷ 8 ∷ 4 ∷ 4 ∷ 8 ∷ 4 ∷ 4 ∷ [])
    (λ r. r.fh ∷ r.offset ∷ r.size ∷ r.write_flags ∷ r.lock_owner ∷ r.flags ∷ r.padding ∷ [])
    made_write_in

-- the WriteOut of its fields
abbrev pub made_write_out : List ℕ → WriteOut
made_write_out xs = record {
  size = slice_index xs 0;
  padding = slice_index xs 1;
}

-- WriteOut: 8 bytes
abbrev pub write_out : Table WriteOut
write_out = table (4 ∷ 4 ∷ []) (λ r. r.size ∷ r.padding ∷ []) made_write_out

-- the FsyncIn of its fields
abbrev pub made_fsync_in : List ℕ → FsyncIn
made_fsync_in xs = record {
  fh = slice_index xs 0;
  fsync_flags = slice_index xs 1;
  padding = slice_index xs 2;
}

-- FsyncIn: 16 bytes
abbrev pub fsync_in : Table FsyncIn
fsync_in = table (8 ∷ 4 ∷ 4 ∷ []) (λ r. r.fh ∷ r.fsync_flags ∷ r.padding ∷ []) made_fsync_in

-- ---- the requests that make, move or link a name

-- the MknodIn of its fields
abbrev pub made_mknod_in : List ℕ → MknodIn
made_mknod_in xs = record {
  mode = slice_index xs 0;
  rdev = slice_index xs 1;
  umask = slice_index xs 2;
  padding = slice_index xs 3;
}

-- MknodIn: 16 bytes
abbrev pub mknod_in : Table MknodIn
mknod_in = table (4 ∷ 4 ∷ 4 ∷ 4 ∷ [])
    (λ r. r.mode ∷ r.rdev ∷ r.umask ∷ r.padding ∷ []) made_mknod_in

-- the MkdirIn of its fields
abbrev pub made_mkdir_in : List ℕ → MkdirIn
made_mkdir_in xs = record {
  mode = slice_index xs 0;
  umask = slice_index xs 1;
}

-- MkdirIn: 8 bytes
abbrev pub mkdir_in : Table MkdirIn
mkdir_in = table (4 ∷ 4 ∷ []) (λ r. r.mode ∷ r.umask ∷ []) made_mkdir_in

-- the RenameIn of its fields
abbrev pub made_rename_in : List ℕ → RenameIn
made_rename_in xs = record {
  newdir = slice_index xs 0;
}

-- RenameIn: 8 bytes
abbrev pub rename_in : Table RenameIn
rename_in = table (8 ∷ []) (λ r. r.newdir ∷ []) made_rename_in

-- the Rename2In of its fields
abbrev pub made_rename2_in : List ℕ → Rename2In
made_rename2_in xs = record {
  newdir = slice_index xs 0;
  flags = slice_index xs 1;
  padding = slice_index xs 2;
}

-- Rename2In: 16 bytes
abbrev pub rename2_in : Table Rename2In
rename2_in = table (8 ∷ 4 ∷ 4 ∷ []) (λ r. r.newdir ∷ r.flags ∷ r.padding ∷ []) made_rename2_in

-- the LinkIn of its fields
abbrev pub made_link_in : List ℕ → LinkIn
made_link_in xs = record {
  oldnodeid = slice_index xs 0;
}

-- LinkIn: 8 bytes
abbrev pub link_in : Table LinkIn
link_in = table (8 ∷ []) (λ r. r.oldnodeid ∷ []) made_link_in

-- the CreateIn of its fields
abbrev pub made_create_in : List ℕ → CreateIn
made_create_in xs = record {
  flags = slice_index xs 0;
  mode = slice_index xs 1;
  umask = slice_index xs 2;
  open_flags = slice_index xs 3;
}

-- CreateIn: 16 bytes
abbrev pub create_in : Table CreateIn
create_in = table (4 ∷ 4 ∷ 4 ∷ 4 ∷ [])
    (λ r. r.flags ∷ r.mode ∷ r.umask ∷ r.open_flags ∷ []) made_create_in

-- the AccessIn of its fields
abbrev pub made_access_in : List ℕ → AccessIn
made_access_in xs = record {
  mask = slice_index xs 0;
  padding = slice_index xs 1;
}

-- AccessIn: 8 bytes
abbrev pub access_in : Table AccessIn
access_in = table (4 ∷ 4 ∷ []) (λ r. r.mask ∷ r.padding ∷ []) made_access_in

-- ---- the requests on ranges of a file

-- the LseekIn of its fields
abbrev pub made_lseek_in : List ℕ → LseekIn
made_lseek_in xs = record {
  fh = slice_index xs 0;
  offset = slice_index xs 1;
  whence = slice_index xs 2;
  padding = slice_index xs 3;
}

-- LseekIn: 24 bytes
abbrev pub lseek_in : Table LseekIn
lseek_in = table (8 ∷ 8 ∷ 4 ∷ 4 ∷ [])
    (λ r. r.fh ∷ r.offset ∷ r.whence ∷ r.padding ∷ []) made_lseek_in

-- the LseekOut of its fields
abbrev pub made_lseek_out : List ℕ → LseekOut
made_lseek_out xs = record {
  offset = slice_index xs 0;
}

-- LseekOut: 8 bytes
abbrev pub lseek_out : Table LseekOut
lseek_out = table (8 ∷ []) (λ r. r.offset ∷ []) made_lseek_out

-- the CopyfilerangeIn of its fields
abbrev pub made_copyfilerange_in : List ℕ → CopyfilerangeIn
made_copyfilerange_in xs = record {
  fh_in = slice_index xs 0;
  off_in = slice_index xs 1;
  nodeid_out = slice_index xs 2;
  fh_out = slice_index xs 3;
  off_out = slice_index xs 4;
  len = slice_index xs 5;
  flags = slice_index xs 6;
}

-- CopyfilerangeIn: 56 bytes
abbrev pub copyfilerange_in : Table CopyfilerangeIn
copyfilerange_in = table (8 ∷ 8 ∷ 8 ∷ 8 ∷ 8 ∷ 8 ∷ 8 ∷ [])
    (λ r. r.fh_in ∷ r.off_in ∷ r.nodeid_out ∷ r.fh_out ∷ r.off_out ∷ r.len ∷ r.flags ∷ [])
    made_copyfilerange_in

-- the FallocateIn of its fields
abbrev pub made_fallocate_in : List ℕ → FallocateIn
made_fallocate_in xs = record {
  fh = slice_index xs 0;
  offset = slice_index xs 1;
  length = slice_index xs 2;
  mode = slice_index xs 3;
  padding = slice_index xs 4;
}

-- FallocateIn: 32 bytes
abbrev pub fallocate_in : Table FallocateIn
fallocate_in = table (8 ∷ 8 ∷ 8 ∷ 4 ∷ 4 ∷ [])
    (λ r. r.fh ∷ r.offset ∷ r.length ∷ r.mode ∷ r.padding ∷ []) made_fallocate_in

-- ---- the requests on extended attributes

-- the SetxattrIn of its fields
abbrev pub made_setxattr_in : List ℕ → SetxattrIn
made_setxattr_in xs = record {
  size = slice_index xs 0;
  flags = slice_index xs 1;
  setxattr_flags = slice_index xs 2;
  padding = slice_index xs 3;
}

-- SetxattrIn: 16 bytes
abbrev pub setxattr_in : Table SetxattrIn
setxattr_in = table (4 ∷ 4 ∷ 4 ∷ 4 ∷ [])
    (λ r. r.size ∷ r.flags ∷ r.setxattr_flags ∷ r.padding ∷ []) made_setxattr_in

-- the SetxattrInCompat of its fields
abbrev pub made_setxattr_in_compat : List ℕ → SetxattrInCompat
made_setxattr_in_compat xs = record {
  size = slice_index xs 0;
  flags = slice_index xs 1;
}

-- SetxattrInCompat: 8 bytes
abbrev pub setxattr_in_compat : Table SetxattrInCompat
setxattr_in_compat = table (4 ∷ 4 ∷ []) (λ r. r.size ∷ r.flags ∷ []) made_setxattr_in_compat

-- the GetxattrIn of its fields
abbrev pub made_getxattr_in : List ℕ → GetxattrIn
made_getxattr_in xs = record {
  size = slice_index xs 0;
  padding = slice_index xs 1;
}

-- GetxattrIn: 8 bytes
abbrev pub getxattr_in : Table GetxattrIn
getxattr_in = table (4 ∷ 4 ∷ []) (λ r. r.size ∷ r.padding ∷ []) made_getxattr_in

-- the GetxattrOut of its fields
abbrev pub made_getxattr_out : List ℕ → GetxattrOut
made_getxattr_out xs = record {
  size = slice_index xs 0;
  padding = slice_index xs 1;
}

-- GetxattrOut: 8 bytes
abbrev pub getxattr_out : Table GetxattrOut
getxattr_out = table (4 ∷ 4 ∷ []) (λ r. r.size ∷ r.padding ∷ []) made_getxattr_out
