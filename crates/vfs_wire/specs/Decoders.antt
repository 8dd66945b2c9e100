-- The value that the fields of a record make. Nothing new is said here: for each record it is the one
-- inverse of its fields (`decoding_is_the_inverse` of vfs_wire).
use Rattle.std.specs.Prelude.{ℕ, List, drop, slice_index}
use Rattle.std.specs.Int.{w32, cast_signed}
use Rattle.vfs_wire.specs.declared.attributes.Attr.{Attr}
use Rattle.vfs_wire.specs.declared.attributes.AttrOut.{AttrOut}
use Rattle.vfs_wire.specs.declared.attributes.GetattrIn.{GetattrIn}
use Rattle.vfs_wire.specs.declared.attributes.SetattrIn.{SetattrIn}
use Rattle.vfs_wire.specs.declared.entries.BatchForgetIn.{BatchForgetIn}
use Rattle.vfs_wire.specs.declared.entries.EntryOut.{EntryOut}
use Rattle.vfs_wire.specs.declared.entries.ForgetIn.{ForgetIn}
use Rattle.vfs_wire.specs.declared.entries.ForgetOne.{ForgetOne}
use Rattle.vfs_wire.specs.declared.extensions.ExtHeader.{ExtHeader}
use Rattle.vfs_wire.specs.declared.extensions.Secctx.{Secctx}
use Rattle.vfs_wire.specs.declared.extensions.SuppGroups.{SuppGroups}
use Rattle.vfs_wire.specs.declared.headers.InHeader.{InHeader}
use Rattle.vfs_wire.specs.declared.headers.OutHeader.{OutHeader}
use Rattle.vfs_wire.specs.declared.init.InitInCompat.{InitInCompat}
use Rattle.vfs_wire.specs.declared.init.InitInExt.{InitInExt}
use Rattle.vfs_wire.specs.declared.init.InitOut.{InitOut}
use Rattle.vfs_wire.specs.declared.listings.Dirent.{Dirent}
use Rattle.vfs_wire.specs.declared.listings.Direntplus.{Direntplus}
use Rattle.vfs_wire.specs.declared.listings.Kstatfs.{Kstatfs}

-- of InHeader
abbrev pub made_in_header : List ℕ → InHeader
made_in_header xs = record {
  len = slice_index xs 0;
  opcode = slice_index xs 1;
  unique = slice_index xs 2;
  nodeid = slice_index xs 3;
  uid = slice_index xs 4;
  gid = slice_index xs 5;
  pid = slice_index xs 6;
  total_extlen = slice_index xs 7;
  padding = slice_index xs 8;
}

-- of OutHeader
abbrev pub made_out_header : List ℕ → OutHeader
made_out_header xs = record {
  len = slice_index xs 0;
  error = cast_signed w32 (slice_index xs 1);
  unique = slice_index xs 2;
}

-- of InitInCompat
abbrev pub made_init_in_compat : List ℕ → InitInCompat
made_init_in_compat xs = record {
  major = slice_index xs 0;
  minor = slice_index xs 1;
  max_readahead = slice_index xs 2;
  flags = slice_index xs 3;
}

-- of InitInExt
abbrev pub made_init_in_ext : List ℕ → InitInExt
made_init_in_ext xs = record {
  flags2 = slice_index xs 0;
  unused = drop 1 xs;
}

-- of InitOut
abbrev pub made_init_out : List ℕ → InitOut
made_init_out xs = record {
  major = slice_index xs 0;
  minor = slice_index xs 1;
  max_readahead = slice_index xs 2;
  flags = slice_index xs 3;
  max_background = slice_index xs 4;
  congestion_threshold = slice_index xs 5;
  max_write = slice_index xs 6;
  time_gran = slice_index xs 7;
  max_pages = slice_index xs 8;
  map_alignment = slice_index xs 9;
  flags2 = slice_index xs 10;
  unused = drop 11 xs;
}

-- of Attr
abbrev pub made_attr : List ℕ → Attr
made_attr xs = record {
  ino = slice_index xs 0;
  size = slice_index xs 1;
  blocks = slice_index xs 2;
  atime = slice_index xs 3;
  mtime = slice_index xs 4;
  ctime = slice_index xs 5;
  atimensec = slice_index xs 6;
  mtimensec = slice_index xs 7;
  ctimensec = slice_index xs 8;
  mode = slice_index xs 9;
  nlink = slice_index xs 10;
  uid = slice_index xs 11;
  gid = slice_index xs 12;
  rdev = slice_index xs 13;
  blksize = slice_index xs 14;
  flags = slice_index xs 15;
}

-- of GetattrIn
abbrev pub made_getattr_in : List ℕ → GetattrIn
made_getattr_in xs = record {
  flags = slice_index xs 0;
  dummy = slice_index xs 1;
  fh = slice_index xs 2;
}

-- of AttrOut
abbrev pub made_attr_out : List ℕ → AttrOut
made_attr_out xs = record {
  attr_valid = slice_index xs 0;
  attr_valid_nsec = slice_index xs 1;
  dummy = slice_index xs 2;
  attr = made_attr (drop 3 xs);
}

-- of SetattrIn
abbrev pub made_setattr_in : List ℕ → SetattrIn
made_setattr_in xs = record {
  valid = slice_index xs 0;
  padding = slice_index xs 1;
  fh = slice_index xs 2;
  size = slice_index xs 3;
  lock_owner = slice_index xs 4;
  atime = slice_index xs 5;
  mtime = slice_index xs 6;
  ctime = slice_index xs 7;
  atimensec = slice_index xs 8;
  mtimensec = slice_index xs 9;
  ctimensec = slice_index xs 10;
  mode = slice_index xs 11;
  unused4 = slice_index xs 12;
  uid = slice_index xs 13;
  gid = slice_index xs 14;
  unused5 = slice_index xs 15;
}

-- of EntryOut
abbrev pub made_entry_out : List ℕ → EntryOut
made_entry_out xs = record {
  nodeid = slice_index xs 0;
  generation = slice_index xs 1;
  entry_valid = slice_index xs 2;
  attr_valid = slice_index xs 3;
  entry_valid_nsec = slice_index xs 4;
  attr_valid_nsec = slice_index xs 5;
  attr = made_attr (drop 6 xs);
}

-- of ForgetIn
abbrev pub made_forget_in : List ℕ → ForgetIn
made_forget_in xs = record {
  nlookup = slice_index xs 0;
}

-- of ForgetOne
abbrev pub made_forget_one : List ℕ → ForgetOne
made_forget_one xs = record {
  nodeid = slice_index xs 0;
  nlookup = slice_index xs 1;
}

-- of BatchForgetIn
abbrev pub made_batch_forget_in : List ℕ → BatchForgetIn
made_batch_forget_in xs = record {
  count = slice_index xs 0;
  dummy = slice_index xs 1;
}

-- of Dirent
abbrev pub made_dirent : List ℕ → Dirent
made_dirent xs = record {
  ino = slice_index xs 0;
  off = slice_index xs 1;
  namelen = slice_index xs 2;
  type_ = slice_index xs 3;
}

-- of Direntplus
abbrev pub made_direntplus : List ℕ → Direntplus
made_direntplus xs = record {
  entry_out = made_entry_out xs;
  dirent = made_dirent (drop 22 xs);
}

-- of Kstatfs
abbrev pub made_kstatfs : List ℕ → Kstatfs
made_kstatfs xs = record {
  blocks = slice_index xs 0;
  bfree = slice_index xs 1;
  bavail = slice_index xs 2;
  files = slice_index xs 3;
  ffree = slice_index xs 4;
  bsize = slice_index xs 5;
  namelen = slice_index xs 6;
  frsize = slice_index xs 7;
  padding = slice_index xs 8;
  spare = drop 9 xs;
}

-- of ExtHeader
abbrev pub made_ext_header : List ℕ → ExtHeader
made_ext_header xs = record {
  size = slice_index xs 0;
  ext_type = slice_index xs 1;
}

-- of Secctx
abbrev pub made_secctx : List ℕ → Secctx
made_secctx xs = record {
  size = slice_index xs 0;
  padding = slice_index xs 1;
}

-- of SuppGroups
abbrev pub made_supp_groups : List ℕ → SuppGroups
made_supp_groups xs = record {
  nr_groups = slice_index xs 0;
}
