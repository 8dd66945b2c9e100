-- The records that most requests and replies are made of: the width of each field in bytes, in order.
-- How bytes become a record again is in Decoders; it is the one inverse of this. Of the promise only
-- `low_word` and `kstatfs_of`, after the tables, are to be read: `tests/c/kernel.py` compiles the
-- tables against the kernel's header.
use Rattle.std.specs.Int.{w32, cast_unsigned, w64}
use Rattle.std.specs.Prelude.{[], ◌∷◌, slice_index, ◌++◌, ℕ, ℤ, ◌%◌, ◌^◌}
use Rattle.vfs_wire.specs.Fields.{Table, table}
use Rattle.vfs_wire.specs.Decoders.{made_in_header, made_out_header, made_init_in_compat, made_init_in_ext, made_init_out, made_attr, made_getattr_in, made_attr_out, made_setattr_in, made_entry_out, made_forget_in, made_forget_one, made_batch_forget_in, made_dirent, made_direntplus, made_kstatfs, made_ext_header, made_secctx, made_supp_groups}
use Rattle.vfs_flags.specs.Numbers.{number_of}
use Rattle.vfs_flags.specs.declared.opcode.Opcode.{Opcode}
use Rattle.vfs_wire.specs.declared.attributes.Attr.{Attr}
use Rattle.vfs_wire.specs.declared.attributes.AttrOut.{AttrOut}
use Rattle.vfs_wire.specs.declared.attributes.GetattrIn.{GetattrIn}
use Rattle.vfs_wire.specs.declared.attributes.SetattrIn.{SetattrIn}
use Rattle.vfs_wire.specs.declared.entries.BatchForgetIn.{BatchForgetIn}
use Rattle.vfs_wire.specs.declared.entries.EntryOut.{EntryOut}
use Rattle.vfs_wire.specs.declared.entries.ForgetIn.{ForgetIn}
use Rattle.vfs_wire.specs.declared.entries.ForgetOne.{ForgetOne}
use Rattle.vfs_wire.specs.declared.extensions.ExtHeader.{ExtHeader}
use Rattle.vfs_wire.specs.declared.extensions.Secctx.{Secctx}
use Rattle.vfs_wire.specs.declared.extensions.SuppGroups.{SuppGroups}
use Rattle.vfs_wire.specs.declared.headers.InHeader.{InHeader}
use Rattle.vfs_wire.specs.declared.headers.OutHeader.{OutHeader}
use Rattle.vfs_wire.specs.declared.init.InitInCompat.{InitInCompat}
use Rattle.vfs_wire.specs.declared.init.InitInExt.{InitInExt}
use Rattle.vfs_wire.specs.declared.init.InitOut.{InitOut}
use Rattle.vfs_wire.specs.declared.listings.Dirent.{Dirent}
use Rattle.vfs_wire.specs.declared.listings.Direntplus.{Direntplus}
use Rattle.vfs_wire.specs.declared.listings.Kstatfs.{Kstatfs}
use Rattle.vfs_wire.specs.declared.stat.Stat64.{Stat64}
use Rattle.vfs_wire.specs.declared.stat.Statvfs64.{Statvfs64}

-- ---- the headers of requests and replies

-- InHeader: 40 bytes
abbrev pub in_header : Table InHeader
in_header = table (4 ∷ 4 ∷ 8 ∷ 8 ∷ 4 ∷ 4 ∷ 4 ∷ 2 ∷ 2 ∷ [])
    (λ r. r.len ∷ r.opcode ∷ r.unique ∷ r.nodeid ∷ r.uid ∷ r.gid ∷ r.pid ∷ r.total_extlen ∷
    r.padding ∷ []) made_in_header

-- OutHeader: 16 bytes
abbrev pub out_header : Table OutHeader
out_header = table (4 ∷ 4 ∷ 8 ∷ [])
    (λ r. r.len ∷ cast_unsigned w32 r.error ∷ r.unique ∷ []) made_out_header

-- ---- INIT

-- InitInCompat: 16 bytes
abbrev pub init_in_compat : Table InitInCompat
init_in_compat = table (4 ∷ 4 ∷ 4 ∷ 4 ∷ [])
    (λ r. r.major ∷ r.minor ∷ r.max_readahead ∷ r.flags ∷ []) made_init_in_compat

-- InitInExt: 48 bytes
abbrev pub init_in_ext : Table InitInExt
init_in_ext = table (4 ∷ 4 ∷ 4 ∷ 4 ∷ 4 ∷ 4 ∷ 4 ∷ 4 ∷ 4 ∷ 4 ∷ 4 ∷ 4 ∷ [])
    (λ r. r.flags2 ∷ slice_index r.unused 0 ∷ slice_index r.unused 1 ∷ slice_index r.unused 2 ∷
    slice_index r.unused 3 ∷ slice_index r.unused 4 ∷ slice_index r.unused 5 ∷
    slice_index r.unused 6 ∷ slice_index r.unused 7 ∷ slice_index r.unused 8 ∷
    slice_index r.unused 9 ∷ slice_index r.unused 10 ∷ []) made_init_in_ext

-- InitOut: 64 bytes
abbrev pub init_out : Table InitOut
init_out = table (4 ∷ 4 ∷ 4 ∷ 4 ∷ 2 ∷ 2 ∷ 4 ∷ 4 ∷ 2 ∷ 2 ∷ 4 ∷ 4 ∷ 4 ∷ 4 ∷ 4 ∷ 4 ∷ 4 ∷ 4 ∷ [])
    (λ r. r.major ∷ r.minor ∷ r.max_readahead ∷ r.flags ∷ r.max_background ∷
    r.congestion_threshold ∷ r.max_write ∷ r.time_gran ∷ r.max_pages ∷ r.map_alignment ∷ r.flags2 ∷
    slice_index r.unused 0 ∷ slice_index r.unused 1 ∷ slice_index r.unused 2 ∷
    slice_index r.unused 3 ∷ slice_index r.unused 4 ∷ slice_index r.unused 5 ∷
    slice_index r.unused 6 ∷ []) made_init_out

-- ---- the attributes of files

-- Attr: 88 bytes
abbrev pub attr : Table Attr
attr = table (8 ∷ 8 ∷ 8 ∷ 8 ∷ 8 ∷ 8 ∷ 4 ∷ 4 ∷ 4 ∷ 4 ∷ 4 ∷ 4 ∷ 4 ∷ 4 ∷ 4 ∷ 4 ∷ [])
    (λ r. r.ino ∷ r.size ∷ r.blocks ∷ r.atime ∷ r.mtime ∷ r.ctime ∷ r.atimensec ∷ r.mtimensec ∷
    r.ctimensec ∷ r.mode ∷ r.nlink ∷ r.uid ∷ r.gid ∷ r.rdev ∷ r.blksize ∷ r.flags ∷ []) made_attr

-- GetattrIn: 16 bytes
abbrev pub getattr_in : Table GetattrIn
getattr_in = table (4 ∷ 4 ∷ 8 ∷ []) (λ r. r.flags ∷ r.dummy ∷ r.fh ∷ []) made_getattr_in

-- AttrOut: 104 bytes
abbrev pub attr_out : Table AttrOut
attr_out = table (8 ∷ 4 ∷ 4 ∷ attr.widths)
    (λ r. r.attr_valid ∷ r.attr_valid_nsec ∷ r.dummy ∷ attr.fields r.attr) made_attr_out

-- SetattrIn: 88 bytes
abbrev pub setattr_in : Table SetattrIn
setattr_in = table (4 ∷ 4 ∷ 8 ∷ 8 ∷ 8 ∷ 8 ∷ 8 ∷ 8 ∷ 4 ∷ 4 ∷ 4 ∷ 4 ∷ 4 ∷ 4 ∷ 4 ∷ 4 ∷ [])
    (λ r. r.valid ∷ r.padding ∷ r.fh ∷ r.size ∷ r.lock_owner ∷ r.atime ∷ r.mtime ∷ r.ctime ∷
    r.atimensec ∷ r.mtimensec ∷ r.ctimensec ∷ r.mode ∷ r.unused4 ∷ r.uid ∷ r.gid ∷ r.unused5 ∷ [])
    made_setattr_in

-- ---- the entries that lookups answer, and how they are forgotten

-- EntryOut: 128 bytes
abbrev pub entry_out : Table EntryOut
entry_out = table (8 ∷ 8 ∷ 8 ∷ 8 ∷ 4 ∷ 4 ∷ attr.widths)
    (λ r. r.nodeid ∷ r.generation ∷ r.entry_valid ∷ r.attr_valid ∷ r.entry_valid_nsec ∷
    r.attr_valid_nsec ∷ attr.fields r.attr) made_entry_out

-- ForgetIn: 8 bytes
abbrev pub forget_in : Table ForgetIn
forget_in = table (8 ∷ []) (λ r. r.nlookup ∷ []) made_forget_in

-- ForgetOne: 16 bytes
abbrev pub forget_one : Table ForgetOne
forget_one = table (8 ∷ 8 ∷ []) (λ r. r.nodeid ∷ r.nlookup ∷ []) made_forget_one

-- BatchForgetIn: 8 bytes
abbrev pub batch_forget_in : Table BatchForgetIn
batch_forget_in = table (4 ∷ 4 ∷ []) (λ r. r.count ∷ r.dummy ∷ []) made_batch_forget_in

-- ---- directories, and a file system as a whole

-- Dirent: 24 bytes
abbrev pub dirent : Table Dirent
dirent = table (8 ∷ 8 ∷ 4 ∷ 4 ∷ []) (λ r. r.ino ∷ r.off ∷ r.namelen ∷ r.type_ ∷ []) made_dirent

-- Direntplus: 152 bytes
abbrev pub direntplus : Table Direntplus
direntplus = table (entry_out.widths ++ dirent.widths)
    (λ r. entry_out.fields r.entry_out ++ dirent.fields r.dirent) made_direntplus

-- Kstatfs: 80 bytes
abbrev pub kstatfs : Table Kstatfs
kstatfs = table (8 ∷ 8 ∷ 8 ∷ 8 ∷ 8 ∷ 4 ∷ 4 ∷ 4 ∷ 4 ∷ 4 ∷ 4 ∷ 4 ∷ 4 ∷ 4 ∷ 4 ∷ [])
    (λ r. r.blocks ∷ r.bfree ∷ r.bavail ∷ r.files ∷ r.ffree ∷ r.bsize ∷ r.namelen ∷ r.frsize ∷
    r.padding ∷ slice_index r.spare 0 ∷ slice_index r.spare 1 ∷ slice_index r.spare 2 ∷
    slice_index r.spare 3 ∷ slice_index r.spare 4 ∷ slice_index r.spare 5 ∷ []) made_kstatfs

-- ---- the extensions of a request

-- ExtHeader: 8 bytes
abbrev pub ext_header : Table ExtHeader
ext_header = table (4 ∷ 4 ∷ []) (λ r. r.size ∷ r.ext_type ∷ []) made_ext_header

-- Secctx: 8 bytes
abbrev pub secctx : Table Secctx
secctx = table (4 ∷ 4 ∷ []) (λ r. r.size ∷ r.padding ∷ []) made_secctx

-- SuppGroups: 4 bytes
abbrev pub supp_groups : Table SuppGroups
supp_groups = table (4 ∷ []) (λ r. r.nr_groups ∷ []) made_supp_groups

-- ---- from what the host's system says of files and file systems

-- the low 32 bits of a number
abbrev pub low_word : ℕ → ℕ
low_word n = n % 2 ^ 32

-- what the reply to STATFS says of a file system
abbrev pub kstatfs_of : Statvfs64 → Kstatfs
kstatfs_of st = record {
  blocks = st.f_blocks;
  bfree = st.f_bfree;
  bavail = st.f_bavail;
  files = st.f_files;
  ffree = st.f_ffree;
  bsize = low_word st.f_bsize;
  namelen = low_word st.f_namemax;
  frsize = low_word st.f_frsize;
  padding = 0;
  spare = 0 ∷ 0 ∷ 0 ∷ 0 ∷ 0 ∷ 0 ∷ [];
}

-- ---- no more is of the promise: the rest is for proofs, and for contracts of parts

-- the header of a request with this length, of the user and the group 0 and of no process
abbrev pub request_header : (len : ℕ) → Opcode → (unique nodeid : ℕ) → InHeader
request_header len opcode unique nodeid = record {
  len = len;
  opcode = number_of opcode;
  unique = unique;
  nodeid = nodeid;
  uid = 0;
  gid = 0;
  pid = 0;
  total_extlen = 0;
  padding = 0;
}

-- the number that has the 64 bits of a signed one
abbrev pub bits_of : ℤ → ℕ
bits_of z = cast_unsigned w64 z

-- the attributes of a file with these flags, whose owner and group the guest numbers so
abbrev pub attr_of_stat : Stat64 → ℕ → ℕ → ℕ → Attr
attr_of_stat st flags uid gid = record {
  ino = st.st_ino;
  size = bits_of st.st_size;
  blocks = bits_of st.st_blocks;
  atime = bits_of st.st_atime;
  mtime = bits_of st.st_mtime;
  ctime = bits_of st.st_ctime;
  atimensec = low_word (bits_of st.st_atime_nsec);
  mtimensec = low_word (bits_of st.st_mtime_nsec);
  ctimensec = low_word (bits_of st.st_ctime_nsec);
  mode = st.st_mode;
  nlink = low_word st.st_nlink;
  uid = uid;
  gid = gid;
  rdev = low_word st.st_rdev;
  blksize = low_word (bits_of st.st_blksize);
  flags = flags;
}
