-- The flag sets as numbers: the bits of a set, and those that are known. Names are in FlagTables.
-- `tests/c/kernel.py` compiles SETXATTR_EXT, INIT_EXT and SECURITY_CTX against the kernel's header.
use Rattle.std.specs.Prelude.{ℕ, ◌+◌, ◌^◌, ◌==◌, Bool, bit_and, not}
use Rattle.vfs_flags.specs.declared.fs_options.FsOptions.{FsOptions}
use Rattle.vfs_flags.specs.declared.flag_sets.SetattrValid.{SetattrValid}
use Rattle.vfs_flags.specs.declared.flag_sets.OpenOptions.{OpenOptions}
use Rattle.vfs_flags.specs.declared.flag_sets.IoctlFlags.{IoctlFlags}
use Rattle.vfs_flags.specs.declared.flag_sets.SetxattrFlags.{SetxattrFlags}
use Rattle.vfs_flags.specs.declared.flag_sets.NotifyInvalEntryOutFlags.{NotifyInvalEntryOutFlags}
use Rattle.vfs_flags.specs.declared.flag_sets.SetupmappingFlags.{SetupmappingFlags}

-- whether a word of flags, or a set of options, has one of these: the test of every flag and option
abbrev pub has_flag : (flags flag : ℕ) → Bool
has_flag flags flag = not (bit_and flags flag == 0)

-- the option SETXATTR_EXT: SETXATTR has its longer record
abbrev pub setxattr_ext : ℕ
setxattr_ext = 2 ^ 29

-- the option INIT_EXT: INIT has a second record, with the options from bit 32 on
abbrev pub init_ext : ℕ
init_ext = 2 ^ 30

-- the option SECURITY_CTX: a request that creates a node carries its security contexts
abbrev pub security_ctx : ℕ
security_ctx = 2 ^ 32

-- the option CREATE_SUPP_GROUP: a request that creates a node carries a supplementary group
abbrev pub create_supp_group : ℕ
create_supp_group = 2 ^ 34

-- the options of INIT that are known: bits 0 to 34 but 26 (MAP_ALIGNMENT), the reserved 31 among them,
-- 36 and 40
abbrev pub known_fs_options : ℕ
known_fs_options = 0x117fbffffff

-- The options that a server supports by itself, whatever its file system wants. In order: ASYNC_READ,
-- ATOMIC_O_TRUNC, BIG_WRITES, HAS_IOCTL_DIR, AUTO_INVAL_DATA, ASYNC_DIO, PARALLEL_DIROPS, MAX_PAGES,
-- SUBMOUNTS, INIT_EXT, CREATE_SUPP_GROUP, ALLOW_IDMAP.
abbrev pub supported_fs_options : ℕ
supported_fs_options =
    2 ^ 0 + 2 ^ 3 + 2 ^ 5 + 2 ^ 11 + 2 ^ 12 + 2 ^ 15 + 2 ^ 18 + 2 ^ 22 + 2 ^ 27 + 2 ^ 30 + 2 ^ 34 + 2 ^ 40

-- the bits of SETATTR's `valid` that are passed on: all of `fuse.h` but FATTR_FH and FATTR_LOCKOWNER
abbrev pub known_setattr_valid : ℕ
known_setattr_valid = 0xdbf

-- the bits of all the further flags of a SETXATTR
abbrev pub known_setxattr_flags : ℕ
known_setxattr_flags = 1

-- ---- no more is of the promise but its premise, the trait's contract

-- a set of the options of INIT, as a number
abbrev pub fs_options_bits : FsOptions → ℕ
fs_options_bits flags = flags.0

-- a set of the attributes that a SETATTR changes, as a number
abbrev pub setattr_valid_bits : SetattrValid → ℕ
setattr_valid_bits flags = flags.0

-- a set of the properties of an open file, as a number
abbrev pub open_options_bits : OpenOptions → ℕ
open_options_bits flags = flags.0

-- a set of the further flags of a SETXATTR, as a number
abbrev pub setxattr_flags_bits : SetxattrFlags → ℕ
setxattr_flags_bits flags = flags.0

-- ---- no more is of the promise: the rest is for proofs, and for contracts of parts

-- the bits of all the properties of an open file
abbrev pub known_open_options : ℕ
known_open_options = 0x7f

-- a set of the flags of an IOCTL, as a number
abbrev pub ioctl_flags_bits : IoctlFlags → ℕ
ioctl_flags_bits flags = flags.0

-- the bits of all the flags of an IOCTL
abbrev pub known_ioctl_flags : ℕ
known_ioctl_flags = 0x13f

-- a set of the flags of the notice that a name is out of date, as a number
abbrev pub notify_inval_entry_out_flags_bits : NotifyInvalEntryOutFlags → ℕ
notify_inval_entry_out_flags_bits flags = flags.0

-- the bits of all the flags of the notice that a name is out of date
abbrev pub known_notify_inval_entry_out_flags : ℕ
known_notify_inval_entry_out_flags = 1

-- a set of the rights of a mapping, as a number
abbrev pub setupmapping_flags_bits : SetupmappingFlags → ℕ
setupmapping_flags_bits flags = flags.0

-- the bits of all the rights of a mapping
abbrev pub known_setupmapping_flags : ℕ
known_setupmapping_flags = 3
