-- The flags by their names, as they are printed.
use Rattle.std.specs.Prelude.{ℕ, ◌^◌, List, [], ◌∷◌, codes, map, fold, bit_or}
use Rattle.vfs_flags.specs.Flags.{setxattr_ext, init_ext, security_ctx, create_supp_group}

-- the union of sets of bits
abbrev pub bits_of_all : List ℕ → ℕ
bits_of_all sets = fold bit_or 0 sets

-- the bits of all the flags of a table
abbrev pub bits_of_table : List (List ℕ × ℕ) → ℕ
bits_of_table table = bits_of_all (map (λ row. row.1) table)

-- the option ASYNC_READ: several reads of one open file may be under way at a time
abbrev pub async_read : ℕ
async_read = 2 ^ 0

-- the option ATOMIC_O_TRUNC: OPEN keeps O_TRUNC among its flags
abbrev pub atomic_o_trunc : ℕ
atomic_o_trunc = 2 ^ 3

-- the option BIG_WRITES: a WRITE may carry more than 4096 bytes
abbrev pub big_writes : ℕ
big_writes = 2 ^ 5

-- the option HAS_IOCTL_DIR: an IOCTL may name a directory
abbrev pub has_ioctl_dir : ℕ
has_ioctl_dir = 2 ^ 11

-- the option AUTO_INVAL_DATA: cached bytes are dropped where attributes show a change
abbrev pub auto_inval_data : ℕ
auto_inval_data = 2 ^ 12

-- the option ASYNC_DIO: several direct reads and writes may be under way at a time
abbrev pub async_dio : ℕ
async_dio = 2 ^ 15

-- the option PARALLEL_DIROPS: LOOKUP and READDIR of one directory may be under way at a time
abbrev pub parallel_dirops : ℕ
parallel_dirops = 2 ^ 18

-- the option MAX_PAGES: the reply to INIT says how many pages a request may carry
abbrev pub max_pages_option : ℕ
max_pages_option = 2 ^ 22

-- the option SUBMOUNTS: a directory may be marked as the root of a mount
abbrev pub submounts : ℕ
submounts = 2 ^ 27

-- the option ALLOW_IDMAP: the file system may be mounted with mapped ids
abbrev pub allow_idmap : ℕ
allow_idmap = 2 ^ 40

-- the name and the bit of each of the options of INIT
abbrev pub fs_options_table : List (List ℕ × ℕ)
fs_options_table =
    (codes "ASYNC_READ", async_read) ∷
    (codes "POSIX_LOCKS", 0x2) ∷
    (codes "FILE_OPS", 0x4) ∷
    (codes "ATOMIC_O_TRUNC", atomic_o_trunc) ∷
    (codes "EXPORT_SUPPORT", 0x10) ∷
    (codes "BIG_WRITES", big_writes) ∷
    (codes "DONT_MASK", 0x40) ∷
    (codes "SPLICE_WRITE", 0x80) ∷
    (codes "SPLICE_MOVE", 0x100) ∷
    (codes "SPLICE_READ", 0x200) ∷
    (codes "FLOCK_LOCKS", 0x400) ∷
    (codes "HAS_IOCTL_DIR", has_ioctl_dir) ∷
    (codes "AUTO_INVAL_DATA", auto_inval_data) ∷
    (codes "DO_READDIRPLUS", 0x2000) ∷
    (codes "READDIRPLUS_AUTO", 0x4000) ∷
    (codes "ASYNC_DIO", async_dio) ∷
    (codes "WRITEBACK_CACHE", 0x10000) ∷
    (codes "ZERO_MESSAGE_OPEN", 0x20000) ∷
    (codes "PARALLEL_DIROPS", parallel_dirops) ∷
    (codes "HANDLE_KILLPRIV", 0x80000) ∷
    (codes "POSIX_ACL", 0x100000) ∷
    (codes "ABORT_ERROR", 0x200000) ∷
    (codes "MAX_PAGES", max_pages_option) ∷
    (codes "CACHE_SYMLINKS", 0x800000) ∷
    (codes "ZERO_MESSAGE_OPENDIR", 0x1000000) ∷
    (codes "EXPLICIT_INVAL_DATA", 0x2000000) ∷
    (codes "SUBMOUNTS", submounts) ∷
    (codes "HANDLE_KILLPRIV_V2", 0x10000000) ∷
    (codes "SETXATTR_EXT", setxattr_ext) ∷
    (codes "INIT_EXT", init_ext) ∷
    (codes "INIT_RESERVED", 0x80000000) ∷
    (codes "SECURITY_CTX", security_ctx) ∷
    (codes "HAS_INODE_DAX", 0x200000000) ∷
    (codes "CREATE_SUPP_GROUP", create_supp_group) ∷
    (codes "DIRECT_IO_ALLOW_MMAP", 0x1000000000) ∷
    (codes "ALLOW_IDMAP", allow_idmap) ∷
    []

-- the name and the bit of each of the attributes that a SETATTR changes
abbrev pub setattr_valid_table : List (List ℕ × ℕ)
setattr_valid_table =
    (codes "MODE", 0x1) ∷
    (codes "UID", 0x2) ∷
    (codes "GID", 0x4) ∷
    (codes "SIZE", 0x8) ∷
    (codes "ATIME", 0x10) ∷
    (codes "MTIME", 0x20) ∷
    (codes "ATIME_NOW", 0x80) ∷
    (codes "MTIME_NOW", 0x100) ∷
    (codes "CTIME", 0x400) ∷
    (codes "KILL_SUIDGID", 0x800) ∷
    []

-- the name and the bit of each of the properties of an open file
abbrev pub open_options_table : List (List ℕ × ℕ)
open_options_table =
    (codes "DIRECT_IO", 0x1) ∷
    (codes "KEEP_CACHE", 0x2) ∷
    (codes "NONSEEKABLE", 0x4) ∷
    (codes "CACHE_DIR", 0x8) ∷
    (codes "STREAM", 0x10) ∷
    (codes "NOFLUSH", 0x20) ∷
    (codes "PARALLEL_DIRECT_WRITES", 0x40) ∷
    []

-- the name and the bit of each of the flags of an IOCTL
abbrev pub ioctl_flags_table : List (List ℕ × ℕ)
ioctl_flags_table =
    (codes "IOCTL_COMPAT", 0x1) ∷
    (codes "IOCTL_UNRESTRICTED", 0x2) ∷
    (codes "IOCTL_RETRY", 0x4) ∷
    (codes "IOCTL_32BIT", 0x8) ∷
    (codes "IOCTL_DIR", 0x10) ∷
    (codes "IOCTL_COMPAT_X32", 0x20) ∷
    (codes "IOCTL_MAX_IOV", 0x100) ∷
    []

-- the name and the bit of each of the further flags of a SETXATTR
abbrev pub setxattr_flags_table : List (List ℕ × ℕ)
setxattr_flags_table =
    (codes "SETXATTR_ACL_KILL_SGID", 0x1) ∷
    []

-- the name and the bit of each of the flags of the notice that a name is out of date
abbrev pub notify_inval_entry_out_flags_table : List (List ℕ × ℕ)
notify_inval_entry_out_flags_table =
    (codes "EXPIRE_ONLY", 0x1) ∷
    []

-- the name and the bit of each of the rights of a mapping
abbrev pub setupmapping_flags_table : List (List ℕ × ℕ)
setupmapping_flags_table =
    (codes "WRITE", 0x1) ∷
    (codes "READ", 0x2) ∷
    []
