-- What STATX tells of a node: the reply's record, `struct fuse_statx_out` of Linux.
use Rattle.std.specs.Prelude.{ℕ, ◌+◌, ◌*◌, ◌/◌, ◌%◌, ◌^◌, bit_and, List, [], ◌∷◌}
use Rattle.vfs_wire.specs.Fields.{spelled}
use Rattle.vfs_wire.specs.declared.attributes.Attr.{Attr}
use Rattle.vfs_wire.specs.declared.bytes.Field.{Field}
use Rattle.vfs_wire.specs.declared.bytes.Field.TheVariants.{Two, Four, Eight}
use Rattle.fs_nodes.specs.Node.{attr_of, lasting}
use Rattle.fs_nodes.specs.declared.node.Node.{Node}
use Rattle.fs_nodes.specs.declared.node.Time.{Time}

-- the two numbers of a device, of which Linux puts 12 bits of the first between 8 and 12 bits of the second
abbrev pub device_major : (device : ℕ) → ℕ
device_major device = device / 2 ^ 8 % 2 ^ 12

abbrev pub device_minor : (device : ℕ) → ℕ
device_minor device = device / 2 ^ 20 * 2 ^ 8 + device % 2 ^ 8

-- The record, of a node with these attributes that was made then, on which a client may rely for that many seconds:
-- how long (attr_valid, its nanoseconds, no flags, spare), and `struct fuse_statx`: what is told (STATX_BASIC_STATS
-- and STATX_BTIME), blksize, no attributes, nlink, uid, gid, mode, ino, size, blocks, no attributes that may be
-- there, atime, btime, ctime, mtime, each with nothing after it, the device's numbers, those of no file system, and
-- what is spare.
abbrev pub statx_fields : Attr → (btime : Time) → (lasting : ℕ) → List Field
statx_fields attr btime lasting =
    Eight lasting ∷ Four 0 ∷ Four 0 ∷ Eight 0 ∷ Eight 0
    ∷ Four 0xfff ∷ Four attr.blksize ∷ Eight 0
    ∷ Four attr.nlink ∷ Four attr.uid ∷ Four attr.gid ∷ Two (bit_and attr.mode 0xffff) ∷ Two 0
    ∷ Eight attr.ino ∷ Eight attr.size ∷ Eight attr.blocks ∷ Eight 0
    ∷ Eight attr.atime ∷ Four attr.atimensec ∷ Four 0
    ∷ Eight btime.seconds ∷ Four btime.nanoseconds ∷ Four 0
    ∷ Eight attr.ctime ∷ Four attr.ctimensec ∷ Four 0
    ∷ Eight attr.mtime ∷ Four attr.mtimensec ∷ Four 0
    ∷ Four (device_major attr.rdev) ∷ Four (device_minor attr.rdev) ∷ Four 0 ∷ Four 0
    ∷ Eight 0 ∷ Eight 0 ∷ Eight 0 ∷ Eight 0 ∷ Eight 0 ∷ Eight 0 ∷ Eight 0
    ∷ Eight 0 ∷ Eight 0 ∷ Eight 0 ∷ Eight 0 ∷ Eight 0 ∷ Eight 0 ∷ Eight 0 ∷ []

-- its bytes
abbrev pub statx_of : (number : ℕ) → Node → List ℕ
statx_of number node = spelled (statx_fields (attr_of number node) node.btime (lasting node).secs)
