-- What a node shows of itself, and what becomes of it.
use Rattle.std.specs.Prelude.{ℕ, ◌+◌, ◌-◌, ◌*◌, ◌^◌, ◌==◌, ◌&&◌, ◌||◌, not, Bool, true, false, List, [], ◌∷◌, Option, find, length, min, codes, bit_or, bit_and, if◌then◌else◌, ◌%◌, nat_lt, nat_le}
use Rattle.std.specs.declared.time.Duration.{Duration}
use Rattle.vfs_wire.specs.declared.attributes.Attr.{Attr}
use Rattle.vfs_wire.specs.declared.attributes.SetattrIn.{SetattrIn}
use Rattle.vfs_files.specs.declared.entry.Entry.{Entry}
use Rattle.fs_nodes.specs.Contents.{Contents, no_contents, resized, written}
use Rattle.fs_nodes.specs.Children.{kind_bits, is_directory, is_file, is_link, no_children, directories_of}
use Rattle.fs_nodes.specs.Xattrs.{xattr_bytes, without_xattr}
use Rattle.fs_nodes.specs.declared.kind.Kind.{Kind}
use Rattle.fs_nodes.specs.declared.kind.Kind.TheVariants as kind
use Rattle.fs_nodes.specs.declared.node.Node.{Node}
use Rattle.fs_nodes.specs.declared.node.Time.{Time}

-- the number of a device, and 0 of what is none
abbrev pub device_of : Kind → ℕ
device_of (kind.Character device) = device
device_of (kind.Block device) = device
device_of _ = 0

-- what MKNOD makes by these bits: a file if they say nothing, and no directory or link
abbrev pub kind_by_mode : (mode device : ℕ) → Option Kind
kind_by_mode mode device =
    let bits = bit_and mode 0o170000 in
    find (λ kind. bits == 0 || kind_bits kind == bits)
    (kind.File ∷ kind.Fifo ∷ kind.Socket ∷ kind.Character device ∷ kind.Block device ∷ [])

-- how many links a node shows: as many as names lead to it, and of a directory that has a name two and
-- one for each directory in it, as far as the field goes
abbrev pub nlink_of : Node → ℕ
nlink_of node =
    if is_directory node.kind && not (node.names == 0)
    then min (directories_of node.children.links + 2) (2 ^ 32 - 1) else node.names

-- its attributes; its bytes are those of its text, or of its contents, which a file alone has; a page that is
-- held has 8 blocks
abbrev pub attr_of : (number : ℕ) → Node → Attr
attr_of number node = record {
  ino = number;
  size = if is_link node.kind then length node.text else length node.contents.bytes;
  blocks = length node.contents.held * 8;
  atime = node.atime.seconds;
  mtime = node.mtime.seconds;
  ctime = node.ctime.seconds;
  atimensec = node.atime.nanoseconds;
  mtimensec = node.mtime.nanoseconds;
  ctimensec = node.ctime.nanoseconds;
  mode = bit_or (kind_bits node.kind) (bit_and node.permissions 0o7777);
  nlink = nlink_of node;
  uid = node.uid;
  gid = node.gid;
  rdev = device_of node.kind;
  blksize = 4096;
  flags = 0;
}

-- whether a node is a file that may lose set-user-ID or set-group-ID
abbrev pub may_lose : Node → Bool
may_lose node = is_file node.kind && not (bit_and node.permissions 0o6000 == 0)

-- how long a client may rely on its attributes: a day, since nobody else changes them, and no time on those of
-- a file that may lose these bits: an OPEN takes them, and tells none
abbrev pub lasting : Node → Duration
lasting node = record { secs = if may_lose node then 0 else 86400; nanos = 0 }

-- its entry, for a day
abbrev pub entry_of : (number : ℕ) → Node → Entry
entry_of number node = record {
  inode = number;
  generation = 0;
  attr = attr_of number node;
  attr_timeout = lasting node;
  entry_timeout = record { secs = 86400; nanos = 0 };
}

-- how many bytes of the file system's it takes: those of the pages that are held, of its text and its
-- extended attributes
abbrev pub weight : Node → ℕ
weight node = length node.contents.held * 4096 + length node.text + xattr_bytes node.xattrs

-- ---- what a node becomes

-- a new node of this owner: of one name, held by one lookup, and made now
abbrev pub new_node : (now : Time) → (uid gid : ℕ) → Kind → (permissions parent : ℕ) → (text : List ℕ) → Node
new_node now uid gid kind permissions parent text = record {
  kind = kind;
  permissions = permissions;
  uid = uid;
  gid = gid;
  atime = now;
  mtime = now;
  ctime = now;
  btime = now;
  parent = parent;
  children = no_children;
  contents = no_contents;
  text = text;
  xattrs = [];
  names = 1;
  is_linkable = false;
  lookups = 1;
}

-- ---- privileges: what a program has of the file that it is run from

-- permission bits without set-user-ID, and without set-group-ID where the group may run it
abbrev pub without_set_ids : (permissions : ℕ) → ℕ
without_set_ids permissions = bit_and permissions (if bit_and permissions 0o10 == 0o10 then 0o1777 else 0o3777)

-- a node without its privileges, as far as they go: its capabilities, and its set-user-ID and set-group-ID
abbrev pub stripped : (caps ids : Bool) → Node → Node
stripped caps ids node = record node {
  permissions = if ids then without_set_ids node.permissions else node.permissions;
  xattrs = if caps then without_xattr node.xattrs (codes "security.capability") else node.xattrs;
}

-- a file with other contents, changed now, without its privileges as far as they go
abbrev pub rewritten : (now : Time) → (caps ids : Bool) → Node → Contents → Node
rewritten now caps ids node contents =
    record (stripped caps ids node) { contents = contents; mtime = now; ctime = now }

-- ---- SETATTR

-- the value that a request gives, where its bit is set, or else the old one
abbrev pub picked : {A : Type 0} → (valid bit : ℕ) → A → A → A
picked valid bit new old = if bit_and valid bit == bit then new else old

-- whether a request sets the size that a file has, which holds no page, and not of a file that is open
abbrev pub is_idle : Node → SetattrIn → (is_open : Bool) → (valid : ℕ) → Bool
is_idle node attr is_open valid = bit_and valid 0x8 == 0x8 && not is_open
    && attr.size == length node.contents.bytes && length node.contents.held == 0

-- whether a request is a chown: it gives an owner or a group; or it sets no attribute, which Linux sends for
-- a chown of neither, and before a FALLOCATE by one who is not to leave set-user-ID and set-group-ID
abbrev pub is_chown : (valid : ℕ) → Bool
is_chown valid = not (bit_and valid 0x6 == 0) || bit_and valid 0x1bf == 0

-- whether set-user-ID and set-group-ID go: of what is no directory, by a chown, and where it is asked
abbrev pub takes_ids : Kind → (valid : ℕ) → Bool
takes_ids kind valid = not (is_directory kind) && (is_chown valid || bit_and valid 0x800 == 0x800)

-- a node with the attributes that a request sets; its change is now, unless the request says when or is idle.
-- With another size its capabilities go too
abbrev pub set_attr : (now : Time) → Node → SetattrIn → (is_open : Bool) → (valid : ℕ) → Node
set_attr now node attr is_open valid =
    let ids = takes_ids node.kind valid in
    stripped (ids || bit_and valid 0x8 == 0x8) ids (record node {
      contents = picked valid 0x8 (resized node.contents attr.size) node.contents;
      permissions = picked valid 0x1 attr.mode node.permissions;
      uid = picked valid 0x2 attr.uid node.uid;
      gid = picked valid 0x4 attr.gid node.gid;
      atime = picked valid 0x80 now
          (picked valid 0x10 (record { seconds = attr.atime; nanoseconds = attr.atimensec }) node.atime);
      mtime = picked valid 0x100 now
          (picked valid 0x20 (record { seconds = attr.mtime; nanoseconds = attr.mtimensec })
          (if is_idle node attr is_open valid then node.mtime else picked valid 0x8 now node.mtime));
      ctime = picked valid 0x400 (record { seconds = attr.ctime; nanoseconds = attr.ctimensec })
          (if is_idle node attr is_open valid then node.ctime else now);
    })

-- ---- READ, READLINK, READDIR

-- the seconds of a time in order: those from 2 ^ 63 on are before 1970, as Linux takes them
abbrev pub ordered_seconds : Time → ℕ
ordered_seconds time = (time.seconds + 2 ^ 63) % 2 ^ 64

-- whether a time is no later than another
abbrev pub is_no_later : (time other : Time) → Bool
is_no_later time other =
    nat_lt (ordered_seconds time) (ordered_seconds other)
    || ordered_seconds time == ordered_seconds other && nat_le time.nanoseconds other.nanoseconds

-- a node that was read now, by Linux's relatime: its time of access moves if that is no later than its last
-- change, or a day ago
abbrev pub accessed : (now : Time) → Node → Node
accessed now node = record node {
  atime = if is_no_later node.atime node.mtime || is_no_later node.atime node.ctime
      || nat_le 86400 (ordered_seconds now - ordered_seconds node.atime)
      then now else node.atime;
}

-- ---- OPEN, WRITE

-- whether O_TRUNC is among the flags of an OPEN, and the node has bytes to be taken
abbrev pub truncates : Node → (flags : ℕ) → Bool
truncates node flags = bit_and flags 0o1000 == 0o1000 && is_file node.kind

-- whether it is told who asks, and that is another user than 0. Linux tells it of few requests, from 6.12 on
abbrev pub is_other : (uid : ℕ) → Bool
is_other uid = not (uid == 0 || uid == 2 ^ 32 - 1)

-- a node as it is after this user opened it: O_TRUNC takes the bytes of a file, and its privileges;
-- set-user-ID and set-group-ID by another user than 0, and where the request says so
abbrev pub opened : (now : Time) → (uid : ℕ) → (kill : Bool) → Node → (flags : ℕ) → Node
opened now uid kill node flags =
    if truncates node flags
    then rewritten now true (kill || is_other uid) node (resized node.contents 0) else node

-- a file with bytes written over its own from off on; it has not changed where there are none. Capabilities go,
-- but by a delayed write: the client kept its bytes, and saw to them when it got these
abbrev pub overwritten : (now : Time) → (delayed kill : Bool) → Node → (off : ℕ) → List ℕ → Node
overwritten now delayed kill node off [] = node
overwritten now delayed kill node off (b ∷ bs) =
    rewritten now (not delayed) kill node (written node.contents off (b ∷ bs))
