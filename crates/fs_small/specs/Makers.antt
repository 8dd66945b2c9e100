-- Attributes, entries and items, most of whose numbers are 0.
use Rattle.std.specs.Prelude.{◌≡◌, ℕ, List}
use Rattle.std.specs.Duration.{as_nanos}
use Rattle.std.specs.declared.time.Duration.{Duration}
use Rattle.vfs_wire.specs.declared.attributes.Attr.{Attr}
use Rattle.vfs_files.specs.declared.entry.Entry.{Entry}
use Rattle.fs_small.specs.Tables.{Named}

-- the attributes of a node of this kind and permissions, with that many names and bytes
abbrev pub attr_of : (node mode nlink size : ℕ) → Attr
attr_of node mode nlink size =
    record {
      ino = node;
      size = size;
      blocks = 0;
      atime = 0;
      mtime = 0;
      ctime = 0;
      atimensec = 0;
      mtimensec = 0;
      ctimensec = 0;
      mode = mode;
      nlink = nlink;
      uid = 0;
      gid = 0;
      rdev = 0;
      blksize = 4096;
      flags = 0;
    }

-- the attributes of a directory that all may read and search, with that many names
abbrev pub directory_attr : (node nlink : ℕ) → Attr
directory_attr node nlink = attr_of node 0o40555 nlink 0

-- the attributes of a file of that many bytes that all may read, with one name
abbrev pub file_attr : (node size : ℕ) → Attr
file_attr node size = attr_of node 0o100444 1 size

-- one second
abbrev pub IsSecond : Duration → Type 0
IsSecond time = as_nanos time ≡ 1_000_000_000

-- the entry of this node, with these attributes
pub record IsEntryOf (node : ℕ) (attr : Attr) (entry : Entry) : Type 0 where
  pub inode : entry.inode ≡ node
  pub generation : entry.generation ≡ 0
  pub attr_is : entry.attr ≡ attr
  pub attr_timeout : IsSecond entry.attr_timeout
  pub entry_timeout : IsSecond entry.entry_timeout

-- a directory of this name
abbrev pub directory_item : (node : ℕ) (name : List ℕ) → Named
directory_item node name = record { node = node; kind = 4; name = name }

-- a file of this name
abbrev pub file_item : (node : ℕ) (name : List ℕ) → Named
file_item node name = record { node = node; kind = 8; name = name }
