-- A call as data: which numbers each call has. Names and values are shown by their lengths alone; where they
-- are in the request is told by the request's form. `tests/c/data.py` compiles `nothing` and `setattr_of` against
-- `nizwarf.h`.
use Rattle.std.specs.Prelude.{ℕ, pos, ◌+◌, List, Bool, true, false, length, Option, Some, None, unwrap_or}
use Rattle.vfs_flags.specs.Numbers.{eio}
use Rattle.vfs_wire.specs.declared.attributes.SetattrIn.{SetattrIn}
use Rattle.vfs_files.specs.Calls.{Call, Kind, Quiet, kind_of, Answer, Done, Failed}
use Rattle.vfs_files.specs.Calls as call
use Rattle.vfs_files.specs.Values.{ExtensionValues}
use Rattle.vfs_files.specs.declared.entry.Context.{Context}
use Rattle.codec_calls.specs.declared.call.Range.{Range}
use Rattle.codec_calls.specs.declared.call.SetattrData.{SetattrData}
use Rattle.codec_calls.specs.declared.call.CallData.{CallData}
use Rattle.codec_calls.specs.declared.call.number.TheConstants as number
use Rattle.codec_calls.specs.declared.call.kind.TheConstants as kind
use Rattle.codec_calls.specs.declared.call.has.TheConstants as has

abbrev pub no_range : Range
no_range = record { at = 0; len = 0 }

abbrev pub no_setattr : SetattrData
no_setattr = record {
  valid = 0;
  padding = 0;
  fh = 0;
  size = 0;
  lock_owner = 0;
  atime = 0;
  mtime = 0;
  ctime = 0;
  atimensec = 0;
  mtimensec = 0;
  ctimensec = 0;
  mode = 0;
  unused4 = 0;
  uid = 0;
  gid = 0;
  unused5 = 0;
}

abbrev pub nothing : CallData
nothing = record {
  unique = 0;
  options = 0;
  room = 0;
  node = 0;
  handle = 0;
  offset = 0;
  length = 0;
  lock_owner = 0;
  other_node = 0;
  other_handle = 0;
  other_offset = 0;
  name = no_range;
  other_name = no_range;
  «data» = no_range;
  context_name = no_range;
  context = no_range;
  attr = no_setattr;
  call = 0;
  answer = 0;
  has = 0;
  uid = 0;
  gid = 0;
  pid = pos 0;
  flags = 0;
  mode = 0;
  umask = 0;
  rdev = 0;
  size = 0;
  more = 0;
  group = 0;
  readahead = 0;
}

-- the record of a SETATTR
abbrev pub setattr_of : SetattrIn → SetattrData
setattr_of r = record {
  valid = r.valid;
  padding = r.padding;
  fh = r.fh;
  size = r.size;
  lock_owner = r.lock_owner;
  atime = r.atime;
  mtime = r.mtime;
  ctime = r.ctime;
  atimensec = r.atimensec;
  mtimensec = r.mtimensec;
  ctimensec = r.ctimensec;
  mode = r.mode;
  unused4 = r.unused4;
  uid = r.uid;
  gid = r.gid;
  unused5 = r.unused5;
}

-- a bit, where it is set
abbrev pub bit : Bool → (bit : ℕ) → ℕ
bit true b = b
bit false b = 0

-- ---- no more is of the promise: the rest is for contracts of parts

-- bytes of this length, wherever they are
abbrev pub unplaced : List ℕ → Range
unplaced bytes = record { at = 0; len = length bytes }

-- a record of this call and this kind of answer
abbrev pub asks : (number kind : ℕ) → CallData → CallData
asks number kind c = record c { call = number; answer = kind }

-- made by this caller
abbrev pub made_by : Context → CallData → CallData
made_by ctx c = record c { uid = ctx.uid; gid = ctx.gid; pid = ctx.pid }

-- a bit, where there is a number
abbrev pub bit_of : Option ℕ → (bit : ℕ) → ℕ
bit_of None b = 0
bit_of (Some n) b = b

-- the lengths of a context, and its bit
abbrev pub context_name_of : Option (List ℕ × List ℕ) → Range
context_name_of None = no_range
context_name_of (Some context) = unplaced context.0

abbrev pub context_value_of : Option (List ℕ × List ℕ) → Range
context_value_of None = no_range
context_value_of (Some context) = unplaced context.1

abbrev pub context_bit : Option (List ℕ × List ℕ) → ℕ
context_bit None = 0
context_bit (Some context) = has.CONTEXT

-- with these extensions
abbrev pub extended : ExtensionValues → CallData → CallData
extended ext c = record c {
  context_name = context_name_of ext.context;
  context = context_value_of ext.context;
  group = unwrap_or ext.group 0;
  has = c.has + (context_bit ext.context + bit_of ext.group has.GROUP);
}

-- a record with the numbers of each call
abbrev pub shape_over : CallData → Call → CallData
shape_over c (call.Lookup ctx parent name) =
    record (made_by ctx (asks number.LOOKUP kind.ENTRY c)) { node = parent; name = unplaced name }
shape_over c (call.Forget ctx inode count) =
    record (made_by ctx (asks number.FORGET kind.NONE c)) { node = inode; length = count }
shape_over c (call.Getattr ctx inode handle) =
    record (made_by ctx (asks number.GETATTR kind.ATTR c)) {
      node = inode;
      handle = unwrap_or handle 0;
      has = bit_of handle has.HANDLE;
    }
shape_over c (call.Setattr ctx inode attr handle valid) =
    record (made_by ctx (asks number.SETATTR kind.ATTR c)) {
      node = inode;
      attr = setattr_of attr;
      handle = unwrap_or handle 0;
      has = bit_of handle has.HANDLE;
      flags = valid;
    }
shape_over c (call.Readlink ctx inode) = record (made_by ctx (asks number.READLINK kind.BYTES c)) {
  node = inode;
}
shape_over c (call.Symlink ctx linkname parent name ext) =
    extended ext (record (made_by ctx (asks number.SYMLINK kind.ENTRY c)) {
      node = parent;
      name = unplaced name;
      other_name = unplaced linkname;
      has = 0;
    })
shape_over c (call.Mknod ctx inode name mode rdev umask ext) =
    extended ext (record (made_by ctx (asks number.MKNOD kind.ENTRY c)) {
      node = inode;
      name = unplaced name;
      mode = mode;
      rdev = rdev;
      umask = umask;
      has = 0;
    })
shape_over c (call.Mkdir ctx parent name mode umask ext) =
    extended ext (record (made_by ctx (asks number.MKDIR kind.ENTRY c)) {
      node = parent;
      name = unplaced name;
      mode = mode;
      umask = umask;
      has = 0;
    })
shape_over c (call.Unlink ctx parent name) =
    record (made_by ctx (asks number.UNLINK kind.STATUS c)) { node = parent; name = unplaced name }
shape_over c (call.Rmdir ctx parent name) =
    record (made_by ctx (asks number.RMDIR kind.STATUS c)) { node = parent; name = unplaced name }
shape_over c (call.Rename ctx olddir oldname newdir newname flags) =
    record (made_by ctx (asks number.RENAME kind.STATUS c)) {
      node = olddir;
      name = unplaced oldname;
      other_node = newdir;
      other_name = unplaced newname;
      flags = flags;
    }
shape_over c (call.Link ctx inode newparent newname) =
    record (made_by ctx (asks number.LINK kind.ENTRY c)) {
      node = inode;
      other_node = newparent;
      name = unplaced newname;
    }
shape_over c (call.Open ctx inode kill_priv flags) =
    record (made_by ctx (asks number.OPEN kind.OPEN c)) {
      node = inode;
      has = bit kill_priv has.KILL_SUIDGID;
      flags = flags;
    }
shape_over c (call.Read ctx inode handle room size offset lock_owner flags) =
    record (made_by ctx (asks number.READ kind.DATA c)) {
      node = inode;
      handle = handle;
      size = size;
      offset = offset;
      lock_owner = unwrap_or lock_owner 0;
      has = bit_of lock_owner has.OWNER;
      flags = flags;
    }
shape_over c (call.Write ctx inode handle bytes size offset lock_owner delayed kill_priv flags) =
    record (made_by ctx (asks number.WRITE kind.COUNT c)) {
      node = inode;
      handle = handle;
      size = size;
      offset = offset;
      lock_owner = unwrap_or lock_owner 0;
      has = bit_of lock_owner has.OWNER + (bit delayed has.WRITE_CACHE + bit kill_priv has.KILL_SUIDGID);
      flags = flags;
    }
shape_over c (call.Statfs ctx inode) = record (made_by ctx (asks number.STATFS kind.STATFS c)) {
  node = inode;
}
shape_over c (call.Release ctx inode flags handle flush flock_release lock_owner) =
    record (made_by ctx (asks number.RELEASE kind.STATUS c)) {
      node = inode;
      flags = flags;
      handle = handle;
      lock_owner = unwrap_or lock_owner 0;
      has = bit_of lock_owner has.OWNER + (bit flush has.RELEASE_FLUSH + bit flock_release has.RELEASE_FLOCK_UNLOCK);
    }
shape_over c (call.Fsync ctx inode datasync handle) =
    record (made_by ctx (asks number.FSYNC kind.STATUS c)) {
      node = inode;
      has = bit datasync has.FSYNC_FDATASYNC;
      handle = handle;
    }
shape_over c (call.Setxattr ctx inode name value flags extra) =
    record (made_by ctx (asks number.SETXATTR kind.STATUS c)) {
      node = inode;
      name = unplaced name;
      «data» = unplaced value;
      flags = flags;
      more = extra;
    }
shape_over c (call.Getxattr ctx inode name size) =
    record (made_by ctx (asks number.GETXATTR kind.BYTES_OR_SIZE c)) {
      node = inode;
      name = unplaced name;
      size = size;
    }
shape_over c (call.Listxattr ctx inode size) =
    record (made_by ctx (asks number.LISTXATTR kind.BYTES_OR_SIZE c)) { node = inode; size = size }
shape_over c (call.Removexattr ctx inode name) =
    record (made_by ctx (asks number.REMOVEXATTR kind.STATUS c)) { node = inode; name = unplaced name }
shape_over c (call.Flush ctx inode handle lock_owner) =
    record (made_by ctx (asks number.FLUSH kind.STATUS c)) {
      node = inode;
      handle = handle;
      lock_owner = lock_owner;
    }
shape_over c (call.Init capable) = record (asks number.INIT kind.INIT c) { length = capable }
shape_over c (call.Opendir ctx inode flags) =
    record (made_by ctx (asks number.OPENDIR kind.OPEN c)) { node = inode; flags = flags }
shape_over c (call.Readdir ctx inode handle size offset) =
    record (made_by ctx (asks number.READDIR kind.DIRECTORY c)) {
      node = inode;
      handle = handle;
      size = size;
      offset = offset;
    }
shape_over c (call.Releasedir ctx inode flags handle) =
    record (made_by ctx (asks number.RELEASEDIR kind.STATUS c)) { node = inode; flags = flags; handle = handle }
shape_over c (call.Fsyncdir ctx inode datasync handle) =
    record (made_by ctx (asks number.FSYNCDIR kind.STATUS c)) {
      node = inode;
      has = bit datasync has.FSYNC_FDATASYNC;
      handle = handle;
    }
shape_over c call.Getlk = asks number.GETLK kind.ERROR_OR_NONE c
shape_over c call.Setlk = asks number.SETLK kind.ERROR_OR_NONE c
shape_over c call.Setlkw = asks number.SETLKW kind.ERROR_OR_NONE c
shape_over c (call.Access ctx inode mask) =
    record (made_by ctx (asks number.ACCESS kind.STATUS c)) { node = inode; more = mask }
shape_over c (call.Create ctx parent name mode kill_priv flags umask ext) =
    extended ext (record (made_by ctx (asks number.CREATE kind.CREATE c)) {
      node = parent;
      name = unplaced name;
      mode = mode;
      has = bit kill_priv has.KILL_SUIDGID;
      flags = flags;
      umask = umask;
    })
shape_over c call.Bmap = asks number.BMAP kind.ERROR_OR_NONE c
shape_over c call.Destroy = asks number.DESTROY kind.NONE c
shape_over c call.Ioctl = asks number.IOCTL kind.ERROR_OR_NONE c
shape_over c call.Poll = asks number.POLL kind.ERROR_OR_NONE c
shape_over c call.NotifyReply = asks number.NOTIFY_REPLY kind.ERROR_OR_NONE c
shape_over c (call.BatchForget ctx requests) =
    record (made_by ctx (asks number.BATCH_FORGET kind.NONE c)) { length = length requests }
shape_over c (call.Fallocate ctx inode handle mode offset length) =
    record (made_by ctx (asks number.FALLOCATE kind.STATUS c)) {
      node = inode;
      handle = handle;
      mode = mode;
      offset = offset;
      length = length;
    }
shape_over c (call.Lseek ctx inode handle offset whence) =
    record (made_by ctx (asks number.LSEEK kind.OFFSET c)) {
      node = inode;
      handle = handle;
      offset = offset;
      more = whence;
    }
shape_over c (call.Copyfilerange ctx inode_in handle_in offset_in inode_out handle_out offset_out len flags) =
    record (made_by ctx (asks number.COPY kind.COUNT c)) {
      node = inode_in;
      handle = handle_in;
      offset = offset_in;
      other_node = inode_out;
      other_handle = handle_out;
      other_offset = offset_out;
      length = len;
      lock_owner = flags;
    }
shape_over c (call.Syncfs ctx inode) = record (made_by ctx (asks number.SYNCFS kind.STATUS c)) { node = inode }
shape_over c call.Tmpfile = asks number.TMPFILE kind.ERROR c

-- the numbers of each call, and nothing else
abbrev pub shape_of : Call → CallData
shape_of call = shape_over nothing call

-- what is handed back while a call is only noted: nothing, of those that answer nothing, and else EIO
abbrev pub held_back_kind : Kind → Answer
held_back_kind Quiet = Done
held_back_kind _ = Failed (Some eio)

abbrev pub held_back : Call → Answer
held_back call = held_back_kind (kind_of call)
