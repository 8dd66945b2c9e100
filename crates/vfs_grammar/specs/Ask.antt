-- What a request asks, by its bytes, the limits, the options and the room's length: the table of the protocol,
-- `form_of`, which leads to `ask`, the last definition. `call` is Calls, and the opcodes have their names in `fuse.h`.
use Rattle.std.specs.Prelude.{ℕ, [], ◌∷◌, slice_index, ◌+◌, ◌*◌, ◌||◌, true, false, bit_and, bit_or, Bool, List, drop, nat_lt, if◌then◌else◌, Option, Some, None}
use Rattle.vfs_flags.specs.Numbers.{enosys, opcode_of}
use Rattle.vfs_flags.specs.Flags.{known_setattr_valid, known_setxattr_flags, setxattr_ext, has_flag}
use Rattle.vfs_flags.specs.declared.constants.TheConstants.{FATTR_FH, GETATTR_FH, FSYNC_FDATASYNC, OPEN_KILL_SUIDGID, READ_LOCKOWNER, RELEASE_FLUSH, RELEASE_FLOCK_UNLOCK, WRITE_CACHE, WRITE_KILL_PRIV, WRITE_LOCKOWNER, RENAME_FLAGS}
use Rattle.vfs_flags.specs.declared.opcode.Opcode.{Opcode}
use Rattle.vfs_flags.specs.declared.opcode.Opcode.TheVariants.{Lookup, Forget, Getattr, Setattr, Readlink, Symlink, Mknod, Mkdir, Unlink, Rmdir, Rename, Link, Open, Read, Write, Statfs, Release, Fsync, Setxattr, Getxattr, Listxattr, Removexattr, Flush, Init, Opendir, Readdir, Releasedir, Fsyncdir, Getlk, Setlk, Setlkw, Access, Create, Interrupt, Bmap, Destroy, Ioctl, Poll, NotifyReply, BatchForget, Fallocate, Readdirplus, Rename2, Lseek, CopyFileRange, SetupMapping, RemoveMapping, Syncfs, TmpFile}
use Rattle.vfs_wire.specs.Fields.{table}
use Rattle.vfs_wire.specs.Records.{in_header, getattr_in, setattr_in, forget_in, forget_one, batch_forget_in}
use Rattle.vfs_wire_more.specs.Records.{open_in, release_in, flush_in, fsync_in, read_in, write_in, access_in, create_in, link_in, mkdir_in, mknod_in, rename_in, rename2_in, lseek_in, copyfilerange_in, fallocate_in, getxattr_in, setxattr_in}
use Rattle.vfs_wire_more.specs.declared.files.ReadIn.{ReadIn}
use Rattle.vfs_wire.specs.declared.headers.InHeader.{InHeader}
use Rattle.vfs_wire_more.specs.declared.xattrs.SetxattrIn.{SetxattrIn}
use Rattle.vfs_files.specs.Values.{context_of}
use Rattle.vfs_files.specs.declared.entry.Context.{Context}
use Rattle.vfs_grammar.specs.Records.{size_of, record_of}
use Rattle.vfs_grammar.specs.Listing.{Listing}
use Rattle.vfs_grammar.specs.Forms.{Ask, refused_or, faulted, within, Layout, no_record, Record, never, Form, NoTail, NameTail, TwoNames, NameAndValue, NameAndExtensions, LinkAndExtensions, Pairs, WithRest, IntoRoom, Directories, Versions, Silent, NotServed, ask_form}
use Rattle.vfs_grammar.specs.declared.limits.Limits.{Limits}
use Rattle.vfs_files.specs.Calls.{Call}
use Rattle.vfs_files.specs.Calls as call

-- a number is passed where a word of flags has one of these flags
abbrev pub if_set : (flags flag n : ℕ) → Option ℕ
if_set flags flag n = if has_flag flags flag then Some n else None

-- SETXATTR's record by the agreed options: where SETXATTR_EXT isn't among them, 8 bytes without
-- further flags
abbrev pub setxattr_layout : (options : ℕ) → Layout SetxattrIn
setxattr_layout options =
    if has_flag options setxattr_ext then Record setxattr_in
    else Record (table (4 ∷ 4 ∷ []) (λ r. r.size ∷ r.flags ∷ []) (λ xs.
    record { size = slice_index xs 0; flags = slice_index xs 1; setxattr_flags = 0; padding = 0 }))

-- whether a directory is asked for more bytes than the limit, or than the whole room has, its
-- header counted
abbrev pub lists_too_much : Limits → (room_len : ℕ) → ReadIn → Bool
lists_too_much limits room_len r = nat_lt limits.max_buffer r.size || nat_lt room_len r.size

-- the directory that is read, with entries where `plus`
abbrev pub listing_of : (plus : Bool) → InHeader → ReadIn → (space_for_records : ℕ) → Listing
listing_of plus h r space_for_records = record {
  plus = plus;
  ctx = context_of h;
  parent = h.nodeid;
  handle = r.fh;
  size = r.size;
  offset = r.offset;
  space = space_for_records;
}

-- a row without a record: nothing comes after the header, or a name alone
abbrev pub bare : Call → Form
bare asked = NoTail no_record never (λ r. asked)

abbrev pub named : (List ℕ → Call) → Form
named asked = NameTail no_record never (λ r name. asked name)

module _ (limits : Limits) (options room_len : ℕ) (h : InHeader) where
  -- the caller that the header names
  abbrev pub caller : Context
  caller = context_of h

  -- The table of the protocol: a row for each opcode, by the limits, the agreed options, the length
  -- of the room, and the header. A call names the caller and the header's node. But BATCH_FORGET
  -- names the caller alone; INIT, DESTROY and the eight without arguments name neither; LINK's node
  -- is its record's, and its new parent the header's.
  abbrev pub form_of : Opcode → Form
  form_of Lookup = named (call.Lookup caller h.nodeid)
  form_of Forget = NoTail (Record forget_in) never (λ r. call.Forget caller h.nodeid r.nlookup)
  form_of Getattr = NoTail (Record getattr_in) never (λ r.
      call.Getattr caller h.nodeid (if_set r.flags GETATTR_FH r.fh))
  form_of Setattr = NoTail (Record setattr_in) never (λ r.
      call.Setattr caller h.nodeid r (if_set r.valid FATTR_FH r.fh)
      (bit_and r.valid known_setattr_valid))
  form_of Readlink = bare (call.Readlink caller h.nodeid)
  form_of Symlink = LinkAndExtensions no_record options (λ r name text ext.
      call.Symlink caller text h.nodeid name ext)
  form_of Mknod = NameAndExtensions (Record mknod_in) options (λ r name ext.
      call.Mknod caller h.nodeid name r.mode r.rdev r.umask ext)
  form_of Mkdir = NameAndExtensions (Record mkdir_in) options (λ r name ext.
      call.Mkdir caller h.nodeid name r.mode r.umask ext)
  form_of Unlink = named (call.Unlink caller h.nodeid)
  form_of Rmdir = named (call.Rmdir caller h.nodeid)
  form_of Rename = TwoNames (Record rename_in) (λ r old new.
      call.Rename caller h.nodeid old r.newdir new 0)
  form_of Link = NameTail (Record link_in) never (λ r name.
      call.Link caller r.oldnodeid h.nodeid name)
  form_of Open = NoTail (Record open_in) never (λ r.
      call.Open caller h.nodeid (has_flag r.open_flags OPEN_KILL_SUIDGID) r.flags)
  form_of Read = IntoRoom (Record read_in) room_len (λ r space_for_data.
      call.Read caller h.nodeid r.fh space_for_data r.size r.offset
      (if_set r.read_flags READ_LOCKOWNER r.lock_owner) r.flags)
  form_of Write = WithRest (Record write_in) (λ r rest.
      call.Write caller h.nodeid r.fh rest r.size r.offset
      (if_set r.write_flags WRITE_LOCKOWNER r.lock_owner) (has_flag r.write_flags WRITE_CACHE)
      (has_flag r.write_flags WRITE_KILL_PRIV) r.flags)
  form_of Statfs = bare (call.Statfs caller h.nodeid)
  form_of Release = NoTail (Record release_in) never (λ r.
      call.Release caller h.nodeid r.flags r.fh (has_flag r.release_flags RELEASE_FLUSH)
      (has_flag r.release_flags RELEASE_FLOCK_UNLOCK)
      (if_set r.release_flags (bit_or RELEASE_FLUSH RELEASE_FLOCK_UNLOCK) r.lock_owner))
  form_of Fsync = NoTail (Record fsync_in) never (λ r.
      call.Fsync caller h.nodeid (has_flag r.fsync_flags FSYNC_FDATASYNC) r.fh)
  form_of Setxattr = NameAndValue (setxattr_layout options) (λ r. r.size) (λ r name value.
      call.Setxattr caller h.nodeid name value r.flags
      (bit_and r.setxattr_flags known_setxattr_flags))
  form_of Getxattr = NameTail (Record getxattr_in) (λ r. nat_lt limits.max_buffer r.size) (λ r name.
      call.Getxattr caller h.nodeid name r.size)
  form_of Listxattr = NoTail (Record getxattr_in) (λ r. nat_lt limits.max_buffer r.size) (λ r.
      call.Listxattr caller h.nodeid r.size)
  form_of Removexattr = named (call.Removexattr caller h.nodeid)
  form_of Flush = NoTail (Record flush_in) never (λ r. call.Flush caller h.nodeid r.fh r.lock_owner)
  form_of Init = Versions
  form_of Opendir = NoTail (Record open_in) never (λ r. call.Opendir caller h.nodeid r.flags)
  form_of Readdir = Directories (Record read_in) (lists_too_much limits room_len) room_len
      (listing_of false h)
  form_of Releasedir = NoTail (Record release_in) never (λ r.
      call.Releasedir caller h.nodeid r.flags r.fh)
  form_of Fsyncdir = NoTail (Record fsync_in) never (λ r.
      call.Fsyncdir caller h.nodeid (has_flag r.fsync_flags FSYNC_FDATASYNC) r.fh)
  form_of Getlk = bare call.Getlk
  form_of Setlk = bare call.Setlk
  form_of Setlkw = bare call.Setlkw
  form_of Access = NoTail (Record access_in) never (λ r. call.Access caller h.nodeid r.mask)
  form_of Create = NameAndExtensions (Record create_in) options (λ r name ext.
      call.Create caller h.nodeid name r.mode (has_flag r.open_flags OPEN_KILL_SUIDGID) r.flags
      r.umask ext)
  form_of Interrupt = Silent
  form_of Bmap = bare call.Bmap
  form_of Destroy = bare call.Destroy
  form_of Ioctl = bare call.Ioctl
  form_of Poll = bare call.Poll
  form_of NotifyReply = bare call.NotifyReply
  form_of BatchForget = Pairs (Record batch_forget_in)
      (λ r. nat_lt limits.max_buffer (r.count * size_of forget_one)) (λ r. r.count) (λ r pairs.
      call.BatchForget caller pairs)
  form_of Fallocate = NoTail (Record fallocate_in) never (λ r.
      call.Fallocate caller h.nodeid r.fh r.mode r.offset r.length)
  form_of Readdirplus = Directories (Record read_in) (lists_too_much limits room_len) room_len
      (listing_of true h)
  form_of Rename2 = TwoNames (Record rename2_in) (λ r old new.
      call.Rename caller h.nodeid old r.newdir new (bit_and r.flags RENAME_FLAGS))
  form_of Lseek = NoTail (Record lseek_in) never (λ r.
      call.Lseek caller h.nodeid r.fh r.offset r.whence)
  form_of CopyFileRange = NoTail (Record copyfilerange_in) never (λ r.
      call.Copyfilerange caller h.nodeid r.fh_in r.off_in r.nodeid_out r.fh_out r.off_out r.len
      r.flags)
  form_of SetupMapping = NotServed
  form_of RemoveMapping = NotServed
  form_of Syncfs = bare (call.Syncfs caller h.nodeid)
  form_of TmpFile = bare call.Tmpfile

module _ (limits : Limits) (options room_len : ℕ) where
  -- what the bytes after a header ask, by its opcode; a number that is none is ENOSYS
  abbrev pub ask_number : Option Opcode → InHeader → (rest : List ℕ) → Ask
  ask_number None h rest = faulted enosys h
  ask_number (Some opcode) h rest = ask_form h rest (form_of limits options room_len h opcode)

  -- What these bytes ask, under these limits and agreed options, with a room of this length: a `len` above
  -- the largest payload and the 4096 bytes that may come before it is ENOMEM, whatever the opcode.
  abbrev pub ask : (bytes : List ℕ) → Ask
  ask bytes = refused_or (record_of in_header bytes) (λ h.
      within (nat_lt (limits.max_buffer + 4096) h.len) h
      (ask_number (opcode_of h.opcode) h (drop (size_of in_header) bytes)))
