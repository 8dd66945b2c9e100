-- Which data tell which call of a request: a row for each call, as `form_of` has one for each opcode. `q` are the
-- bytes of the request, and `d` the data. ENTRY is the number of `Entries`, and so on: `kind_told` of codec_encode.
use Rattle.std.specs.Prelude.{◌≡◌, ◌+◌, ◌*◌, ◌==◌, ◌||◌, not, nat_lt, if◌then◌else◌, drop, ℕ, List, Bool, false, length, is_some, Option, Some, None, unwrap_or}
use Rattle.vfs_files.specs.Calls.{Call}
use Rattle.vfs_files.specs.Calls as call
use Rattle.vfs_files.specs.Values.{ExtensionValues}
use Rattle.vfs_files.specs.declared.entry.Context.{Context}
use Rattle.vfs_flags.specs.Numbers.{number_of}
use Rattle.vfs_flags.specs.declared.opcode.Opcode.TheVariants.{Interrupt}
use Rattle.vfs_wire.specs.Fields.{value_of}
use Rattle.vfs_wire.specs.Records.{in_header, forget_one}
use Rattle.vfs_wire_more.specs.Locks.{interrupt_in}
use Rattle.vfs_grammar.specs.Ask.{ask}
use Rattle.vfs_grammar.specs.Forms.{Ask, Ends, Asks, Lists, WithMemory}
use Rattle.vfs_grammar.specs.Records.{size_of}
use Rattle.vfs_grammar.specs.Reply.{Echo}
use Rattle.vfs_grammar.specs.declared.limits.Limits.{Limits}
use Rattle.codec_calls.specs.Shapes.{bit, no_range, nothing, setattr_of}
use Rattle.codec_calls.specs.declared.call.CallData.{CallData}
use Rattle.codec_calls.specs.declared.call.number.TheConstants.{LOOKUP, FORGET, GETATTR, SETATTR, READLINK, SYMLINK, MKNOD, MKDIR, UNLINK, RMDIR, RENAME, LINK, OPEN, READ, WRITE, STATFS, RELEASE, FSYNC, SETXATTR, GETXATTR, LISTXATTR, REMOVEXATTR, FLUSH, INIT, OPENDIR, READDIR, RELEASEDIR, FSYNCDIR, GETLK, SETLK, SETLKW, ACCESS, CREATE, BMAP, DESTROY, IOCTL, POLL, NOTIFY_REPLY, BATCH_FORGET, FALLOCATE, LSEEK, COPY, SYNCFS, TMPFILE}
use Rattle.codec_calls.specs.declared.call.kind.TheConstants as kind
use Rattle.codec_calls.specs.declared.call.has.TheConstants as has
use Rattle.codec_decode.specs.Asked.{IsNameIn, Stand, Spell}

-- what the data of any call have of its request
abbrev pub of_request : Echo → (d : CallData) → CallData
of_request echo d =
    record nothing { unique = echo.unique; readahead = echo.max_readahead; options = d.options; room = d.room }

-- The name and the value of a security context, where there is one, are in the request where the data say so; and else
-- both are { 0, 0 }.
abbrev pub TellsContext : (q : List ℕ) → (d : CallData) → Option (List ℕ × List ℕ) → Type 0
TellsContext q d None = (d.context_name ≡ no_range) × (d.context ≡ no_range)
TellsContext q d (Some context) =
    IsNameIn q d.context_name context.0 × Stand q d.context context.1

-- These data tell this call, where `c` is what `of_request` has of them: all their numbers are those of its row, and
-- its names and values are in the request where they say so. What it has not is { 0, 0 }.
module _ (q : List ℕ) (d c : CallData) where
  -- data of this call, which has this kind of answer; and of one by this caller, of this node
  abbrev pub numbered : (number kind : ℕ) → CallData
  numbered number kind = record c { call = number; answer = kind }

  abbrev pub by : (number kind : ℕ) → Context → (node : ℕ) → CallData
  by number kind ctx node =
      record (numbered number kind) { uid = ctx.uid; gid = ctx.gid; pid = ctx.pid; node = node }

  -- these data are `first` but for a name, which is this one where they say that it is
  abbrev pub Names : CallData → (name : List ℕ) → Type 0
  Names first name = (d ≡ record first { name = d.name }) × IsNameIn q d.name name

  -- the same of a call that makes a node, and of its extensions
  abbrev pub Makes : CallData → (kill_priv : Bool) → ExtensionValues → (name : List ℕ) → Type 0
  Makes first kill_priv ext name =
      Names (record first {
        context_name = d.context_name;
        context = d.context;
        group = unwrap_or ext.group 0;
        has = bit kill_priv has.KILL_SUIDGID + (bit (is_some ext.context) has.CONTEXT + bit (is_some ext.group) has.GROUP);
      }) name
      × TellsContext q d ext.context

  abbrev pub TellsByTable : Call → Type 0
  TellsByTable (call.Lookup ctx parent name) = Names (by LOOKUP kind.ENTRY ctx parent) name
  TellsByTable (call.Forget ctx inode count) = d ≡ record (by FORGET kind.NONE ctx inode) { length = count }
  TellsByTable (call.Getattr ctx inode handle) =
      d ≡ record (by GETATTR kind.ATTR ctx inode) { handle = unwrap_or handle 0; has = bit (is_some handle) has.HANDLE }
  TellsByTable (call.Setattr ctx inode attr handle valid) =
      d ≡ record (record (by SETATTR kind.ATTR ctx inode) { attr = setattr_of attr; flags = valid })
      { handle = unwrap_or handle 0; has = bit (is_some handle) has.HANDLE }
  TellsByTable (call.Readlink ctx inode) = d ≡ by READLINK kind.BYTES ctx inode
  TellsByTable (call.Symlink ctx text parent name ext) =
      Makes (record (by SYMLINK kind.ENTRY ctx parent) { other_name = d.other_name }) false ext name
      × IsNameIn q d.other_name text
  TellsByTable (call.Mknod ctx inode name mode rdev umask ext) =
      Makes (record (by MKNOD kind.ENTRY ctx inode) { mode = mode; rdev = rdev; umask = umask }) false ext name
  TellsByTable (call.Mkdir ctx parent name mode umask ext) =
      Makes (record (by MKDIR kind.ENTRY ctx parent) { mode = mode; umask = umask }) false ext name
  TellsByTable (call.Unlink ctx parent name) = Names (by UNLINK kind.STATUS ctx parent) name
  TellsByTable (call.Rmdir ctx parent name) = Names (by RMDIR kind.STATUS ctx parent) name
  TellsByTable (call.Rename ctx olddir oldname newdir newname flags) =
      Names (record (by RENAME kind.STATUS ctx olddir) { other_node = newdir; flags = flags; other_name = d.other_name }) oldname
      × IsNameIn q d.other_name newname
  TellsByTable (call.Link ctx inode newparent newname) =
      Names (record (by LINK kind.ENTRY ctx inode) { other_node = newparent }) newname
  TellsByTable (call.Open ctx inode kill_priv flags) =
      d ≡ record (by OPEN kind.OPEN ctx inode) { has = bit kill_priv has.KILL_SUIDGID; flags = flags }
  TellsByTable (call.Read ctx inode handle space size offset owner flags) =
      d ≡ record (record (by READ kind.DATA ctx inode) { handle = handle; size = size; offset = offset; flags = flags })
      { length = space; lock_owner = unwrap_or owner 0; has = bit (is_some owner) has.OWNER }
  TellsByTable (call.Write ctx inode handle bytes size offset owner delayed kill_priv flags) =
      (d ≡ record (record (record (by WRITE kind.COUNT ctx inode) { handle = handle; size = size; offset = offset })
      { «data» = d.data; flags = flags; lock_owner = unwrap_or owner 0 })
      { has = bit (is_some owner) has.OWNER + (bit delayed has.WRITE_CACHE + bit kill_priv has.KILL_SUIDGID) })
      × Stand q d.data bytes
  TellsByTable (call.Statfs ctx inode) = d ≡ by STATFS kind.STATFS ctx inode
  TellsByTable (call.Release ctx inode flags handle flush flock_release owner) =
      d ≡ record (record (by RELEASE kind.STATUS ctx inode) { handle = handle; flags = flags })
      { lock_owner = unwrap_or owner 0; has = bit (is_some owner) has.OWNER + (bit flush has.RELEASE_FLUSH + bit flock_release has.RELEASE_FLOCK_UNLOCK) }
  TellsByTable (call.Fsync ctx inode datasync handle) =
      d ≡ record (by FSYNC kind.STATUS ctx inode) { has = bit datasync has.FSYNC_FDATASYNC; handle = handle }
  TellsByTable (call.Setxattr ctx inode name value flags extra) =
      Names (record (by SETXATTR kind.STATUS ctx inode) { flags = flags; more = extra; «data» = d.data }) name
      × Stand q d.data value
  TellsByTable (call.Getxattr ctx inode name size) =
      Names (record (by GETXATTR kind.BYTES_OR_SIZE ctx inode) { size = size }) name
  TellsByTable (call.Listxattr ctx inode size) = d ≡ record (by LISTXATTR kind.BYTES_OR_SIZE ctx inode) { size = size }
  TellsByTable (call.Removexattr ctx inode name) = Names (by REMOVEXATTR kind.STATUS ctx inode) name
  TellsByTable (call.Flush ctx inode handle lock_owner) =
      d ≡ record (by FLUSH kind.STATUS ctx inode) { handle = handle; lock_owner = lock_owner }
  TellsByTable (call.Init capable) = d ≡ record (numbered INIT kind.INIT) { length = capable }
  TellsByTable (call.Opendir ctx inode flags) = d ≡ record (by OPENDIR kind.OPEN ctx inode) { flags = flags }
  TellsByTable (call.Readdir ctx inode handle size offset) =
      d ≡ record (by READDIR kind.DIRECTORY ctx inode) { handle = handle; size = size; offset = offset }
  TellsByTable (call.Releasedir ctx inode flags handle) =
      d ≡ record (by RELEASEDIR kind.STATUS ctx inode) { flags = flags; handle = handle }
  TellsByTable (call.Fsyncdir ctx inode datasync handle) =
      d ≡ record (by FSYNCDIR kind.STATUS ctx inode) { has = bit datasync has.FSYNC_FDATASYNC; handle = handle }
  TellsByTable call.Getlk = d ≡ numbered GETLK kind.ERROR_OR_NONE
  TellsByTable call.Setlk = d ≡ numbered SETLK kind.ERROR_OR_NONE
  TellsByTable call.Setlkw = d ≡ numbered SETLKW kind.ERROR_OR_NONE
  TellsByTable (call.Access ctx inode mask) = d ≡ record (by ACCESS kind.STATUS ctx inode) { more = mask }
  TellsByTable (call.Create ctx parent name mode kill_priv flags umask ext) =
      Makes (record (by CREATE kind.CREATE ctx parent) { mode = mode; flags = flags; umask = umask }) kill_priv ext name
  TellsByTable call.Bmap = d ≡ numbered BMAP kind.ERROR_OR_NONE
  TellsByTable call.Destroy = d ≡ numbered DESTROY kind.NONE
  TellsByTable call.Ioctl = d ≡ numbered IOCTL kind.ERROR_OR_NONE
  TellsByTable call.Poll = d ≡ numbered POLL kind.ERROR_OR_NONE
  TellsByTable call.NotifyReply = d ≡ numbered NOTIFY_REPLY kind.ERROR_OR_NONE
  TellsByTable (call.BatchForget ctx pairs) =
      (d ≡ record (by BATCH_FORGET kind.NONE ctx 0) { length = length pairs; «data» = d.data })
      × (d.data.len ≡ length pairs * size_of forget_one) × Spell q d.data pairs
  TellsByTable (call.Fallocate ctx inode handle mode offset length) =
      d ≡ record (by FALLOCATE kind.STATUS ctx inode) { handle = handle; mode = mode; offset = offset; length = length }
  TellsByTable (call.Lseek ctx inode handle offset whence) =
      d ≡ record (by LSEEK kind.OFFSET ctx inode) { handle = handle; offset = offset; more = whence }
  -- (its flags are where other calls have the owner of a lock)
  TellsByTable (call.Copyfilerange ctx inode_in handle_in offset_in inode_out handle_out offset_out len flags) =
      d ≡ record (record (by COPY kind.COUNT ctx inode_in) { handle = handle_in; offset = offset_in; length = len })
      { other_node = inode_out; other_handle = handle_out; other_offset = offset_out; lock_owner = flags }
  TellsByTable (call.Syncfs ctx inode) = d ≡ by SYNCFS kind.STATUS ctx inode
  TellsByTable call.Tmpfile = d ≡ numbered TMPFILE kind.ERROR

-- What is asked for is a call, or a directory, and these data tell it.
abbrev pub TellsAsked : (q : List ℕ) → (d : CallData) → Ask → Type 0
TellsAsked q d (Ends reply) = ⊥
TellsAsked q d (Asks echo call) = TellsByTable q d (of_request echo d) call
TellsAsked q d (Lists echo l) =
    d ≡ record (by q d (of_request echo d) READDIR kind.DIRECTORY l.ctx l.parent)
    { handle = l.handle; size = l.size; offset = l.offset; has = bit l.plus has.PLUS }
TellsAsked q d (WithMemory rest) = TellsAsked q d rest

-- these data tell what this request asks for, with the options and the room that they say
abbrev pub AreOf : Limits → (q : List ℕ) → (d : CallData) → Type 0
AreOf limits q d = TellsAsked q d (ask limits d.options d.room q)

-- the request that a request interrupts, and 0 where it is no whole INTERRUPT, or one above a limit
abbrev pub interrupted : Limits → (q : List ℕ) → ℕ
interrupted limits q =
    if nat_lt (length q) (size_of in_header + size_of interrupt_in) || nat_lt (limits.max_buffer + 4096) (value_of in_header q).len
    || not ((value_of in_header q).opcode == number_of Interrupt)
    then 0
    else (value_of interrupt_in (drop (size_of in_header) q)).unique
