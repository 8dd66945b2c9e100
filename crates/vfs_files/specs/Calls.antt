-- Calls, which kind of answer each has, and what it answers where a file system doesn't serve it.
-- Nothing here knows a file system's state or its iterators. Answers and their kinds are those of Answers.
use Rattle.std.specs.Prelude.{ℕ, List, Bool, Option, Some, None, map}
use Rattle.vfs_flags.specs.Flags.{fs_options_bits, setattr_valid_bits, setxattr_flags_bits}
use Rattle.vfs_flags.specs.Numbers.{enomem, enosys}
use Rattle.vfs_wire.specs.declared.attributes.SetattrIn.{SetattrIn}
use Rattle.vfs_wire.specs.declared.stat.Statvfs64.{Statvfs64}
use Rattle.vfs_files.specs.Values.{ExtensionValues, extension_values_of, name_text}
use Rattle.vfs_files.specs.declared.call_value.CallValue.{CallValue}
use Rattle.vfs_files.specs.declared.call_value.CallValue.TheVariants as asked
use Rattle.vfs_files.specs.declared.entry.Context.{Context}
pub use Rattle.vfs_files.specs.Answers.{Answer, Done, Failed, Options, Found, Attributes, Put, Opened, Created, Statistics, Text, Count, Offset, Wrote}
pub use Rattle.vfs_files.specs.Answers.{Handed, Plain, Iterator}
pub use Rattle.vfs_files.specs.Answers.{init_answer, entry_answer, attr_answer, done_answer, opened_answer, created_answer, statistics_answer, text_answer, getxattr_answer, listxattr_answer, offset_answer, written_answer, read_answer, directory_answer}
pub use Rattle.vfs_files.specs.Answers.{Kind, Quiet, Told, Untold, Data, Agreements, Entries, TimedAttributes, Openings, Creations, Capacities, Texts, TextsOrCounts, Offsets, Writes, Iterators, Faults}
pub use Rattle.vfs_files.specs.Answers.{IsFault, FitsEntry, FitsOpening, FitsText, KeepsTextShort, Counts, IsAnswer}

-- every call with its arguments as values: nodes, handles and groups by number, names as bytes,
-- options and other sets of flags as bits; READ has that much space for its bytes, which is the room
-- less the header of a reply; the node of `Mknod` is the parent. A READDIRPLUS is `Readdir`, and a
-- `Lookup` of each item but `.` and `..`
pub data Call : Type 0 where
  Lookup : (ctx : Context) (parent : ℕ) (name : List ℕ) → Call
  Forget : (ctx : Context) (inode count : ℕ) → Call
  Getattr : (ctx : Context) (inode : ℕ) (handle : Option ℕ) → Call
  Setattr : (ctx : Context) (inode : ℕ) (attr : SetattrIn) (handle : Option ℕ) (valid : ℕ) → Call
  Readlink : (ctx : Context) (inode : ℕ) → Call
  Symlink : (ctx : Context) (linkname : List ℕ) (parent : ℕ) (name : List ℕ) (ext : ExtensionValues)
      → Call
  Mknod : (ctx : Context) (inode : ℕ) (name : List ℕ) (mode rdev umask : ℕ) (ext : ExtensionValues)
      → Call
  Mkdir : (ctx : Context) (parent : ℕ) (name : List ℕ) (mode umask : ℕ) (ext : ExtensionValues)
      → Call
  Unlink : (ctx : Context) (parent : ℕ) (name : List ℕ) → Call
  Rmdir : (ctx : Context) (parent : ℕ) (name : List ℕ) → Call
  Rename : (ctx : Context) (olddir : ℕ) (oldname : List ℕ) (newdir : ℕ) (newname : List ℕ)
      (flags : ℕ) → Call
  Link : (ctx : Context) (inode newparent : ℕ) (newname : List ℕ) → Call
  Open : (ctx : Context) (inode : ℕ) (kill_priv : Bool) (flags : ℕ) → Call
  Read : (ctx : Context) (inode handle space size offset : ℕ) (lock_owner : Option ℕ) (flags : ℕ)
      → Call
  Write : (ctx : Context) (inode handle : ℕ) (bytes : List ℕ) (size offset : ℕ)
      (lock_owner : Option ℕ) (delayed_write kill_priv : Bool) (flags : ℕ) → Call
  Statfs : (ctx : Context) (inode : ℕ) → Call
  Release : (ctx : Context) (inode flags handle : ℕ) (flush flock_release : Bool)
      (lock_owner : Option ℕ) → Call
  Fsync : (ctx : Context) (inode : ℕ) (datasync : Bool) (handle : ℕ) → Call
  Setxattr : (ctx : Context) (inode : ℕ) (name value : List ℕ) (flags extra : ℕ) → Call
  Getxattr : (ctx : Context) (inode : ℕ) (name : List ℕ) (size : ℕ) → Call
  Listxattr : (ctx : Context) (inode size : ℕ) → Call
  Removexattr : (ctx : Context) (inode : ℕ) (name : List ℕ) → Call
  Flush : (ctx : Context) (inode handle lock_owner : ℕ) → Call
  Init : (capable : ℕ) → Call
  Opendir : (ctx : Context) (inode flags : ℕ) → Call
  Readdir : (ctx : Context) (inode handle size offset : ℕ) → Call
  Releasedir : (ctx : Context) (inode flags handle : ℕ) → Call
  Fsyncdir : (ctx : Context) (inode : ℕ) (datasync : Bool) (handle : ℕ) → Call
  Getlk : Call
  Setlk : Call
  Setlkw : Call
  Access : (ctx : Context) (inode mask : ℕ) → Call
  Create : (ctx : Context) (parent : ℕ) (name : List ℕ) (mode : ℕ) (kill_priv : Bool)
      (flags umask : ℕ) (ext : ExtensionValues) → Call
  Bmap : Call
  Destroy : Call
  Ioctl : Call
  Poll : Call
  NotifyReply : Call
  BatchForget : (ctx : Context) (requests : List (ℕ × ℕ)) → Call
  Fallocate : (ctx : Context) (inode handle mode offset length : ℕ) → Call
  Lseek : (ctx : Context) (inode handle offset whence : ℕ) → Call
  Copyfilerange : (ctx : Context)
      (inode_in handle_in offset_in inode_out handle_out offset_out len flags : ℕ) → Call
  Syncfs : (ctx : Context) (inode : ℕ) → Call
  Tmpfile : Call

-- which kind of answer a call has, each in a row of its own
abbrev pub kind_of : Call → Kind
kind_of (Lookup _ _ _) = Entries
kind_of (Forget _ _ _) = Quiet
kind_of (Getattr _ _ _) = TimedAttributes
kind_of (Setattr _ _ _ _ _) = TimedAttributes
kind_of (Readlink _ _) = Texts
kind_of (Symlink _ _ _ _ _) = Entries
kind_of (Mknod _ _ _ _ _ _ _) = Entries
kind_of (Mkdir _ _ _ _ _ _) = Entries
kind_of (Unlink _ _ _) = Told
kind_of (Rmdir _ _ _) = Told
kind_of (Rename _ _ _ _ _ _) = Told
kind_of (Link _ _ _ _) = Entries
kind_of (Open _ _ _ _) = Openings
kind_of (Read _ _ _ _ size _ _ _) = Data size
kind_of (Write _ _ _ _ _ _ _ _ _ _) = Writes
kind_of (Statfs _ _) = Capacities
kind_of (Release _ _ _ _ _ _ _) = Told
kind_of (Fsync _ _ _ _) = Told
kind_of (Setxattr _ _ _ _ _ _) = Told
kind_of (Getxattr _ _ _ _) = TextsOrCounts
kind_of (Listxattr _ _ _) = TextsOrCounts
kind_of (Removexattr _ _ _) = Told
kind_of (Flush _ _ _ _) = Told
kind_of (Init _) = Agreements
kind_of (Opendir _ _ _) = Openings
kind_of (Readdir _ _ _ _ _) = Iterators
kind_of (Releasedir _ _ _ _) = Told
kind_of (Fsyncdir _ _ _ _) = Told
kind_of Getlk = Untold
kind_of Setlk = Untold
kind_of Setlkw = Untold
kind_of (Access _ _ _) = Told
kind_of (Create _ _ _ _ _ _ _ _) = Creations
kind_of Bmap = Untold
kind_of Destroy = Quiet
kind_of Ioctl = Untold
kind_of Poll = Untold
kind_of NotifyReply = Untold
kind_of (BatchForget _ _) = Quiet
kind_of (Fallocate _ _ _ _ _ _) = Told
kind_of (Lseek _ _ _ _ _) = Offsets
kind_of (Copyfilerange _ _ _ _ _ _ _ _ _) = Writes
kind_of (Syncfs _ _) = Told
kind_of Tmpfile = Faults

-- ---- no more is of the promise: the rest is for proofs, and for contracts of parts

-- the call that is asked by value
abbrev pub call_of : CallValue → Call
call_of (asked.Lookup ctx parent name) = Lookup ctx parent (name_text name)
call_of (asked.Forget ctx inode count) = Forget ctx inode count
call_of (asked.Getattr ctx inode handle) = Getattr ctx inode handle
call_of (asked.Setattr ctx inode attr handle valid) =
    Setattr ctx inode attr handle (setattr_valid_bits valid)
call_of (asked.Readlink ctx inode) = Readlink ctx inode
call_of (asked.Symlink ctx linkname parent name ext) =
    Symlink ctx (name_text linkname) parent (name_text name) (extension_values_of ext)
call_of (asked.Mknod ctx inode name mode rdev umask ext) =
    Mknod ctx inode (name_text name) mode rdev umask (extension_values_of ext)
call_of (asked.Mkdir ctx parent name mode umask ext) =
    Mkdir ctx parent (name_text name) mode umask (extension_values_of ext)
call_of (asked.Unlink ctx parent name) = Unlink ctx parent (name_text name)
call_of (asked.Rmdir ctx parent name) = Rmdir ctx parent (name_text name)
call_of (asked.Rename ctx olddir oldname newdir newname flags) =
    Rename ctx olddir (name_text oldname) newdir (name_text newname) flags
call_of (asked.Link ctx inode newparent newname) = Link ctx inode newparent (name_text newname)
call_of (asked.Open ctx inode kill_priv flags) = Open ctx inode kill_priv flags
call_of (asked.Statfs ctx inode) = Statfs ctx inode
call_of (asked.Release ctx inode flags handle flush flock_release lock_owner) =
    Release ctx inode flags handle flush flock_release lock_owner
call_of (asked.Fsync ctx inode datasync handle) = Fsync ctx inode datasync handle
call_of (asked.Setxattr ctx inode name value flags extra) =
    Setxattr ctx inode (name_text name) value.now flags (setxattr_flags_bits extra)
call_of (asked.Getxattr ctx inode name size) = Getxattr ctx inode (name_text name) size
call_of (asked.Listxattr ctx inode size) = Listxattr ctx inode size
call_of (asked.Removexattr ctx inode name) = Removexattr ctx inode (name_text name)
call_of (asked.Flush ctx inode handle lock_owner) = Flush ctx inode handle lock_owner
call_of (asked.Init capable) = Init (fs_options_bits capable)
call_of (asked.Opendir ctx inode flags) = Opendir ctx inode flags
call_of (asked.Releasedir ctx inode flags handle) = Releasedir ctx inode flags handle
call_of (asked.Fsyncdir ctx inode datasync handle) = Fsyncdir ctx inode datasync handle
call_of asked.Getlk = Getlk
call_of asked.Setlk = Setlk
call_of asked.Setlkw = Setlkw
call_of (asked.Access ctx inode mask) = Access ctx inode mask
call_of (asked.Create ctx parent name mode kill_priv flags umask ext) =
    Create ctx parent (name_text name) mode kill_priv flags umask (extension_values_of ext)
call_of asked.Bmap = Bmap
call_of asked.Destroy = Destroy
call_of asked.Ioctl = Ioctl
call_of asked.Poll = Poll
call_of asked.NotifyReply = NotifyReply
call_of (asked.BatchForget ctx requests) = BatchForget ctx (map (λ p. (p.0, p.1)) requests.items)
call_of (asked.Fallocate ctx inode handle mode offset length) =
    Fallocate ctx inode handle mode offset length
call_of (asked.Lseek ctx inode handle offset whence) = Lseek ctx inode handle offset whence
call_of (asked.Copyfilerange ctx inode_in handle_in offset_in inode_out handle_out offset_out len flags) =
    Copyfilerange ctx inode_in handle_in offset_in inode_out handle_out offset_out len flags
call_of (asked.Syncfs ctx inode) = Syncfs ctx inode
call_of asked.Tmpfile = Tmpfile

-- the fault of a call that a file system doesn't serve: ENOSYS
abbrev pub not_served : Option ℕ
not_served = Some enosys

-- the fault of a call that has no memory to answer: ENOMEM
abbrev pub out_of_memory : Option ℕ
out_of_memory = Some enomem

-- the answer of a call that a file system doesn't serve, where it has no other
abbrev pub no_such_call : Answer
no_such_call = Failed not_served

-- the answer of an `open` or `opendir` that is not served: no handle, and nothing said of how to
-- use it
abbrev pub default_opening : Answer
default_opening = Opened None 0

-- what a file system that says nothing else holds: names of up to 255 bytes, read and written 512
-- at a time
abbrev pub default_statistics : Statvfs64
default_statistics = record {
  f_bsize = 512;
  f_frsize = 0;
  f_blocks = 0;
  f_bfree = 0;
  f_bavail = 0;
  f_files = 0;
  f_ffree = 0;
  f_namemax = 255;
}

-- the answer of each call that a file system doesn't serve
abbrev pub default_answer : Call → Answer
default_answer (Init _) = Options 0
default_answer (Open _ _ _ _) = default_opening
default_answer (Opendir _ _ _) = default_opening
default_answer (Statfs _ _) = Statistics default_statistics
default_answer (Forget _ _ _) = Done
default_answer (BatchForget _ _) = Done
default_answer Destroy = Done
default_answer _ = no_such_call

-- the opcode of each call, by its number: of two that ask for one call, the first
abbrev pub opcode_number_of : Call → ℕ
opcode_number_of (Lookup _ _ _) = 1
opcode_number_of (Forget _ _ _) = 2
opcode_number_of (Getattr _ _ _) = 3
opcode_number_of (Setattr _ _ _ _ _) = 4
opcode_number_of (Readlink _ _) = 5
opcode_number_of (Symlink _ _ _ _ _) = 6
opcode_number_of (Mknod _ _ _ _ _ _ _) = 8
opcode_number_of (Mkdir _ _ _ _ _ _) = 9
opcode_number_of (Unlink _ _ _) = 10
opcode_number_of (Rmdir _ _ _) = 11
opcode_number_of (Rename _ _ _ _ _ _) = 12
opcode_number_of (Link _ _ _ _) = 13
opcode_number_of (Open _ _ _ _) = 14
opcode_number_of (Read _ _ _ _ _ _ _ _) = 15
opcode_number_of (Write _ _ _ _ _ _ _ _ _ _) = 16
opcode_number_of (Statfs _ _) = 17
opcode_number_of (Release _ _ _ _ _ _ _) = 18
opcode_number_of (Fsync _ _ _ _) = 20
opcode_number_of (Setxattr _ _ _ _ _ _) = 21
opcode_number_of (Getxattr _ _ _ _) = 22
opcode_number_of (Listxattr _ _ _) = 23
opcode_number_of (Removexattr _ _ _) = 24
opcode_number_of (Flush _ _ _ _) = 25
opcode_number_of (Init _) = 26
opcode_number_of (Opendir _ _ _) = 27
opcode_number_of (Readdir _ _ _ _ _) = 28
opcode_number_of (Releasedir _ _ _ _) = 29
opcode_number_of (Fsyncdir _ _ _ _) = 30
opcode_number_of Getlk = 31
opcode_number_of Setlk = 32
opcode_number_of Setlkw = 33
opcode_number_of (Access _ _ _) = 34
opcode_number_of (Create _ _ _ _ _ _ _ _) = 35
opcode_number_of Bmap = 37
opcode_number_of Destroy = 38
opcode_number_of Ioctl = 39
opcode_number_of Poll = 40
opcode_number_of NotifyReply = 41
opcode_number_of (BatchForget _ _) = 42
opcode_number_of (Fallocate _ _ _ _ _ _) = 43
opcode_number_of (Lseek _ _ _ _ _) = 46
opcode_number_of (Copyfilerange _ _ _ _ _ _ _ _ _) = 47
opcode_number_of (Syncfs _ _) = 50
opcode_number_of Tmpfile = 51

-- the node that a call is about, the first where there are two, and 0 where there is none
abbrev pub first_node_of : Call → ℕ
first_node_of (Lookup _ parent _) = parent
first_node_of (Forget _ inode _) = inode
first_node_of (Getattr _ inode _) = inode
first_node_of (Setattr _ inode _ _ _) = inode
first_node_of (Readlink _ inode) = inode
first_node_of (Symlink _ _ parent _ _) = parent
first_node_of (Mknod _ inode _ _ _ _ _) = inode
first_node_of (Mkdir _ parent _ _ _ _) = parent
first_node_of (Unlink _ parent _) = parent
first_node_of (Rmdir _ parent _) = parent
first_node_of (Rename _ olddir _ _ _ _) = olddir
first_node_of (Link _ inode _ _) = inode
first_node_of (Open _ inode _ _) = inode
first_node_of (Read _ inode _ _ _ _ _ _) = inode
first_node_of (Write _ inode _ _ _ _ _ _ _ _) = inode
first_node_of (Statfs _ inode) = inode
first_node_of (Release _ inode _ _ _ _ _) = inode
first_node_of (Fsync _ inode _ _) = inode
first_node_of (Setxattr _ inode _ _ _ _) = inode
first_node_of (Getxattr _ inode _ _) = inode
first_node_of (Listxattr _ inode _) = inode
first_node_of (Removexattr _ inode _) = inode
first_node_of (Flush _ inode _ _) = inode
first_node_of (Opendir _ inode _) = inode
first_node_of (Readdir _ inode _ _ _) = inode
first_node_of (Releasedir _ inode _ _) = inode
first_node_of (Fsyncdir _ inode _ _) = inode
first_node_of (Access _ inode _) = inode
first_node_of (Create _ parent _ _ _ _ _ _) = parent
first_node_of (Fallocate _ inode _ _ _ _) = inode
first_node_of (Lseek _ inode _ _ _) = inode
first_node_of (Copyfilerange _ inode_in _ _ _ _ _ _ _) = inode_in
first_node_of (Syncfs _ inode) = inode
first_node_of _ = 0
