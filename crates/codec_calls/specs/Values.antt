-- An answer as data: what its numbers stand for. `tests/c/data.py` compiles `attr_of` against `nizwarf.h`.
use Rattle.std.specs.Prelude.{◌≡◌, ◌==◌, ℕ, ℤ, pos, ◌≤ℤ◌, min, Option, None, Some, MatchOption, if◌then◌else◌}
use Rattle.vfs_wire.specs.declared.attributes.Attr.{Attr}
use Rattle.vfs_wire.specs.declared.entries.EntryOut.{EntryOut}
use Rattle.vfs_wire.specs.declared.stat.Statvfs64.{Statvfs64}
use Rattle.codec_calls.specs.declared.data.AnswerData.{AnswerData}
use Rattle.codec_calls.specs.declared.data.AttrData.{AttrData}
use Rattle.codec_calls.specs.declared.data.EntryData.{EntryData}
use Rattle.codec_calls.specs.declared.data.StatisticsData.{StatisticsData}

-- the fault that this number stands for: none where it is not above 0
abbrev pub IsFaultOf : (error : ℤ) → Option ℕ → Type 0
IsFaultOf error fault = MatchOption fault (error ≤ℤ pos 0) (λ number. pos number ≡ error)

-- the most nanoseconds beside whole seconds
abbrev pub most_nanoseconds : ℕ
most_nanoseconds = 999_999_999

abbrev pub attr_of : AttrData → Attr
attr_of a = record {
  ino = a.ino;
  size = a.size;
  blocks = a.blocks;
  atime = a.atime;
  mtime = a.mtime;
  ctime = a.ctime;
  atimensec = a.atimensec;
  mtimensec = a.mtimensec;
  ctimensec = a.ctimensec;
  mode = a.mode;
  nlink = a.nlink;
  uid = a.uid;
  gid = a.gid;
  rdev = a.rdev;
  blksize = a.blksize;
  flags = a.flags;
}

-- the record of a reply with this entry
abbrev pub entry_out_for : EntryData → EntryOut
entry_out_for e = record {
  nodeid = e.node;
  generation = e.generation;
  entry_valid = e.entry_seconds;
  attr_valid = e.attr_seconds;
  entry_valid_nsec = min e.entry_nanoseconds most_nanoseconds;
  attr_valid_nsec = min e.attr_nanoseconds most_nanoseconds;
  attr = attr_of e.attr;
}

abbrev pub statistics_of : StatisticsData → Statvfs64
statistics_of s = record {
  f_bsize = s.bsize;
  f_frsize = s.frsize;
  f_blocks = s.blocks;
  f_bfree = s.bfree;
  f_bavail = s.bavail;
  f_files = s.files;
  f_ffree = s.ffree;
  f_namemax = s.namemax;
}

abbrev pub handle_of : AnswerData → Option ℕ
handle_of a = if a.has_handle == 0 then None else Some a.handle
