-- A call, of which a part is cleared.
use Rattle.std.specs.Prelude.{pos}
use Rattle.codec_calls.specs.Shapes.{no_range, no_setattr}
use Rattle.codec_calls.specs.declared.call.CallData.{CallData}

-- a call without what has 8 bytes, and without its ranges
abbrev pub cleared_places : CallData → CallData
cleared_places c = record c {
  unique = 0;
  options = 0;
  room = 0;
  node = 0;
  handle = 0;
  offset = 0;
  length = 0;
  lock_owner = 0;
  other_node = 0;
  other_handle = 0;
  other_offset = 0;
  name = no_range;
  other_name = no_range;
  «data» = no_range;
  context_name = no_range;
  context = no_range;
}

-- a call without the record of a SETATTR, and without what has 4 bytes
abbrev pub cleared_numbers : CallData → CallData
cleared_numbers c = record c {
  attr = no_setattr;
  call = 0;
  answer = 0;
  has = 0;
  uid = 0;
  gid = 0;
  pid = pos 0;
  flags = 0;
  mode = 0;
  umask = 0;
  rdev = 0;
  size = 0;
  more = 0;
  group = 0;
  readahead = 0;
}
