-- What is told of some requests of rows.
use Rattle.std.specs.Prelude.{◌++◌, ℕ, List, [], ◌∷◌}
use Rattle.vfs_grammar.specs.Samples.{eight, four, header_9, zeros}
use Rattle.codec_calls.specs.Shapes.{nothing}
use Rattle.codec_calls.specs.declared.call.CallData.{CallData}
use Rattle.codec_calls.specs.declared.call.has.TheConstants as has
use Rattle.codec_calls.specs.declared.call.kind.TheConstants as kind
use Rattle.codec_calls.specs.declared.call.number.TheConstants as number

-- request 9: a BMAP of block 5 of node 1, of 512 bytes
abbrev pub bmap : List ℕ
bmap = header_9 56 37 ++ (eight 5 ++ (0 ∷ 2 ∷ zeros 6))

abbrev pub bmap_asked : (options room : ℕ) → CallData
bmap_asked options room = record nothing {
  unique = 9;
  options = options;
  room = room;
  node = 1;
  offset = 5;
  call = number.BMAP;
  answer = kind.OFFSET;
  size = 512;
}

-- request 9: a POLL of node 1, open as 3, for the events 65, and a notice by the number 7
abbrev pub poll : List ℕ
poll = header_9 64 40 ++ (eight 3 ++ (eight 7 ++ (four 1 ++ four 65)))

abbrev pub poll_asked : (options room : ℕ) → CallData
poll_asked options room = record nothing {
  unique = 9;
  options = options;
  room = room;
  node = 1;
  handle = 3;
  offset = 7;
  call = number.POLL;
  answer = kind.COUNT;
  flags = 1;
  more = 65;
}

-- the reply to notice 9: three bytes of node 1 from place 16 on
abbrev pub notify_reply : List ℕ
notify_reply =
    header_9 83 41
    ++ (zeros 8 ++ (eight 16 ++ (four 3 ++ (zeros 20 ++ (0x61 ∷ 0x62 ∷ 0x63 ∷ [])))))

abbrev pub notify_reply_asked : (options room : ℕ) → CallData
notify_reply_asked options room = record nothing {
  unique = 9;
  options = options;
  room = room;
  node = 1;
  offset = 16;
  «data» = record { at = 80; len = 3 };
  call = number.NOTIFY_REPLY;
  answer = kind.NONE;
  size = 3;
}

-- request 9: a STATX of node 1, open as 3, with the flags 2 and the mask 17
abbrev pub statx : List ℕ
statx = header_9 64 52 ++ (eight 1 ++ (eight 3 ++ (four 2 ++ four 17)))

abbrev pub statx_asked : (options room : ℕ) → CallData
statx_asked options room = record nothing {
  unique = 9;
  options = options;
  room = room;
  node = 1;
  handle = 3;
  call = number.STATX;
  answer = kind.BYTES;
  has = has.HANDLE;
  flags = 2;
  more = 17;
}

-- request 9: a COPY_FILE_RANGE_64 of 100 bytes, from place 10 of node 1, open as 3, to place 20 of node 2, open
-- as 4, with the flags 5
abbrev pub copy_64 : List ℕ
copy_64 =
    header_9 96 53
    ++ (eight 3 ++ (eight 10 ++ (eight 2 ++ (eight 4 ++ (eight 20 ++ (eight 100 ++ eight 5))))))

abbrev pub copy_64_asked : (options room : ℕ) → CallData
copy_64_asked options room = record nothing {
  unique = 9;
  options = options;
  room = room;
  node = 1;
  handle = 3;
  offset = 10;
  length = 100;
  lock_owner = 5;
  other_node = 2;
  other_handle = 4;
  other_offset = 20;
  call = number.COPY_64;
  answer = kind.OFFSET;
}

-- request 9: a TMPFILE in node 1, whose name is `/`
abbrev pub tmpfile : List ℕ
tmpfile = header_9 58 51 ++ (zeros 16 ++ (0x2f ∷ 0 ∷ []))
