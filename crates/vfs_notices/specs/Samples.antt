-- Notices, requests and replies byte by byte, as linux/fuse.h lays them out: what small callers put and find. No
-- promise rests on them.
use Rattle.std.specs.Prelude.{ℕ, List, [], ◌∷◌, ◌++◌, replicate}

-- that many zeros
abbrev pub zeros : (count : ℕ) → List ℕ
zeros count = replicate count 0

-- the number of one byte, as the eight bytes of a field
abbrev pub eight : ℕ → List ℕ
eight n = n ∷ zeros 7

-- the number of one byte, as the four bytes of a field
abbrev pub four : ℕ → List ℕ
four n = n ∷ zeros 3

-- the header of a notice of a `len` and a number of one byte
abbrev pub front : (len number : ℕ) → List ℕ
front len number = four len ++ (four number ++ eight 0)

-- node 5 from -1 on, which is none of its bytes: 40 bytes, number 2
abbrev pub attributes_of_5_are_old : List ℕ
attributes_of_5_are_old = front 40 2 ++ (eight 5 ++ (replicate 8 0xff ++ eight 0))

-- `a` in node 1 is to be looked up again, by flag 1: 34 bytes, number 3
abbrev pub a_is_old : List ℕ
a_is_old = front 34 3 ++ (eight 1 ++ (four 1 ++ (four 1 ++ (0x61 ∷ 0 ∷ []))))

-- what comes before 3 bytes of node 5 from 4096 on: 40 of 43 bytes, number 4
abbrev pub three_of_5_follow : List ℕ
three_of_5_follow = front 43 4 ++ (eight 5 ++ ((0 ∷ 0x10 ∷ zeros 6) ++ (four 3 ++ four 0)))

-- 3 bytes of node 5 from 4096 on are wanted, by NOTIFY_REPLY 7: 48 bytes, number 5
abbrev pub three_of_5_are_wanted : List ℕ
three_of_5_are_wanted =
    front 48 5 ++ (eight 7 ++ (eight 5 ++ ((0 ∷ 0x10 ∷ zeros 6) ++ (four 3 ++ four 0))))

-- `a` in node 1, which was node 5, is gone: 42 bytes, number 6
abbrev pub a_is_gone : List ℕ
a_is_gone = front 42 6 ++ (eight 1 ++ (eight 5 ++ (four 1 ++ (four 0 ++ (0x61 ∷ 0 ∷ [])))))

-- what comes before the numbers of two nodes: 32 of 48 bytes, number 9
abbrev pub two_nodes_follow : List ℕ
two_nodes_follow = front 48 9 ++ (four 2 ++ (four 0 ++ eight 0))

-- request 1, an INIT of version 7.45: its first record says INIT_EXT, its second the options 32 to 44
abbrev pub init_7_45 : List ℕ
init_7_45 =
    four 104
    ++ (four 26
    ++ (eight 1
    ++ (zeros 24
    ++ (four 7
    ++ (four 45
    ++ ((0 ∷ 0 ∷ 2 ∷ 0 ∷ []) ++ ((0xff ∷ 0xff ∷ 0xff ∷ 0x7f ∷ []) ++ ((0xff ∷ 0x1f ∷ 0 ∷ 0 ∷ []) ++ zeros 44))))))))

-- the header of the reply to request 1, and of its record the first two fields: 80 bytes, version 7.38
abbrev pub init_front : List ℕ
init_front = four 80 ++ (four 0 ++ (eight 1 ++ (four 7 ++ four 38)))

-- such a reply that agrees on INIT_EXT, a nanosecond and 256 pages: with how many bytes are read ahead, how many
-- requests wait and from which on it is held back, how many bytes are written at once, and what is after these
abbrev pub init_reply : (readahead background write more : List ℕ) → List ℕ
init_reply readahead background write more =
    init_front
    ++ (readahead
    ++ ((0 ∷ 0 ∷ 0 ∷ 0x40 ∷ []) ++ (background ++ (write ++ (four 1 ++ ((0 ∷ 1 ∷ 0 ∷ 0 ∷ []) ++ more))))))

-- the reply that agrees on INIT_EXT alone: 131072 bytes are read ahead, 65535 requests wait, from 49149 on it is
-- held back, 1048576 bytes are written at once
abbrev pub agreed_on_init_ext : List ℕ
agreed_on_init_ext =
    init_reply (0 ∷ 0 ∷ 2 ∷ 0 ∷ []) (0xff ∷ 0xff ∷ 0xfd ∷ 0xbf ∷ []) (0 ∷ 0 ∷ 0x10 ∷ 0 ∷ []) (zeros 32)

-- the same, with 65536 bytes read ahead, 12 requests that wait, 4096 bytes written at once, PASSTHROUGH (bit 5
-- of flags2) and a depth of 2
abbrev pub agreed_on_passthrough : List ℕ
agreed_on_passthrough =
    init_reply (0 ∷ 0 ∷ 1 ∷ 0 ∷ []) (12 ∷ 0 ∷ 0xfd ∷ 0xbf ∷ []) (0 ∷ 0x10 ∷ 0 ∷ 0 ∷ [])
    (four 0x20 ++ (four 2 ++ zeros 24))

-- the same as agreed_on_init_ext, with REQUEST_TIMEOUT (bit 10 of flags2) and the most seconds
abbrev pub agreed_on_timeout : List ℕ
agreed_on_timeout =
    init_reply (0 ∷ 0 ∷ 2 ∷ 0 ∷ []) (0xff ∷ 0xff ∷ 0xfd ∷ 0xbf ∷ []) (0 ∷ 0 ∷ 0x10 ∷ 0 ∷ [])
    ((0 ∷ 4 ∷ 0 ∷ 0 ∷ []) ++ (four 0 ++ ((0xff ∷ 0xff ∷ 0 ∷ 0 ∷ []) ++ zeros 20)))

-- the reply to request 1 of a later major version: 7.38 alone
abbrev pub version_alone : List ℕ
version_alone = init_front ++ zeros 56

-- the reply to request 1, an OPEN: handle 3, its pages are kept (bit 1)
abbrev pub opened_3 : List ℕ
opened_3 = four 32 ++ (four 0 ++ (eight 1 ++ (eight 3 ++ (four 2 ++ four 0))))

-- the same, with the backing file 258
abbrev pub opened_3_by_258 : List ℕ
opened_3_by_258 = four 32 ++ (four 0 ++ (eight 1 ++ (eight 3 ++ (four 0x82 ++ (2 ∷ 1 ∷ 0 ∷ 0 ∷ [])))))

-- the reply to request 1 that says ENOENT, with 16 bytes after it
abbrev pub no_such_name : List ℕ
no_such_name = four 32 ++ ((0xfe ∷ 0xff ∷ 0xff ∷ 0xff ∷ []) ++ (eight 1 ++ zeros 16))
