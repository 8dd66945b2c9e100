-- Items, requests and replies written out byte by byte: what small callers hand over, and what they
-- find. No promise rests on them.
use Rattle.std.specs.Prelude.{ℕ, List, [], ◌∷◌, ◌++◌, replicate, Some, pos}
use Rattle.vfs_wire.specs.Fields.{value_of}
use Rattle.vfs_wire.specs.Records.{attr}
use Rattle.vfs_files.specs.Values.{Item, ExtensionValues}
use Rattle.vfs_files.specs.declared.entry.Entry.{Entry}
use Rattle.vfs_files.specs.declared.entry.Context.{Context}

-- the number of one byte, as the eight bytes of a field
abbrev pub eight : ℕ → List ℕ
eight n = n ∷ replicate 7 0

-- the number of one byte, as the four bytes of a field
abbrev pub four : ℕ → List ℕ
four n = n ∷ replicate 3 0

-- the record of `.` in the root: inode 1, offset 1, a name of one byte, type 4 (a directory), the
-- name, and seven zeros
abbrev pub record_of_dot : List ℕ
record_of_dot = eight 1 ++ (eight 1 ++ (four 1 ++ (four 4 ++ (46 ∷ replicate 7 0))))

-- the file `a`: inode 2, offset 3, type 8 (a regular file)
abbrev pub file_a : Item
file_a = record { ino = 2; offset = 3; type_ = 8; name = 97 ∷ [] }

-- `.` in the root: inode 1, offset 1, type 4 (a directory)
abbrev pub root_dot : Item
root_dot = record { ino = 1; offset = 1; type_ = 4; name = 46 ∷ [] }

-- the record of the file `a`
abbrev pub record_of_a : List ℕ
record_of_a = eight 2 ++ (eight 3 ++ (four 1 ++ (four 8 ++ (97 ∷ replicate 7 0))))

-- the entry in front of the record of `.`: zeros for the node, its generation and its times, inode
-- 1, zeros for the size and the times, the mode 0x4000 of a directory, and zeros
abbrev pub entry_of_dot : List ℕ
entry_of_dot = replicate 40 0 ++ (eight 1 ++ (replicate 52 0 ++ (0 ∷ 64 ∷ replicate 26 0)))

-- the reply to request 9 that says ENOSYS: 16 bytes, and the error number 38 negated
abbrev pub not_served_reply : List ℕ
not_served_reply =
    0x10 ∷ 0 ∷ 0 ∷ 0 ∷ 0xda ∷ 0xff ∷ 0xff ∷ 0xff ∷ 9 ∷ 0 ∷ 0 ∷ 0 ∷ 0 ∷ 0 ∷ 0 ∷ 0 ∷ []

-- the first ten bytes of the reply to request 9 that says no fault and has no body
abbrev pub ten_of_done_reply : List ℕ
ten_of_done_reply = 0x10 ∷ 0 ∷ 0 ∷ 0 ∷ 0 ∷ 0 ∷ 0 ∷ 0 ∷ 9 ∷ 0 ∷ []

-- that many zeros
abbrev pub zeros : (count : ℕ) → List ℕ
zeros count = replicate count 0

-- the header of request 9 of a `len` and an opcode below 256, of node 1
abbrev pub header_9 : (len opcode : ℕ) → List ℕ
header_9 len opcode =
    ((len ∷ zeros 3) ++ (opcode ∷ zeros 3)) ++ ((9 ∷ zeros 7) ++ ((1 ∷ zeros 7) ++ zeros 16))

-- request 9: LOOKUP of the name `a`
abbrev pub lookup_of_a : List ℕ
lookup_of_a = header_9 42 1 ++ (0x61 ∷ 0 ∷ [])

-- request 9 with a record whose `size` is this, below 256, as READ, READDIR and READDIRPLUS have it
abbrev pub request_for_data : (opcode size : ℕ) → List ℕ
request_for_data opcode size = header_9 80 opcode ++ (zeros 16 ++ ((size ∷ zeros 3) ++ zeros 20))

-- the entry of node 5, in which all else is 0
abbrev pub node_5 : Entry
node_5 = record {
  inode = 5;
  generation = 0;
  attr = value_of attr (zeros 88);
  attr_timeout = record { secs = 0; nanos = 0 };
  entry_timeout = record { secs = 0; nanos = 0 };
}

-- the reply to request 9 that says it: 144 bytes
abbrev pub node_5_reply : List ℕ
node_5_reply = (0x90 ∷ zeros 7) ++ ((9 ∷ zeros 7) ++ ((5 ∷ zeros 7) ++ zeros 120))

-- a context named `s`, whose value is `v`, and the group 1000
abbrev pub context_and_group : ExtensionValues
context_and_group = record { context = Some (0x73 ∷ [], 0x76 ∷ []); group = Some 1000 }

-- the blocks of both: of 19 bytes and of type 1, and of 16 bytes and of type 32
abbrev pub context_and_group_blocks : List ℕ
context_and_group_blocks =
    (((19 ∷ zeros 3) ++ (1 ∷ zeros 3)) ++ ((1 ∷ zeros 7) ++ (0x73 ∷ 0 ∷ 0x76 ∷ [])))
    ++ (((16 ∷ zeros 3) ++ (32 ∷ zeros 3)) ++ ((1 ∷ zeros 3) ++ (0xe8 ∷ 3 ∷ 0 ∷ 0 ∷ [])))

-- a caller of user 0, group 0 and process 0
abbrev pub nobody : Context
nobody = record { uid = 0; gid = 0; pid = pos 0 }

-- the reply of 48 bytes to request 9, without an error, and with the record of `a`
abbrev pub reply_of_one_file : List ℕ
reply_of_one_file = four 48 ++ (four 0 ++ (eight 9 ++ record_of_a))

-- the reply of 16 bytes to request 9 that says EACCES: the error number 13 negated
abbrev pub refused_reply : List ℕ
refused_reply = four 16 ++ (0xf3 ∷ 0xff ∷ 0xff ∷ 0xff ∷ eight 9)

-- what a reply of 144 bytes to request 9 begins with that says no error and has an entry of node 5
abbrev pub reply_of_node_5 : List ℕ
reply_of_node_5 = four 144 ++ (four 0 ++ (eight 9 ++ eight 5))

-- request 9, a BATCH_FORGET of two pairs: node 5 by 1, and node 7 by 3
abbrev pub batch_of_two : List ℕ
batch_of_two =
    four 80
    ++ (four 42
    ++ (eight 9
    ++ (replicate 24 0
    ++ (four 2 ++ (four 0 ++ (eight 5 ++ (eight 1 ++ (eight 7 ++ eight 3))))))))
