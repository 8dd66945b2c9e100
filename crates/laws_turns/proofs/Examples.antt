-- The definitions held against examples: what these bytes ask, and what these replies are, computed.
use Rattle.std.proofs.Common.{◌≡◌, ◌+◌, ◌/◌, ◌%◌, ◌^◌, ℕ, Bool, List, [], ◌∷◌, ◌++◌, take, replicate, true, false, Some, None, Ok, Err, refl, pos, negsuc}
use Rattle.vfs_flags.specs.Numbers.{opcode_of}
use Rattle.vfs_flags.specs.declared.constants.TheConstants.{GREATEST_MAX_BUFFER}
use Rattle.vfs_wire.specs.Fields.{number, little, value_of}
use Rattle.vfs_wire.specs.Records.{attr, setattr_in}
use Rattle.vfs_wire.specs.declared.attributes.Attr.{Attr}
use Rattle.vfs_wire.specs.declared.stat.Statvfs64.{Statvfs64}
use Rattle.vfs_files.specs.declared.entry.Context.{Context}
use Rattle.vfs_files.specs.declared.entry.Entry.{Entry}
use Rattle.vfs_files.specs.Calls as call
use Rattle.vfs_files.specs.Answers.{Done, Failed, Options, Found, Attributes, Put, Opened, Created, Statistics, Text, Count, Offset, Wrote, Agreements, Data, Entries, Told, Untold, TimedAttributes, Openings, Creations, Capacities, Texts, TextsOrCounts, Offsets, Writes, Faults}
use Rattle.vfs_grammar.specs.Ask.{ask}
use Rattle.vfs_grammar.specs.Extensions.{extensions_in, cut_of, no_extensions}
use Rattle.vfs_grammar.specs.Forms.{Ask, Ends, Asks, Lists, WithMemory}
use Rattle.vfs_grammar.specs.Words.{refused, silent, put_outcome, put_room}
use Rattle.vfs_grammar.specs.declared.limits.Limits.{Limits}
use Rattle.vfs_grammar.specs.Limits.{default_limits}
use Rattle.vfs_grammar.specs.Options.{agreed, options_after}
use Rattle.vfs_grammar.specs.Reply.{Bytes, OpenAfter, NoReply, Echo, reply_of}
use Rattle.vfs_grammar.specs.Room.{unseen}
use Rattle.vfs_grammar.specs.Turn.{node_answered}
use Rattle.vfs_grammar.specs.declared.error.Error.TheVariants.{DecodeMessage, EncodeMessage, InvalidCString, InvalidHeaderLength, InvalidXattrSize, MissingExtension, MissingParameter}

-- four bytes of a number, the lowest first
abbrev four : ℕ → List ℕ
four n = n % 256 ∷ n / 256 % 256 ∷ n / 65536 % 256 ∷ n / 16777216 ∷ []

-- eight bytes of a number, the lowest first
abbrev eight : ℕ → List ℕ
eight n = four (n % 4294967296) ++ four (n / 4294967296)

abbrev zeros : ℕ → List ℕ
zeros n = replicate n 0

-- a request's header with these values and zeros elsewhere
abbrev header : (len opcode unique nodeid : ℕ) → List ℕ
header len opcode unique nodeid = (((four len ++ four opcode) ++ (four unique ++ zeros 4)) ++ (four nodeid ++ zeros 4)) ++ zeros 16

abbrev nobody : Context
nobody = record { uid = 0; gid = 0; pid = pos 0 }

abbrev usual : Limits
usual = default_limits 4096

-- payloads of two pages
abbrev small : Limits
small = record { page_size = 4096; max_buffer = 8192 }

-- the largest payloads
abbrev large : Limits
large = record { page_size = 4096; max_buffer = GREATEST_MAX_BUFFER }

abbrev echo : ℕ → Echo
echo unique = record { unique = unique; max_readahead = 0; ctx = nobody }

abbrev said_so : List ℕ → Ask
said_so reply = Ends (Bytes reply)

-- ---- requests

header_cut_short : ask usual 0 16 (take 39 (header 40 17 9 1)) ≡ refused DecodeMessage
unfolding number little opcode_of
header_cut_short = refl

-- ENOSYS is 38, and its negative in four bytes is da ff ff ff
unknown_opcode : ask usual 0 16 (header 40 7 9 0) ≡ said_so (((16 ∷ zeros 3) ++ (0xda ∷ 0xff ∷ 0xff ∷ 0xff ∷ [])) ++ (9 ∷ zeros 7))
unfolding number little opcode_of
unknown_opcode = refl

-- a `len` above the limit is ENOMEM, 12
len_above_the_limit : ask usual 0 16 (header 1052673 17 9 1) ≡ said_so (((16 ∷ zeros 3) ++ (0xf4 ∷ 0xff ∷ 0xff ∷ 0xff ∷ [])) ++ (9 ∷ zeros 7))
unfolding number little opcode_of
len_above_the_limit = refl

lookup_of_len_39 : ask usual 0 144 (header 39 1 9 1) ≡ refused InvalidHeaderLength
unfolding number little opcode_of
lookup_of_len_39 = refl

lookup_of_nothing : ask usual 0 144 (header 40 1 9 1) ≡ WithMemory (refused InvalidCString)
unfolding number little opcode_of
lookup_of_nothing = refl

lookup_of_two_nuls : ask usual 0 144 (header 43 1 9 1 ++ (0x61 ∷ 0 ∷ 0 ∷ [])) ≡ WithMemory (refused InvalidCString)
unfolding number little opcode_of
lookup_of_two_nuls = refl

lookup_past_the_end : ask usual 0 144 (header 44 1 9 1 ++ (0x61 ∷ 0 ∷ [])) ≡ refused DecodeMessage
unfolding number little opcode_of
lookup_past_the_end = refl

bytes_after_len_are_ignored : ask usual 0 144 (header 42 1 9 1 ++ (0x61 ∷ 0 ∷ 0x62 ∷ [])) ≡ WithMemory (Asks (echo 9) (call.Lookup nobody 1 (0x61 ∷ [])))
unfolding number little opcode_of
bytes_after_len_are_ignored = refl

lookup_of_the_empty_name : ask usual 0 144 (header 41 1 9 1 ++ (0 ∷ [])) ≡ WithMemory (Asks (echo 9) (call.Lookup nobody 1 []))
unfolding number little opcode_of
lookup_of_the_empty_name = refl

lookup_of_a : ask usual 0 144 (header 42 1 9 1 ++ (0x61 ∷ 0 ∷ [])) ≡ WithMemory (Asks (echo 9) (call.Lookup nobody 1 (0x61 ∷ [])))
unfolding number little opcode_of
lookup_of_a = refl

forget_of_one : ask usual 0 0 (header 48 2 5 2 ++ (1 ∷ zeros 7)) ≡ Asks (echo 5) (call.Forget nobody 2 1)
unfolding number little opcode_of
forget_of_one = refl

getattr_without_a_handle : ask usual 0 120 (header 56 3 2 1 ++ zeros 16) ≡ Asks (echo 2) (call.Getattr nobody 1 None)
unfolding number little opcode_of
getattr_without_a_handle = refl

getattr_by_a_handle : ask usual 0 120 (header 56 3 2 1 ++ ((1 ∷ zeros 7) ++ (7 ∷ zeros 7))) ≡ Asks (echo 2) (call.Getattr nobody 1 (Some 7))
unfolding number little opcode_of
getattr_by_a_handle = refl

-- INIT of 7.38, a read-ahead of 131072 and all flags of both words
init_of_everything : ask usual 0 80 (header 104 26 1 0 ++ ((four 7 ++ (four 38 ++ four 131072)) ++ ((0xff ∷ 0xff ∷ 0xff ∷ 0xff ∷ []) ++ ((0xff ∷ 0xff ∷ 0xff ∷ 0xff ∷ []) ++ zeros 44)))) ≡ Asks (record { unique = 1; max_readahead = 131072; ctx = nobody }) (call.Init 0x117fbffffff)
unfolding number little opcode_of
init_of_everything = refl

-- EPROTO is 71
init_of_7_26 : ask usual 0 80 (header 56 26 1 0 ++ ((four 7 ++ four 26) ++ zeros 8)) ≡ said_so (((16 ∷ zeros 3) ++ (0xb9 ∷ 0xff ∷ 0xff ∷ 0xff ∷ [])) ++ (1 ∷ zeros 7))
unfolding number little opcode_of
init_of_7_26 = refl

-- the second record is read before the version is judged
init_of_7_26_without_its_second_record : ask usual 0 80 (header 56 26 1 0 ++ ((four 7 ++ four 26) ++ (four 0 ++ four 0x40000000))) ≡ refused DecodeMessage
unfolding number little opcode_of
init_of_7_26_without_its_second_record = refl

init_of_8_0 : ask usual 0 80 (header 56 26 1 0 ++ (four 8 ++ zeros 12)) ≡ said_so ((((0x50 ∷ zeros 7) ++ (1 ∷ zeros 7)) ++ (four 7 ++ four 38)) ++ zeros 56)
unfolding number little opcode_of
init_of_8_0 = refl

getlk : ask usual 0 16 (header 40 31 9 1) ≡ Asks (echo 9) call.Getlk
unfolding number little opcode_of
getlk = refl

interrupt : ask usual 0 16 (header 40 36 9 1) ≡ silent
unfolding number little opcode_of
interrupt = refl

forget_of_two : ask usual 0 0 (header 80 42 9 0 ++ ((four 2 ++ four 0) ++ (((5 ∷ zeros 7) ++ (1 ∷ zeros 7)) ++ ((6 ∷ zeros 7) ++ (2 ∷ zeros 7))))) ≡ WithMemory (Asks (echo 9) (call.BatchForget nobody ((5, 1) ∷ (6, 2) ∷ [])))
unfolding number little opcode_of
forget_of_two = refl

forget_past_the_end : ask usual 0 0 (header 80 42 9 0 ++ ((four 2 ++ four 0) ++ ((5 ∷ zeros 7) ++ (1 ∷ zeros 7)))) ≡ refused DecodeMessage
unfolding number little opcode_of
forget_past_the_end = refl

-- 65,537 pairs are ENOMEM, whether they are there or not
forget_of_too_many : ask usual 0 16 (header 48 42 9 0 ++ (four 65537 ++ four 0)) ≡ said_so (((16 ∷ zeros 3) ++ (0xf4 ∷ 0xff ∷ 0xff ∷ 0xff ∷ [])) ++ (9 ∷ zeros 7))
unfolding number little opcode_of
forget_of_too_many = refl

destroy_leaves_nothing : options_after call.Destroy Done 0x10448449829 ≡ 0
destroy_leaves_nothing = refl

done : reply_of usual (echo 9) 0 Told Done ≡ Bytes ((16 ∷ zeros 7) ++ (9 ∷ zeros 7))
unfolding number little
done = refl

done_untold : reply_of usual (echo 9) 0 Untold Done ≡ NoReply
done_untold = refl

-- the flag of the handle among all others, and all others without it
getattr_by_a_handle_and_all_flags : ask usual 0 120 (header 56 3 2 1 ++ ((four 0xffffffff ++ zeros 4) ++ eight 7)) ≡ Asks (echo 2) (call.Getattr nobody 1 (Some 7))
unfolding number little opcode_of
getattr_by_a_handle_and_all_flags = refl

getattr_by_all_flags_but_that_of_the_handle : ask usual 0 120 (header 56 3 2 1 ++ ((four 0xfffffffe ++ zeros 4) ++ eight 7)) ≡ Asks (echo 2) (call.Getattr nobody 1 None)
unfolding number little opcode_of
getattr_by_all_flags_but_that_of_the_handle = refl

-- SETATTR's record is passed on whole, and its `valid` cut to what is known
abbrev all_valid : List ℕ
all_valid = (four 0xffffffff ++ four 1) ++ ((eight 7 ++ eight 2) ++ zeros 64)

setattr_by_a_handle : ask usual 0 120 (header 128 4 9 1 ++ all_valid) ≡ Asks (echo 9) (call.Setattr nobody 1 (value_of setattr_in all_valid) (Some 7) 0xdbf)
unfolding number little opcode_of
setattr_by_a_handle = refl

-- bit 6 of `valid` is that of the handle, and no attribute
setattr_of_a_handle_alone : ask usual 0 120 (header 128 4 9 1 ++ ((four 64 ++ zeros 4) ++ (eight 7 ++ zeros 72))) ≡ Asks (echo 9) (call.Setattr nobody 1 (value_of setattr_in ((four 64 ++ zeros 4) ++ (eight 7 ++ zeros 72))) (Some 7) 0)
unfolding number little opcode_of
setattr_of_a_handle_alone = refl

readlink : ask usual 0 17 (header 40 5 9 3) ≡ Asks (echo 9) (call.Readlink nobody 3)
unfolding number little opcode_of
readlink = refl

open_that_kills_privileges : ask usual 0 32 (header 48 14 9 1 ++ (four 0x8002 ++ four 3)) ≡ Asks (echo 9) (call.Open nobody 1 true 0x8002)
unfolding number little opcode_of
open_that_kills_privileges = refl

open_that_keeps_privileges : ask usual 0 32 (header 48 14 9 1 ++ (four 2 ++ four 2)) ≡ Asks (echo 9) (call.Open nobody 1 false 2)
unfolding number little opcode_of
open_that_keeps_privileges = refl

-- READ: the call is told of the room after a header; the record comes before the room is judged
read : ask usual 0 18 (header 80 15 9 2 ++ ((zeros 16 ++ four 3) ++ zeros 20)) ≡ Asks (echo 9) (call.Read nobody 2 0 2 3 0 None 0)
unfolding number little opcode_of
read = refl

read_without_room_for_a_header : ask usual 0 15 (header 80 15 9 2 ++ ((zeros 16 ++ four 3) ++ zeros 20)) ≡ refused EncodeMessage
unfolding number little opcode_of
read_without_room_for_a_header = refl

read_cut_short : ask usual 0 15 (header 80 15 9 2 ++ zeros 39) ≡ refused DecodeMessage
unfolding number little opcode_of
read_cut_short = refl

-- bit 1 of the flags alone passes the owner of locks, and `len` is not looked at
read_by_an_owner_of_locks : ask usual 0 16 (header 0 15 9 2 ++ (((eight 7 ++ eight 10) ++ (four 3 ++ four 2)) ++ (eight 5 ++ (four 0x8000 ++ zeros 4)))) ≡ Asks (echo 9) (call.Read nobody 2 7 0 3 10 (Some 5) 0x8000)
unfolding number little opcode_of
read_by_an_owner_of_locks = refl

read_by_all_flags_but_that_of_the_owner : ask usual 0 18 (header 80 15 9 2 ++ (((eight 7 ++ eight 10) ++ (four 3 ++ four 0xfffffffd)) ++ (eight 5 ++ zeros 8))) ≡ Asks (echo 9) (call.Read nobody 2 7 2 3 10 None 0)
unfolding number little opcode_of
read_by_all_flags_but_that_of_the_owner = refl

-- READDIR and READDIRPLUS: the record comes first, then its size by the limit and by the whole room,
-- and only then the room by a header
abbrev listed : (plus : Bool) → (handle size offset room : ℕ) → Ask
listed plus handle size offset room =
    Lists (echo 9) (record { plus = plus; ctx = nobody; parent = 1; handle = handle; size = size; offset = offset; space = room })

readdir : ask usual 0 112 (header 80 28 9 1 ++ (((eight 7 ++ eight 2) ++ four 96) ++ zeros 20)) ≡ listed false 7 96 2 96
unfolding number little opcode_of
readdir = refl

readdirplus : ask usual 0 335 (header 80 44 9 1 ++ ((zeros 16 ++ four 319) ++ zeros 20)) ≡ listed true 0 319 0 319
unfolding number little opcode_of
readdirplus = refl

readdir_of_more_than_the_room : ask usual 0 8 (header 80 28 9 1 ++ ((zeros 16 ++ four 9) ++ zeros 20)) ≡ said_so ((four 16 ++ (0xf4 ∷ 0xff ∷ 0xff ∷ 0xff ∷ [])) ++ eight 9)
unfolding number little opcode_of
readdir_of_more_than_the_room = refl

readdir_of_the_whole_room : ask usual 0 32 (header 80 28 9 1 ++ ((zeros 16 ++ four 32) ++ zeros 20)) ≡ listed false 0 32 0 16
unfolding number little opcode_of
readdir_of_the_whole_room = refl

readdirplus_above_the_limit : ask usual 0 0x200000 (header 80 44 9 1 ++ ((zeros 16 ++ four 0x100001) ++ zeros 20)) ≡ said_so ((four 16 ++ (0xf4 ∷ 0xff ∷ 0xff ∷ 0xff ∷ [])) ++ eight 9)
unfolding number little opcode_of
readdirplus_above_the_limit = refl

readdir_without_room_for_a_header : ask usual 0 8 (header 80 28 9 1 ++ zeros 40) ≡ refused EncodeMessage
unfolding number little opcode_of
readdir_without_room_for_a_header = refl

readdir_cut_short : ask usual 0 8 (header 80 28 9 1 ++ zeros 39) ≡ refused DecodeMessage
unfolding number little opcode_of
readdir_cut_short = refl

-- WRITE: all bytes after the record are the call's, whatever `len` and `size` say
write : ask usual 0 24 (header 83 16 9 2 ++ (((zeros 16 ++ four 5) ++ zeros 20) ++ (0x48 ∷ 0x45 ∷ 0x59 ∷ []))) ≡ Asks (echo 9) (call.Write nobody 2 0 (0x48 ∷ 0x45 ∷ 0x59 ∷ []) 5 0 None false false 0)
unfolding number little opcode_of
write = refl

write_of_nothing : ask usual 0 24 (header 0 16 9 2 ++ zeros 40) ≡ Asks (echo 9) (call.Write nobody 2 0 [] 0 0 None false false 0)
unfolding number little opcode_of
write_of_nothing = refl

write_cut_short : ask usual 0 24 (header 80 16 9 2 ++ zeros 39) ≡ refused DecodeMessage
unfolding number little opcode_of
write_cut_short = refl

-- bit 0 is a write of pages that were written to before, bit 1 that the owner of locks is told, bit 2
-- that privileges are to be taken away
write_back : ask usual 0 24 (header 80 16 9 2 ++ (((eight 7 ++ eight 10) ++ (four 3 ++ four 1)) ++ (eight 5 ++ (four 0x8001 ++ zeros 4)))) ≡ Asks (echo 9) (call.Write nobody 2 7 [] 3 10 None true false 0x8001)
unfolding number little opcode_of
write_back = refl

write_by_an_owner_of_locks : ask usual 0 24 (header 80 16 9 2 ++ (((eight 7 ++ eight 10) ++ (four 3 ++ four 2)) ++ (eight 5 ++ (four 0x8001 ++ zeros 4)))) ≡ Asks (echo 9) (call.Write nobody 2 7 [] 3 10 (Some 5) false false 0x8001)
unfolding number little opcode_of
write_by_an_owner_of_locks = refl

write_that_kills_privileges : ask usual 0 24 (header 80 16 9 2 ++ (((eight 7 ++ eight 10) ++ (four 3 ++ four 4)) ++ (eight 5 ++ (four 0x8001 ++ zeros 4)))) ≡ Asks (echo 9) (call.Write nobody 2 7 [] 3 10 None false true 0x8001)
unfolding number little opcode_of
write_that_kills_privileges = refl

statfs : ask usual 0 96 (header 40 17 9 1) ≡ Asks (echo 9) (call.Statfs nobody 1)
unfolding number little opcode_of
statfs = refl

-- RELEASE: bit 0 is a flush, bit 1 the unlock of a flock, and the owner is passed for either
release_that_unlocks : ask usual 0 16 (header 64 18 9 2 ++ ((eight 7 ++ four 0x8000) ++ (four 2 ++ eight 3))) ≡ Asks (echo 9) (call.Release nobody 2 0x8000 7 false true (Some 3))
unfolding number little opcode_of
release_that_unlocks = refl

release_that_flushes : ask usual 0 16 (header 64 18 9 2 ++ ((eight 7 ++ four 0) ++ (four 1 ++ eight 3))) ≡ Asks (echo 9) (call.Release nobody 2 0 7 true false (Some 3))
unfolding number little opcode_of
release_that_flushes = refl

release_of_another_flag : ask usual 0 16 (header 64 18 9 2 ++ ((eight 7 ++ four 0) ++ (four 4 ++ eight 3))) ≡ Asks (echo 9) (call.Release nobody 2 0 7 false false None)
unfolding number little opcode_of
release_of_another_flag = refl

fsync_of_data : ask usual 0 16 (header 56 20 9 2 ++ ((eight 7 ++ four 3) ++ zeros 4)) ≡ Asks (echo 9) (call.Fsync nobody 2 true 7)
unfolding number little opcode_of
fsync_of_data = refl

-- 1,048,576 bytes are asked for, and one more is too many
listxattr_at_the_limit : ask usual 0 16 (header 48 23 9 1 ++ (four 0x100000 ++ zeros 4)) ≡ Asks (echo 9) (call.Listxattr nobody 1 0x100000)
unfolding number little opcode_of
listxattr_at_the_limit = refl

listxattr_above_the_limit : ask usual 0 16 (header 48 23 9 1 ++ (four 0x100001 ++ zeros 4)) ≡ said_so ((four 16 ++ (0xf4 ∷ 0xff ∷ 0xff ∷ 0xff ∷ [])) ++ eight 9)
unfolding number little opcode_of
listxattr_above_the_limit = refl

flush : ask usual 0 16 (header 64 25 9 2 ++ ((eight 7 ++ zeros 8) ++ eight 3)) ≡ Asks (echo 9) (call.Flush nobody 2 7 3)
unfolding number little opcode_of
flush = refl

opendir : ask usual 0 32 (header 48 27 9 1 ++ (four 5 ++ four 1)) ≡ Asks (echo 9) (call.Opendir nobody 1 5)
unfolding number little opcode_of
opendir = refl

releasedir : ask usual 0 16 (header 64 29 9 2 ++ ((eight 7 ++ four 5) ++ (four 3 ++ eight 3))) ≡ Asks (echo 9) (call.Releasedir nobody 2 5 7)
unfolding number little opcode_of
releasedir = refl

fsyncdir_of_all : ask usual 0 16 (header 56 30 9 2 ++ ((eight 7 ++ four 2) ++ zeros 4)) ≡ Asks (echo 9) (call.Fsyncdir nobody 2 false 7)
unfolding number little opcode_of
fsyncdir_of_all = refl

access : ask usual 0 16 (header 48 34 9 2 ++ (four 6 ++ four 1)) ≡ Asks (echo 9) (call.Access nobody 2 6)
unfolding number little opcode_of
access = refl

fallocate : ask usual 0 16 (header 72 43 9 2 ++ ((eight 7 ++ eight 10) ++ ((eight 20 ++ four 3) ++ zeros 4))) ≡ Asks (echo 9) (call.Fallocate nobody 2 7 3 10 20)
unfolding number little opcode_of
fallocate = refl

lseek : ask usual 0 24 (header 64 46 9 2 ++ ((eight 7 ++ eight 10) ++ (four 4 ++ zeros 4))) ≡ Asks (echo 9) (call.Lseek nobody 2 7 10 4)
unfolding number little opcode_of
lseek = refl

copy_file_range : ask usual 0 24 (header 96 47 9 2 ++ (((eight 7 ++ eight 10) ++ (eight 3 ++ eight 8)) ++ ((eight 11 ++ eight 12) ++ eight 1))) ≡ Asks (echo 9) (call.Copyfilerange nobody 2 7 10 3 8 11 12 1)
unfolding number little opcode_of
copy_file_range = refl

syncfs : ask usual 0 16 (header 40 50 9 1) ≡ Asks (echo 9) (call.Syncfs nobody 1)
unfolding number little opcode_of
syncfs = refl

tmpfile : ask usual 0 16 (header 40 51 9 1) ≡ Asks (echo 9) call.Tmpfile
unfolding number little opcode_of
tmpfile = refl

-- mappings are not served: ENOSYS
setupmapping : ask usual 0 16 (header 40 48 9 1) ≡ said_so ((four 16 ++ (0xda ∷ 0xff ∷ 0xff ∷ 0xff ∷ [])) ++ eight 9)
unfolding number little opcode_of
setupmapping = refl

-- UNLINK of a name, and LINK: the record's node gets a name in the header's directory
unlink : ask usual 0 16 (header 42 10 9 1 ++ (0x61 ∷ 0 ∷ [])) ≡ WithMemory (Asks (echo 9) (call.Unlink nobody 1 (0x61 ∷ [])))
unfolding number little opcode_of
unlink = refl

link : ask usual 0 144 (header 50 13 9 1 ++ (eight 5 ++ (0x61 ∷ 0 ∷ []))) ≡ WithMemory (Asks (echo 9) (call.Link nobody 5 1 (0x61 ∷ [])))
unfolding number little opcode_of
link = refl

link_without_a_name : ask usual 0 144 (header 48 13 9 1 ++ eight 5) ≡ WithMemory (refused InvalidCString)
unfolding number little opcode_of
link_without_a_name = refl

-- SYMLINK: the link's name is first, and the call is told its text first
symlink : ask usual 0 144 (header 44 6 9 1 ++ (0x6e ∷ 0 ∷ 0x74 ∷ 0 ∷ [])) ≡ WithMemory (Asks (echo 9) (call.Symlink nobody (0x74 ∷ []) 1 (0x6e ∷ []) no_extensions))
unfolding number little opcode_of extensions_in
symlink = refl

symlink_of_one_text : ask usual 0 144 (header 42 6 9 1 ++ (0x6e ∷ 0 ∷ [])) ≡ WithMemory (refused MissingParameter)
unfolding number little opcode_of extensions_in
symlink_of_one_text = refl

symlink_to_a_text_without_end : ask usual 0 144 (header 43 6 9 1 ++ (0x6e ∷ 0 ∷ 0x74 ∷ [])) ≡ WithMemory (refused InvalidCString)
unfolding number little opcode_of extensions_in
symlink_to_a_text_without_end = refl

-- MKNOD, MKDIR and CREATE: with no option agreed on, what is after the name is ignored
mknod : ask usual 0 144 (header 60 8 9 1 ++ ((eight 1 ++ eight 2) ++ (0x61 ∷ 0 ∷ 7 ∷ 7 ∷ []))) ≡ WithMemory (Asks (echo 9) (call.Mknod nobody 1 (0x61 ∷ []) 1 0 2 no_extensions))
unfolding number little opcode_of extensions_in
mknod = refl

mknod_of_a_name_without_end : ask usual 0 144 (header 57 8 9 1 ++ (zeros 16 ++ (0x61 ∷ []))) ≡ WithMemory (refused InvalidCString)
unfolding number little opcode_of extensions_in
mknod_of_a_name_without_end = refl

mknod_of_nothing : ask usual 0 144 (header 56 8 9 1 ++ zeros 16) ≡ WithMemory (refused MissingParameter)
unfolding number little opcode_of extensions_in
mknod_of_nothing = refl

create : ask usual 0 160 (header 58 35 9 1 ++ ((eight 2 ++ (four 3 ++ four 1)) ++ (0x63 ∷ 0 ∷ []))) ≡ WithMemory (Asks (echo 9) (call.Create nobody 1 (0x63 ∷ []) 0 true 2 3 no_extensions))
unfolding number little opcode_of extensions_in
create = refl

-- with SECURITY_CTX agreed on: a context of the name s and the value v; a block past the end, one
-- smaller than its header, and none, which is missed also where the name has no end
mkdir_with_a_context : ask usual 0x100000000 144 (header 69 9 9 1 ++ (zeros 8 ++ ((0x64 ∷ 0 ∷ []) ++ ((four 19 ++ four 1) ++ ((four 1 ++ zeros 4) ++ (0x73 ∷ 0 ∷ 0x76 ∷ []))))))
    ≡ WithMemory (Asks (echo 9) (call.Mkdir nobody 1 (0x64 ∷ []) 0 0 (record { context = Some ((0x73 ∷ []), (0x76 ∷ [])); group = None })))
unfolding number little opcode_of extensions_in cut_of
mkdir_with_a_context = refl

mkdir_with_a_block_past_the_end : ask usual 0x100000000 144 (header 58 9 9 1 ++ (zeros 8 ++ ((0x64 ∷ 0 ∷ []) ++ (four 9 ++ four 1)))) ≡ WithMemory (refused DecodeMessage)
unfolding number little opcode_of extensions_in cut_of
mkdir_with_a_block_past_the_end = refl

mkdir_with_a_block_of_seven : ask usual 0x100000000 144 (header 58 9 9 1 ++ (zeros 8 ++ ((0x64 ∷ 0 ∷ []) ++ (four 7 ++ four 1)))) ≡ WithMemory (refused InvalidHeaderLength)
unfolding number little opcode_of extensions_in cut_of
mkdir_with_a_block_of_seven = refl

mkdir_without_its_context : ask usual 0x100000000 144 (header 50 9 9 1 ++ (zeros 8 ++ (0x64 ∷ 0 ∷ []))) ≡ WithMemory (refused MissingExtension)
unfolding number little opcode_of extensions_in cut_of
mkdir_without_its_context = refl

mkdir_without_context_or_end : ask usual 0x100000000 144 (header 49 9 9 1 ++ (zeros 8 ++ (0x64 ∷ []))) ≡ WithMemory (refused MissingExtension)
unfolding number little opcode_of extensions_in cut_of
mkdir_without_context_or_end = refl

-- with CREATE_SUPP_GROUP agreed on: the group 1000
mkdir_with_a_group : ask usual 0x400000000 144 (header 66 9 9 1 ++ (zeros 8 ++ ((0x64 ∷ 0 ∷ []) ++ ((four 16 ++ four 32) ++ (four 1 ++ four 1000)))))
    ≡ WithMemory (Asks (echo 9) (call.Mkdir nobody 1 (0x64 ∷ []) 0 0 (record { context = None; group = Some 1000 })))
unfolding number little opcode_of extensions_in cut_of
mkdir_with_a_group = refl

-- RENAME of a in node 1 to b in node 2
rename : ask usual 0 16 (header 52 12 9 1 ++ (eight 2 ++ (0x61 ∷ 0 ∷ 0x62 ∷ 0 ∷ []))) ≡ WithMemory (Asks (echo 9) (call.Rename nobody 1 (0x61 ∷ []) 2 (0x62 ∷ []) 0))
unfolding number little opcode_of
rename = refl

rename_without_a_nul : ask usual 0 16 (header 50 12 9 1 ++ (eight 2 ++ (0x61 ∷ 0x62 ∷ []))) ≡ WithMemory (refused MissingParameter)
unfolding number little opcode_of
rename_without_a_nul = refl

rename_to_nothing : ask usual 0 16 (header 50 12 9 1 ++ (eight 2 ++ (0x61 ∷ 0 ∷ []))) ≡ WithMemory (refused InvalidCString)
unfolding number little opcode_of
rename_to_nothing = refl

rename_to_two_names : ask usual 0 16 (header 54 12 9 1 ++ (eight 2 ++ (0x61 ∷ 0 ∷ 0x62 ∷ 0 ∷ 0x63 ∷ 0 ∷ []))) ≡ WithMemory (refused InvalidCString)
unfolding number little opcode_of
rename_to_two_names = refl

-- RENAME2 keeps bits 0 to 2 of its flags
rename2_with_four_flags : ask usual 0 16 (header 60 45 9 1 ++ ((eight 2 ++ eight 15) ++ (0x61 ∷ 0 ∷ 0x62 ∷ 0 ∷ []))) ≡ WithMemory (Asks (echo 9) (call.Rename nobody 1 (0x61 ∷ []) 2 (0x62 ∷ []) 7))
unfolding number little opcode_of
rename2_with_four_flags = refl

-- SETXATTR of the name a and the value 1 2, without SETXATTR_EXT and with it: then the record is 16 bytes
rmdir : ask usual 0 16 (header 42 11 9 1 ++ (0x61 ∷ 0 ∷ [])) ≡ WithMemory (Asks (echo 9) (call.Rmdir nobody 1 (0x61 ∷ [])))
unfolding number little opcode_of
rmdir = refl

removexattr : ask usual 0 16 (header 42 24 9 1 ++ (0x61 ∷ 0 ∷ [])) ≡ WithMemory (Asks (echo 9) (call.Removexattr nobody 1 (0x61 ∷ [])))
unfolding number little opcode_of
removexattr = refl

setlk : ask usual 0 16 (header 40 32 9 1) ≡ Asks (echo 9) call.Setlk
unfolding number little opcode_of
setlk = refl

setlkw : ask usual 0 16 (header 40 33 9 1) ≡ Asks (echo 9) call.Setlkw
unfolding number little opcode_of
setlkw = refl

bmap : ask usual 0 16 (header 40 37 9 1) ≡ Asks (echo 9) call.Bmap
unfolding number little opcode_of
bmap = refl

ioctl : ask usual 0 16 (header 40 39 9 1) ≡ Asks (echo 9) call.Ioctl
unfolding number little opcode_of
ioctl = refl

poll : ask usual 0 16 (header 40 40 9 1) ≡ Asks (echo 9) call.Poll
unfolding number little opcode_of
poll = refl

notify_reply : ask usual 0 16 (header 40 41 9 1) ≡ Asks (echo 9) call.NotifyReply
unfolding number little opcode_of
notify_reply = refl

removemapping : ask usual 0 16 (header 40 49 9 0) ≡ said_so (((16 ∷ zeros 3) ++ (0xda ∷ 0xff ∷ 0xff ∷ 0xff ∷ [])) ++ (9 ∷ zeros 7))
unfolding number little opcode_of
removemapping = refl

setxattr : ask usual 0 16 (header 52 21 9 3 ++ ((four 2 ++ four 1) ++ (0x61 ∷ 0 ∷ 1 ∷ 2 ∷ []))) ≡ WithMemory (Asks (echo 9) (call.Setxattr nobody 3 (0x61 ∷ []) (1 ∷ 2 ∷ []) 1 0))
unfolding number little opcode_of
setxattr = refl

setxattr_with_further_flags : ask usual 0x20000000 16 (header 60 21 9 3 ++ (((four 2 ++ four 1) ++ (four 3 ++ four 0)) ++ (0x61 ∷ 0 ∷ 1 ∷ 2 ∷ []))) ≡ WithMemory (Asks (echo 9) (call.Setxattr nobody 3 (0x61 ∷ []) (1 ∷ 2 ∷ []) 1 1))
unfolding number little opcode_of
setxattr_with_further_flags = refl

setxattr_of_another_size : ask usual 0 16 (header 56 21 9 1 ++ ((four 2 ++ four 0) ++ (0x75 ∷ 0x73 ∷ 0x65 ∷ 0x72 ∷ 0x2e ∷ 0x78 ∷ 0 ∷ 0x76 ∷ []))) ≡ WithMemory (refused (InvalidXattrSize (2, 1)))
unfolding number little opcode_of
setxattr_of_another_size = refl

setxattr_of_a_longer_value : ask usual 0 16 (header 52 21 9 3 ++ ((four 1 ++ four 1) ++ (0x61 ∷ 0 ∷ 1 ∷ 2 ∷ []))) ≡ WithMemory (refused (InvalidXattrSize (1, 2)))
unfolding number little opcode_of
setxattr_of_a_longer_value = refl

setxattr_whose_record_takes_its_name : ask usual 0x20000000 16 (header 56 21 9 1 ++ ((four 2 ++ four 0) ++ (0x75 ∷ 0x73 ∷ 0x65 ∷ 0x72 ∷ 0x2e ∷ 0x78 ∷ 0 ∷ 0x76 ∷ []))) ≡ WithMemory (refused MissingParameter)
unfolding number little opcode_of
setxattr_whose_record_takes_its_name = refl

-- GETXATTR: its size is judged when the tail was read, and before the name is
getxattr : ask usual 0 16 (header 50 22 9 1 ++ (eight 5 ++ (0x61 ∷ 0 ∷ []))) ≡ WithMemory (Asks (echo 9) (call.Getxattr nobody 1 (0x61 ∷ []) 5))
unfolding number little opcode_of
getxattr = refl

getxattr_above_the_limit : ask usual 0 16 (header 49 22 9 1 ++ ((four 0x100001 ++ zeros 4) ++ (0x61 ∷ []))) ≡ WithMemory (said_so ((four 16 ++ (0xf4 ∷ 0xff ∷ 0xff ∷ 0xff ∷ [])) ++ eight 9))
unfolding number little opcode_of
getxattr_above_the_limit = refl

getxattr_of_no_name : ask usual 0 16 (header 49 22 9 1 ++ (zeros 8 ++ (0x61 ∷ []))) ≡ WithMemory (refused InvalidCString)
unfolding number little opcode_of
getxattr_of_no_name = refl

abbrev the_caller : Context
the_caller = record { uid = 1000; gid = 100; pid = negsuc 0 }

-- the caller is the header's, its process with the same bits
a_caller : ask usual 0 16 (((four 48 ++ four 34) ++ (eight 9 ++ eight 2)) ++ (((four 1000 ++ four 100) ++ four 0xffffffff) ++ (zeros 4 ++ (four 6 ++ zeros 4)))) ≡ Asks (record (echo 9) { ctx = the_caller }) (call.Access the_caller 2 6)
unfolding number little opcode_of
a_caller = refl

-- ---- options and replies

agreed_where_nothing_is_wanted : agreed 0x117fbffffff 0 ≡ 0x10448449829
agreed_where_nothing_is_wanted = refl

agreed_where_bits_17_and_28_are_wanted : agreed 0x117fbffffff (2 ^ 17 + 2 ^ 28) ≡ 0x10458469829
agreed_where_bits_17_and_28_are_wanted = refl

reply_of_init : reply_of usual (record { unique = 1; max_readahead = 131072; ctx = nobody }) (agreed 0x117fbffffff 0) Agreements (Options 0)
    ≡ Bytes ((((((0x50 ∷ zeros 7) ++ (1 ∷ zeros 7)) ++ ((four 7 ++ four 38) ++ (0 ∷ 0 ∷ 2 ∷ 0 ∷ [])))
    ++ ((0x29 ∷ 0x98 ∷ 0x44 ∷ 0x48 ∷ []) ++ (0xff ∷ 0xff ∷ 0xfd ∷ 0xbf ∷ []))) ++ ((0 ∷ 0 ∷ 0x10 ∷ 0 ∷ []) ++ ((1 ∷ zeros 3) ++ (0 ∷ 1 ∷ 0 ∷ 0 ∷ []))))
    ++ ((4 ∷ 1 ∷ 0 ∷ 0 ∷ []) ++ zeros 28))
unfolding number little
reply_of_init = refl

-- a fault without a number is EIO, 5
reply_of_no_number : reply_of usual (echo 9) 0 Entries (Failed None) ≡ Bytes (((16 ∷ zeros 3) ++ (0xfb ∷ 0xff ∷ 0xff ∷ 0xff ∷ [])) ++ (9 ∷ zeros 7))
unfolding number little
reply_of_no_number = refl

abbrev node_5 : Entry
node_5 = record {
  inode = 5;
  generation = 0;
  attr = value_of attr (zeros 88);
  attr_timeout = record { secs = 0; nanos = 0 };
  entry_timeout = record { secs = 0; nanos = 0 };
}

reply_of_node_5 : reply_of usual (echo 9) 0 Entries (Found node_5) ≡ Bytes ((((0x90 ∷ zeros 7) ++ (9 ∷ zeros 7)) ++ (5 ∷ zeros 7)) ++ zeros 120)
unfolding number little
reply_of_node_5 = refl

-- attributes with their parts of seconds, and how long they hold: 2.5 seconds
abbrev attributes : Attr
attributes = record {
  ino = 1;
  size = 2;
  blocks = 3;
  atime = 4;
  mtime = 5;
  ctime = 6;
  atimensec = 7;
  mtimensec = 8;
  ctimensec = 9;
  mode = 10;
  nlink = 11;
  uid = 12;
  gid = 13;
  rdev = 14;
  blksize = 15;
  flags = 16;
}

reply_of_attributes : reply_of usual (echo 9) 0 TimedAttributes (Attributes attributes (record { secs = 2; nanos = 500000000 }))
    ≡ Bytes (((four 120 ++ zeros 4) ++ eight 9) ++ (((eight 2 ++ four 500000000) ++ zeros 4)
    ++ ((((eight 1 ++ eight 2) ++ (eight 3 ++ eight 4)) ++ ((eight 5 ++ eight 6) ++ (four 7 ++ four 8)))
    ++ ((((four 9 ++ four 10) ++ (four 11 ++ four 12)) ++ (four 13 ++ four 14)) ++ (four 15 ++ four 16)))))
unfolding number little
reply_of_attributes = refl

reply_of_no_handle : reply_of usual (echo 9) 0 Openings (Opened None 5) ≡ Bytes (((four 32 ++ zeros 4) ++ eight 9) ++ ((eight 0 ++ four 5) ++ zeros 4))
unfolding number little
reply_of_no_handle = refl

reply_of_a_handle : reply_of usual (echo 9) 0 Openings (Opened (Some 7) 0) ≡ Bytes (((four 32 ++ zeros 4) ++ eight 9) ++ ((eight 7 ++ four 0) ++ zeros 4))
unfolding number little
reply_of_a_handle = refl

abbrev statistics : Statvfs64
statistics = record {
  f_bsize = 1;
  f_frsize = 2;
  f_blocks = 3;
  f_bfree = 4;
  f_bavail = 5;
  f_files = 6;
  f_ffree = 7;
  f_namemax = 8;
}

reply_of_statistics : reply_of usual (echo 9) 0 Capacities (Statistics statistics)
    ≡ Bytes (((four 96 ++ zeros 4) ++ eight 9) ++ (((eight 3 ++ eight 4) ++ (eight 5 ++ eight 6)) ++ (((eight 7 ++ four 1) ++ (four 8 ++ four 2)) ++ zeros 28)))
unfolding number little
reply_of_statistics = refl

reply_of_a_text : reply_of usual (echo 9) 0 Texts (Text (0x74 ∷ [])) ≡ Bytes (((four 17 ++ zeros 4) ++ eight 9) ++ (0x74 ∷ []))
unfolding number little
reply_of_a_text = refl

reply_of_a_count : reply_of usual (echo 9) 0 TextsOrCounts (Count 5) ≡ Bytes (((four 24 ++ zeros 4) ++ eight 9) ++ (four 5 ++ zeros 4))
unfolding number little
reply_of_a_count = refl

reply_of_an_offset : reply_of usual (echo 9) 0 Offsets (Offset 5) ≡ Bytes (((four 24 ++ zeros 4) ++ eight 9) ++ eight 5)
unfolding number little
reply_of_an_offset = refl

reply_of_bytes_written : reply_of usual (echo 9) 0 Writes (Wrote 5) ≡ Bytes (((four 24 ++ zeros 4) ++ eight 9) ++ (four 5 ++ zeros 4))
unfolding number little
reply_of_bytes_written = refl

-- READ's data `he`, and a READ that failed: the room after the reply is open
reply_of_data : reply_of usual (echo 9) 0 (Data 2) (Put (0x68 ∷ 0x65 ∷ [])) ≡ OpenAfter (((four 18 ++ zeros 4) ++ eight 9) ++ (0x68 ∷ 0x65 ∷ []))
unfolding number little
reply_of_data = refl

reply_of_no_data : reply_of usual (echo 9) 0 (Data 2) (Failed (Some 2)) ≡ OpenAfter ((four 16 ++ (0xfe ∷ 0xff ∷ 0xff ∷ 0xff ∷ [])) ++ eight 9)
unfolding number little
reply_of_no_data = refl

reply_of_a_fault_alone : reply_of usual (echo 9) 0 Faults (Failed (Some 38)) ≡ Bytes ((four 16 ++ (0xda ∷ 0xff ∷ 0xff ∷ 0xff ∷ [])) ++ eight 9)
unfolding number little
reply_of_a_fault_alone = refl

-- ---- entries whose reply doesn't fit

-- the entry of node 5 has no place in a room of 100, and one in a room of 144
unseen_in_100 : unseen 100 (reply_of usual (echo 9) 0 Entries (Found node_5)) (node_answered Entries (Found node_5)) ≡ Some 5
unfolding number little
unseen_in_100 = refl

seen_in_144 : unseen 144 (reply_of usual (echo 9) 0 Entries (Found node_5)) (node_answered Entries (Found node_5)) ≡ None
unfolding number little
seen_in_144 = refl

-- lookups of node 0 are not counted
abbrev node_0 : Entry
node_0 = record node_5 { inode = 0 }

node_0_in_100 : unseen 100 (reply_of usual (echo 9) 0 Entries (Found node_0)) (node_answered Entries (Found node_0)) ≡ None
unfolding number little
node_0_in_100 = refl

-- CREATE's reply has 160 bytes
created_in_159 : unseen 159 (reply_of usual (echo 9) 0 Creations (Created node_5 (Some 7) 0)) (node_answered Creations (Created node_5 (Some 7) 0)) ≡ Some 5
unfolding number little
created_in_159 = refl

created_in_160 : unseen 160 (reply_of usual (echo 9) 0 Creations (Created node_5 (Some 7) 0)) (node_answered Creations (Created node_5 (Some 7) 0)) ≡ None
unfolding number little
created_in_160 = refl

-- a fault has no entry, and a text none either
fault_in_10 : unseen 10 (reply_of usual (echo 9) 0 Entries (Failed None)) (node_answered Entries (Failed None)) ≡ None
fault_in_10 = refl

text_in_10 : unseen 10 (reply_of usual (echo 9) 0 Texts (Text (0x74 ∷ []))) (node_answered Texts (Text (0x74 ∷ []))) ≡ None
text_in_10 = refl

-- ---- rooms

abbrev no_such_opcode : List ℕ
no_such_opcode = ((16 ∷ zeros 3) ++ (0xda ∷ 0xff ∷ 0xff ∷ 0xff ∷ [])) ++ (9 ∷ zeros 7)

room_of_16 : put_outcome no_such_opcode (zeros 16) ≡ Ok 16
room_of_16 = refl

room_of_18 : put_room no_such_opcode (replicate 18 7) ≡ no_such_opcode ++ (7 ∷ 7 ∷ [])
room_of_18 = refl

room_of_10 : put_outcome no_such_opcode (zeros 10) ≡ Err EncodeMessage
room_of_10 = refl

room_of_10_holds_the_beginning : put_room no_such_opcode (zeros 10) ≡ (16 ∷ zeros 3) ++ ((0xda ∷ 0xff ∷ 0xff ∷ 0xff ∷ []) ++ (9 ∷ 0 ∷ []))
room_of_10_holds_the_beginning = refl

-- ---- limits that were chosen

len_at_a_chosen_limit : ask small 0 96 (header 12288 17 2 1) ≡ Asks (echo 2) (call.Statfs nobody 1)
unfolding number little opcode_of
len_at_a_chosen_limit = refl

len_above_a_chosen_limit : ask small 0 16 (header 12289 17 2 1) ≡ said_so ((four 16 ++ (0xf4 ∷ 0xff ∷ 0xff ∷ 0xff ∷ [])) ++ eight 2)
unfolding number little opcode_of
len_above_a_chosen_limit = refl

-- 512 pairs are looked for, and 513 are too many
forget_at_a_chosen_limit : ask small 0 16 (header 48 42 9 0 ++ (four 512 ++ four 0)) ≡ refused DecodeMessage
unfolding number little opcode_of
forget_at_a_chosen_limit = refl

forget_above_a_chosen_limit : ask small 0 16 (header 48 42 9 0 ++ (four 513 ++ four 0)) ≡ said_so ((four 16 ++ (0xf4 ∷ 0xff ∷ 0xff ∷ 0xff ∷ [])) ++ eight 9)
unfolding number little opcode_of
forget_above_a_chosen_limit = refl

listxattr_at_a_chosen_limit : ask small 0 16 (header 48 23 9 1 ++ (four 8192 ++ zeros 4)) ≡ Asks (echo 9) (call.Listxattr nobody 1 8192)
unfolding number little opcode_of
listxattr_at_a_chosen_limit = refl

listxattr_above_a_chosen_limit : ask small 0 16 (header 48 23 9 1 ++ (four 8193 ++ zeros 4)) ≡ said_so ((four 16 ++ (0xf4 ∷ 0xff ∷ 0xff ∷ 0xff ∷ [])) ++ eight 9)
unfolding number little opcode_of
listxattr_above_a_chosen_limit = refl

readdir_at_a_chosen_limit : ask small 0 9000 (header 80 28 9 1 ++ (((eight 7 ++ eight 2) ++ four 8192) ++ zeros 20)) ≡ listed false 7 8192 2 8984
unfolding number little opcode_of
readdir_at_a_chosen_limit = refl

readdir_above_a_chosen_limit : ask small 0 9000 (header 80 28 9 1 ++ ((zeros 16 ++ four 8193) ++ zeros 20)) ≡ said_so ((four 16 ++ (0xf4 ∷ 0xff ∷ 0xff ∷ 0xff ∷ [])) ++ eight 9)
unfolding number little opcode_of
readdir_above_a_chosen_limit = refl

-- two pages are said, and 8192 bytes
reply_of_init_with_a_chosen_limit : reply_of small (record { unique = 1; max_readahead = 131072; ctx = nobody }) 0 Agreements (Options 0)
    ≡ Bytes ((((((0x50 ∷ zeros 7) ++ (1 ∷ zeros 7)) ++ ((four 7 ++ four 38) ++ (0 ∷ 0 ∷ 2 ∷ 0 ∷ [])))
    ++ (zeros 4 ++ (0xff ∷ 0xff ∷ 0xfd ∷ 0xbf ∷ []))) ++ ((0 ∷ 0x20 ∷ 0 ∷ 0 ∷ []) ++ ((1 ∷ zeros 3) ++ (2 ∷ 0 ∷ 0 ∷ 0 ∷ []))))
    ++ zeros 32)
unfolding number little
reply_of_init_with_a_chosen_limit = refl

-- the largest payloads take 32,768 pages
reply_of_init_with_the_largest_limit : reply_of large (record { unique = 1; max_readahead = 131072; ctx = nobody }) 0 Agreements (Options 0)
    ≡ Bytes ((((((0x50 ∷ zeros 7) ++ (1 ∷ zeros 7)) ++ ((four 7 ++ four 38) ++ (0 ∷ 0 ∷ 2 ∷ 0 ∷ [])))
    ++ (zeros 4 ++ (0xff ∷ 0xff ∷ 0xfd ∷ 0xbf ∷ []))) ++ ((0 ∷ 0 ∷ 0 ∷ 8 ∷ []) ++ ((1 ∷ zeros 3) ++ (0 ∷ 0x80 ∷ 0 ∷ 0 ∷ []))))
    ++ zeros 32)
unfolding number little
reply_of_init_with_the_largest_limit = refl
