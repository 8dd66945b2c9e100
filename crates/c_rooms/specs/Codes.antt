-- The numbers that C sees of what a call came to. Those of a request's outcome are 0, where it was
-- answered, and 1 to 10, by the error. `tests/c/data.py` compiles the codes and `outcome_code` against `nizwarf.h`.
use Rattle.std.specs.Prelude.{ℕ, ℤ, pos, nat_lt, if◌then◌else◌, Result, Ok, Err}
use Rattle.vfs_grammar.specs.declared.error.Error.{Error}
use Rattle.vfs_grammar.specs.declared.error.Error.TheVariants.{DecodeMessage, EncodeMessage, FlushMessage, MissingParameter, InvalidCString, InvalidCString2, InvalidHeaderLength, InvalidXattrSize, MissingExtension, OutOfMemory}

-- all is well
abbrev pub ok : ℤ
ok = pos 0

-- there was no memory
abbrev pub no_memory : ℤ
no_memory = pos 10

-- the handle has no server
abbrev pub no_server : ℤ
no_server = pos 11

-- a server can't be made for this page size, or for this largest payload
abbrev pub wrong_size : ℤ
wrong_size = pos 12

-- the lengths of the pieces sum past the largest count
abbrev pub too_long : ℤ
too_long = pos 13

-- a request asks for a call, which is told
abbrev pub is_asked : ℤ
is_asked = pos 15

-- a call is none that was asked, or has another room
abbrev pub not_asked : ℤ
not_asked = pos 16

-- the number of an outcome
abbrev pub outcome_code : Result ℕ Error → ℤ
outcome_code (Ok len) = ok
outcome_code (Err DecodeMessage) = pos 1
outcome_code (Err EncodeMessage) = pos 2
outcome_code (Err FlushMessage) = pos 3
outcome_code (Err MissingParameter) = pos 4
outcome_code (Err InvalidCString) = pos 5
outcome_code (Err InvalidCString2) = pos 6
outcome_code (Err InvalidHeaderLength) = pos 7
outcome_code (Err (InvalidXattrSize sizes)) = pos 8
outcome_code (Err MissingExtension) = pos 9
outcome_code (Err OutOfMemory) = no_memory

-- the length of the reply, 0 where there is none
abbrev pub length_of : Result ℕ Error → ℕ
length_of (Ok len) = len
length_of (Err error) = 0

-- ---- no more is of the promise: the rest is for contracts of parts

-- how many bytes of a room of that many are there to be copied out: the reply's; and all of them where
-- the reply was too long for the room, and the room has space for its header of 16 bytes
abbrev pub shown_of : Result ℕ Error → (room : ℕ) → ℕ
shown_of (Ok len) room = len
shown_of (Err DecodeMessage) room = 0
shown_of (Err EncodeMessage) room = if nat_lt room 16 then 0 else room
shown_of (Err FlushMessage) room = 0
shown_of (Err MissingParameter) room = 0
shown_of (Err InvalidCString) room = 0
shown_of (Err InvalidCString2) room = 0
shown_of (Err InvalidHeaderLength) room = 0
shown_of (Err (InvalidXattrSize sizes)) room = 0
shown_of (Err MissingExtension) room = 0
shown_of (Err OutOfMemory) room = 0
