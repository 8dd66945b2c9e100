-- The lines of a session: room lengths joined by `+`, one space, hex segments joined by `+`. The first
-- line may set the server's limit in place of asking something.
use Rattle.std.specs.Prelude.{◌≡◌, ℕ, slice_index, slice_get, All, IsSome, IsSomeAnd, ◌+◌, ◌-◌, ◌*◌, ◌==◌, nat_le, Bool, ◌&&◌, if◌then◌else◌, codes, is_some, List, [], ◌∷◌, ◌++◌, length, map, sum, fold, take, drop, position, Option, Some, None, Result, Ok, Err, Vec}
use Rattle.std.specs.List.{slice_split, list_all}
use Rattle.std.specs.Char.{is_ascii_digit}
use Rattle.std.specs.Str.{bytes_eq}
use Rattle.std.specs.declared.alloc.Global.{Global}
use Rattle.hex.specs.Hex.{decode_of}
use Rattle.vfs_flags.specs.declared.constants.TheConstants.{LEAST_MAX_BUFFER, DEFAULT_MAX_BUFFER, GREATEST_MAX_BUFFER}
use Rattle.vfs_run.specs.declared.error.RunError.{RunError}
use Rattle.vfs_run.specs.declared.error.RunError.TheVariants.{BadLine, Io, OutOfMemory}
use Rattle.vfs_run.specs.declared.line.Line.{Line}

-- the parts of a text between its plus signs
abbrev pub parts : List ℕ → List (List ℕ)
parts text = slice_split (λ b. b == 43) text

-- the number that decimal digits write
abbrev pub decimal_value : List ℕ → ℕ
decimal_value text = fold (λ n digit. n * 10 + (digit - 48)) 0 text

-- `least` to `most` decimal digits
abbrev pub is_number_text : ℕ → ℕ → List ℕ → Bool
is_number_text least most text =
    nat_le least (length text) && nat_le (length text) most && list_all is_ascii_digit text

-- the number that a text writes in `least` to `most` decimal digits
abbrev pub decimal_number : ℕ → ℕ → List ℕ → Option ℕ
decimal_number least most text = if is_number_text least most text then Some (decimal_value text) else None

-- the length that a part writes, in one to seven digits
abbrev pub length_of : List ℕ → Option ℕ
length_of text = decimal_number 1 7 text

-- the value of a result, if it has one
abbrev pub ok_of : {A E : Type 0} → Result A E → Option A
ok_of (Ok value) = Some value
ok_of (Err error) = None

-- the bytes that a part writes in hex
abbrev pub segment_of : List ℕ → Option (List ℕ)
segment_of text = ok_of (decode_of text)

-- the values so far and one more, if there are both
abbrev pub and_one : {A : Type 0} → Option (List A) → Option A → Option (List A)
and_one (Some values) (Some value) = Some (values ++ value ∷ [])
and_one (Some values) None = None
and_one None value = None

-- the values of all parts, in order, if each part has one
abbrev pub values_of : {A : Type 0} → (List ℕ → Option A) → List (List ℕ) → Option (List A)
values_of value_of texts = fold (λ values text. and_one values (value_of text)) (Some []) texts

-- the lengths of the rooms and the bytes of the segments
pub record Request : Type 0 where
  pub rooms : List ℕ
  pub segments : List (List ℕ)

-- the most bytes that the rooms of a line have together
abbrev pub most_room : ℕ
most_room = 2097152

-- both lists, if there are both and the rooms are not too large together
abbrev pub request_of : Option (List ℕ) → Option (List (List ℕ)) → Option Request
request_of (Some rooms) (Some segments) =
    if nat_le (sum rooms) most_room then Some (record { rooms = rooms; segments = segments })
    else None
request_of (Some rooms) None = None
request_of None segments = None

-- what a line with its first space at this place asks
abbrev pub split_line : List ℕ → Option ℕ → Option Request
split_line text None = None
split_line text (Some space) =
    request_of (values_of length_of (parts (take space text)))
    (values_of segment_of (parts (drop (space + 1) text)))

-- what a line asks: its text up to the first space is the rooms, what follows is the segments
abbrev pub line_of : List ℕ → Option Request
line_of text = split_line text (position (λ b. b == 32) text)

-- a text without the newline that it ends with, if it does
abbrev pub without_last_newline : List ℕ → List ℕ
without_last_newline text =
    if slice_index text (length text - 1) == 10 then take (length text - 1) text else text

-- the lines of a text, without their newlines: the last one may lack its own, and an empty text has
-- none
abbrev pub lines_in : List ℕ → List (List ℕ)
lines_in text =
    if length text == 0 then [] else slice_split (λ b. b == 10) (without_last_newline text)

-- a number that a server's limit may be
abbrev pub judged_limit : Option ℕ → Option ℕ
judged_limit None = None
judged_limit (Some number) =
    if nat_le LEAST_MAX_BUFFER number && nat_le number GREATEST_MAX_BUFFER then Some number else None

-- the limit that a line sets: `limit`, one space, and four to nine decimal digits within the bounds
abbrev pub limit_of : List ℕ → Option ℕ
limit_of text =
    if bytes_eq (take 6 text) (codes "limit ") then judged_limit (decimal_number 4 9 (drop 6 text)) else None

-- the limit that the first of these lines sets, if it does
abbrev pub first_limit_of : List (List ℕ) → Option ℕ
first_limit_of [] = None
first_limit_of (line ∷ lines) = limit_of line

-- the limit of a server, where this one or none was set
abbrev pub or_default : Option ℕ → ℕ
or_default None = DEFAULT_MAX_BUFFER
or_default (Some limit) = limit

-- how many lines of a session are before its requests: one that sets the limit, or none
abbrev pub before_requests : List (List ℕ) → ℕ
before_requests lines = if is_some (first_limit_of lines) then 1 else 0

-- a line that asks something
abbrev pub IsRequest : List ℕ → Type 0
IsRequest line = IsSome (line_of line)

-- the first of these lines that asks nothing has this number, counted from 1, where that many lines
-- were counted before these
pub record IsFirstBad (counted : ℕ) (lines : List (List ℕ)) (number : ℕ) : Type 0 where
  pub index : ℕ
  pub numbered : number ≡ counted + index + 1
  pub before : All IsRequest (take index lines)
  pub bad : IsSomeAnd (slice_get lines index) (λ line. line_of line ≡ None)

-- how the lines of requests may end, where that many lines were counted before them: each asks
-- something, or the first that does not is named, or there was a fault or no memory
abbrev pub EndsAs : ℕ → List (List ℕ) → Result (Unit {0}) RunError → Type 0
EndsAs counted lines (Ok done) = All IsRequest lines
EndsAs counted lines (Err (BadLine number)) = IsFirstBad counted lines number
EndsAs counted lines (Err Io) = Unit {0}
EndsAs counted lines (Err OutOfMemory) = Unit {0}

-- how a session of these lines may end: as its requests, after a line that sets the limit, if there
-- is one
abbrev pub EndsSession : List (List ℕ) → Result (Unit {0}) RunError → Type 0
EndsSession lines result =
    EndsAs (before_requests lines) (drop (before_requests lines) lines) result

-- how a session ends whose first bad line has this number, where there is one
abbrev pub ending : Option ℕ → Result (Unit {0}) RunError
ending None = Ok tt
ending (Some number) = Err (BadLine number)

-- the lines before the first bad one, where that has this number, if there is one, and that many lines
-- were counted before these
abbrev pub before_bad : ℕ → Option ℕ → List (List ℕ) → List (List ℕ)
before_bad counted None lines = lines
before_bad counted (Some number) lines = take (number - counted - 1) lines

-- the lines of a session's requests before its first bad line, where that has this number, if there
-- is one
abbrev pub session_before_bad : Option ℕ → List (List ℕ) → List (List ℕ)
session_before_bad bad lines =
    before_bad (before_requests lines) bad (drop (before_requests lines) lines)

-- the faults that no line is to blame for
abbrev pub IsRunFault : RunError → Type 0
IsRunFault (BadLine number) = ⊥
IsRunFault Io = Unit {0}
IsRunFault OutOfMemory = Unit {0}

-- what a parsed line holds
abbrev pub request : Line → Request
request line = record {
  rooms = line.rooms.items;
  segments = map (λ segment. segment.items) line.segments.items;
}

-- what a line that was read, if it was, holds
abbrev pub request_option : Option Line → Option Request
request_option None = None
request_option (Some line) = Some (request line)

-- the numbers, if there are any to see
abbrev pub numbers_option : Option (Vec ℕ Global) → Option (List ℕ)
numbers_option None = None
numbers_option (Some numbers) = Some numbers.items

-- the byte lists, if there are any to see
abbrev pub lists_option : Option (Vec (Vec ℕ Global) Global) → Option (List (List ℕ))
lists_option None = None
lists_option (Some lists) = Some (map (λ list. list.items) lists.items)
