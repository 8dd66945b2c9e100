-- What calls tell of the server after a handle.
use Rattle.std.specs.Prelude.{◌≡◌, ◌≤◌, ◌<◌, ◌-◌, ◌^◌, ◌⊎◌, pos, true, ℕ, ℤ, List, ◌++◌, length, IfSome, Some, Result}
use Rattle.vfs_segments.specs.Written.{Written, whole}
use Rattle.vfs_grammar.specs.declared.error.Error.{Error}
use Rattle.vfs_server.specs.Step.{ServerState, IsStep, ReadsDirectories}
use Rattle.vfs_files.specs.Calls.{Answer, Failed, Text}
use Rattle.codec_calls.specs.declared.call.CallData.{CallData}
use Rattle.codec_calls.specs.declared.data.AnswerData.{AnswerData}
use Rattle.codec_encode.specs.Fitting.{fits}
use Rattle.codec_decode.specs.Further.{What, Ordinary, Short, Row, Unnamed}
use Rattle.laws_flight.specs.OfferedTurns.{OfferedTurn, IsOfferedTurn, as_create}
use Rattle.nizwarf_tree.specs.Files.{State, new_state, at_time, Allows, Gives, row_answer}
use Rattle.nizwarf_tree.specs.Offered.{row_limits, what_asked}
use Rattle.nizwarf_tree.specs.declared.files.TheConstants.{OFFERS}
use Rattle.nizwarf_tree.specs.declared.settings.Settings.{Settings}
use Rattle.c_rooms.specs.Codes.{no_memory, too_long, outcome_code, length_of, shown_of}

-- a new server over a new file system: no options are agreed on
abbrev pub new_server : (page_size max_buffer : ℕ) → Settings → ServerState State
new_server page_size max_buffer settings = record {
  options = 0;
  limits = record { page_size = page_size; max_buffer = max_buffer };
  fs = new_state settings;
}

-- a server over a file system that was told the time
abbrev pub told_time : ServerState State → (seconds nanoseconds : ℕ) → ServerState State
told_time server seconds nanoseconds =
    record server { fs = at_time server.fs seconds nanoseconds }

-- The server made a step, as the grammar says, with a writer that had that many bytes left; if a
-- directory was read, it was read so. `room` has the bytes that the step left in their place, of
-- which the first `shown` are there to be copied out.
pub record SteppedInC (old : ServerState State) (request : List ℕ) (total : ℕ) (number : ℤ) (len : ℕ)
    (room : List ℕ) (shown : ℕ) (new : ServerState State) : Type 0 where
  pub before : Written
  pub space : length before.left ≡ total
  pub outcome : Result ℕ Error
  pub after : Written
  pub step : IsStep Allows Gives old request before outcome after new
  pub directories : ReadsDirectories Allows Gives old request before outcome after new
  pub numbered : number ≡ outcome_code outcome
  pub counted : len ≡ length_of outcome
  pub left : whole after ≡ before.passed ++ room
  pub copied : shown ≡ shown_of outcome total

-- The request was not handed to the server, for want of memory or since the lengths of its pieces
-- sum past the largest count. Nothing happened, and nothing is there to be copied out.
pub record Refused (old : ServerState State) (request : List ℕ) (number : ℤ) (len shown : ℕ)
    (new : ServerState State) : Type 0 where
  pub why : (number ≡ no_memory) ⊎ ((number ≡ too_long) × (2 ^ 64 ≤ length request))
  pub no_reply : len ≡ 0
  pub nothing : shown ≡ 0
  pub same : new ≡ old

-- The request asks by a row that the file system offers: a turn of the further table. Where it asks for a call, the
-- answer is the file system's. Nothing changed. `room` has the bytes that the turn left, of which the first `shown`
-- are there to be copied out.
pub record RowInC (old : ServerState State) (request : List ℕ) (total : ℕ) (number : ℤ) (len : ℕ)
    (room : List ℕ) (shown : ℕ) (new : ServerState State) : Type 0 where
  pub t : OfferedTurn
  pub offered : t.offers ≡ OFFERS
  pub asked : t.turn.request ≡ request
  pub space : length t.turn.room ≡ total
  pub turn : IsOfferedTurn (row_limits old.limits) old.options t old.options
  pub answered : IfSome t.row (λ r. r.1 ≡ row_answer old.fs r.0)
  pub numbered : number ≡ outcome_code t.turn.outcome
  pub counted : len ≡ length_of t.turn.outcome
  pub left : room ≡ t.turn.room_after
  pub copied : shown ≡ shown_of t.turn.outcome total
  pub same : new ≡ old

-- data and a text say this answer to a call of a row: the text, which fits, or an error
abbrev pub SaysText : CallData → AnswerData → (text : List ℕ) → Answer → Type 0
SaysText call a text (Text bytes) =
    (a.error ≡ pos 0) × (bytes ≡ text) × (length text < 2 ^ 32 - 16) × (fits call text ≡ true)
SaysText call a text (Failed (Some error)) = (a.error ≡ pos error) × (0 < error)
SaysText call a text _ = ⊥

-- a request was served that asks this by the rows: by a step, of a TMPFILE as that of the CREATE; or as a row
abbrev pub ServedAs : What → (old : ServerState State) → (request : List ℕ) → (total : ℕ) → (number : ℤ)
    → (len : ℕ) → (room : List ℕ) → (shown : ℕ) → (new : ServerState State) → Type 0
ServedAs Ordinary old request total number len room shown new =
    SteppedInC old request total number len room shown new
ServedAs Unnamed old request total number len room shown new =
    SteppedInC old (as_create request) total number len room shown new
ServedAs Short old request total number len room shown new =
    RowInC old request total number len room shown new
ServedAs (Row told) old request total number len room shown new =
    RowInC old request total number len room shown new

-- a request with that many bytes of room was served, or it was not handed on
abbrev pub ServedInC : (old : ServerState State) → (request : List ℕ) → (total : ℕ) → (number : ℤ)
    → (len : ℕ) → (room : List ℕ) → (shown : ℕ) → (new : ServerState State) → Type 0
ServedInC old request total number len room shown new =
    ServedAs (what_asked old.limits request) old request total number len room shown new
    ⊎ Refused old request number len shown new
