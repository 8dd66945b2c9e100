-- What a call adds to the history of the server after a handle.
use Rattle.std.specs.Prelude.{◌≡◌, ◌⊎◌, ℕ, ℤ, List, [], ◌∷◌, ◌++◌, length}
use Rattle.vfs_grammar.specs.Books.{KeepsBooks}
use Rattle.vfs_grammar.specs.Turn.{Turn}
use Rattle.vfs_server.specs.Step.{ServerState}
use Rattle.laws_history.specs.History.{Moment, Handled, Changed, IsHistory, turns_in}
use Rattle.codec_decode.specs.Further.{What, Ordinary, Short, Row, Unnamed}
use Rattle.laws_flight.specs.OfferedTurns.{as_create}
use Rattle.c_rooms.specs.Codes.{outcome_code, length_of, shown_of}
use Rattle.nizwarf_tree.specs.Files.{State, Allows, Gives, at_time}
use Rattle.nizwarf_tree.specs.Offered.{what_asked}
use Rattle.nizwarf_tree.specs.Served.{Refused, RowInC}

-- whatever history the server had, it has these moments more
abbrev pub Extends : (old : ServerState State) → List (Moment State) → (new : ServerState State)
    → Type 0
Extends old more new =
    (first : ServerState State) (moments : List (Moment State))
    → IsHistory Allows Gives first moments old → IsHistory Allows Gives first (moments ++ more) new

-- The server handled a request, by a turn of these bytes and of a room of that many. The number and the
-- length are those of its outcome, `room` is the room after it, and the first `shown` bytes of that are
-- there to be copied out. The turn is the last moment of the server's history.
pub record Turned (old : ServerState State) (request : List ℕ) (total : ℕ) (number : ℤ) (len : ℕ)
    (room : List ℕ) (shown : ℕ) (new : ServerState State) : Type 0 where
  pub t : Turn
  pub asked : t.request ≡ request
  pub space : length t.room ≡ total
  pub numbered : number ≡ outcome_code t.outcome
  pub counted : len ≡ length_of t.outcome
  pub left : room ≡ t.room_after
  pub copied : shown ≡ shown_of t.outcome total
  pub extends : Extends old (Handled t ∷ []) new

-- a request was answered that asks this by the rows: one turn more, of a TMPFILE that of the CREATE; or, as a row, it
-- is no moment
abbrev pub AnsweredAs : What → (old : ServerState State) → (request : List ℕ) → (total : ℕ) → (number : ℤ)
    → (len : ℕ) → (room : List ℕ) → (shown : ℕ) → (new : ServerState State) → Type 0
AnsweredAs Ordinary old request total number len room shown new =
    Turned old request total number len room shown new
AnsweredAs Unnamed old request total number len room shown new =
    Turned old (as_create request) total number len room shown new
AnsweredAs Short old request total number len room shown new =
    RowInC old request total number len room shown new
AnsweredAs (Row told) old request total number len room shown new =
    RowInC old request total number len room shown new

-- a message was answered, or it was not handed on
abbrev pub Answered : (old : ServerState State) → (request : List ℕ) → (total : ℕ) → (number : ℤ)
    → (len : ℕ) → (room : List ℕ) → (shown : ℕ) → (new : ServerState State) → Type 0
Answered old request total number len room shown new =
    AnsweredAs (what_asked old.limits request) old request total number len room shown new
    ⊎ Refused old request number len shown new

-- the file system was told the time: one change more
abbrev pub Told : (old : ServerState State) → (seconds nanoseconds : ℕ)
    → (new : ServerState State) → Type 0
Told old seconds nanoseconds new =
    Extends old (Changed old.fs (at_time old.fs seconds nanoseconds) ∷ []) new

-- the moments that an answered request adds to a history, which asks this by the rows
abbrev pub AreAdded : What → (request : List ℕ) → List (Moment State) → Type 0
AreAdded Ordinary request added = (t : Turn) × (added ≡ Handled t ∷ []) × (t.request ≡ request)
AreAdded Unnamed request added = (t : Turn) × (added ≡ Handled t ∷ []) × (t.request ≡ as_create request)
AreAdded Short request added = added ≡ []
AreAdded (Row told) request added = added ≡ []

-- A server was told the time, answered a request, was told the time again, and answered another one: these
-- are its history, and the books of its turns are kept.
pub record HandlesTwo (first : ServerState State) (one two : List ℕ) (now : ServerState State)
    : Type 0 where
  pub a : List (Moment State)
  pub b : List (Moment State)
  pub between : State
  pub asked_first : AreAdded (what_asked first.limits one) one a
  pub asked_then : AreAdded (what_asked first.limits two) two b
  pub moments : List (Moment State)
  pub are :
      moments
      ≡ ((Changed first.fs (at_time first.fs 1 0) ∷ []) ++ a) ++ (Changed between (at_time between 2 0) ∷ [])
      ++ b
  pub history : IsHistory Allows Gives first moments now
  pub books : KeepsBooks (turns_in moments)
