-- A turn by both tables: what follows from a request where a file system offers rows of the further one.
use Rattle.std.specs.Prelude.{◌≡◌, ◌==◌, if◌then◌else◌, ℕ, List, [], ◌∷◌, ◌++◌, length, Option, Some, None}
use Rattle.vfs_files.specs.Calls.{Answer, Kind, Told, Texts, Offsets, Writes, Quiet, IsAnswer}
use Rattle.vfs_grammar.specs.Reply.{Refusal, reply_of}
use Rattle.vfs_grammar.specs.Room.{IsReplied}
use Rattle.vfs_grammar.specs.Turn.{Turn, IsTurn}
use Rattle.vfs_grammar.specs.declared.error.Error.TheVariants.{DecodeMessage}
use Rattle.vfs_grammar.specs.declared.limits.Limits.{Limits}
use Rattle.codec_calls.specs.declared.call.CallData.{CallData}
use Rattle.codec_calls.specs.declared.call.kind.TheConstants as kind
use Rattle.codec_calls.specs.declared.call.number.TheConstants as number
use Rattle.codec_encode.specs.Answering.{echo_told}
use Rattle.codec_decode.specs.WithOpcode.{with_opcode}
use Rattle.codec_encode.specs.Fitting.{IsFit}
use Rattle.codec_decode.specs.Further.{What, Ordinary, Short, Row, Unnamed, told_under, what_of}

-- A request with what is seen of it from outside, and with the rows that are offered then: a turn, and the call of a
-- row with its answer, where one was asked for.
pub record OfferedTurn : Type 0 where
  pub offers : ℕ
  pub turn : Turn
  pub row : Option (CallData × Answer)

-- the kinds of answers of the rows, by the numbers that tell them
abbrev pub row_kind : (number : ℕ) → Kind
row_kind n =
    if n == kind.STATUS then Told
    else if n == kind.BYTES then Texts
    else if n == kind.OFFSET then Offsets
    else if n == kind.COUNT then Writes
    else Quiet

-- the bytes of a TMPFILE with CREATE's number in place of its own: they ask what it asks
abbrev pub as_create : (request : List ℕ) → List ℕ
as_create request = with_opcode number.CREATE request

-- a turn of a TMPFILE, as that of the CREATE
abbrev pub created_turn : Turn → Turn
created_turn t = record t { request = as_create t.request }

-- What follows in a turn from a request that asks this call of a row: it has an answer of its kind, which fits. Its
-- reply is that of its kind of answer, by the rule of rooms.
abbrev pub FollowsRow : OfferedTurn → Limits → (told : CallData) → (after : ℕ) → Type 0
FollowsRow t limits told after =
    (answer : Answer)
    × (t.row ≡ Some (told, answer))
    × (t.turn.events ≡ [])
    × IsAnswer (row_kind told.answer) answer
    × IsFit told (row_kind told.answer) answer
    × IsReplied (reply_of limits (echo_told told) after (row_kind told.answer) answer) t.turn.room
    t.turn.outcome t.turn.room_after
    × (after ≡ told.options)

-- What follows from a request that asks this by the further table, with the options before and after it: what
-- follows by virtiofsd's; or it is refused, without a reply; or a call of a row follows; or what follows from a
-- CREATE by virtiofsd's table.
abbrev pub FollowsOffered : OfferedTurn → Limits → (options : ℕ) → What → (after : ℕ) → Type 0
FollowsOffered t limits options Ordinary after = (t.row ≡ None) × IsTurn limits options t.turn after
FollowsOffered t limits options Short after =
    (t.row ≡ None) × (t.turn.events ≡ [])
    × IsReplied (Refusal DecodeMessage) t.turn.room t.turn.outcome t.turn.room_after
    × (after ≡ options)
FollowsOffered t limits options (Row told) after =
    FollowsRow t limits (told_under options (length t.turn.room) told) after
FollowsOffered t limits options Unnamed after =
    (t.row ≡ None) × IsTurn limits options (created_turn t.turn) after

-- a turn of a file system that offers rows
abbrev pub IsOfferedTurn : Limits → (options : ℕ) → OfferedTurn → (after : ℕ) → Type 0
IsOfferedTurn limits options t after =
    FollowsOffered t limits options (what_of t.offers limits t.turn.request) after

-- a turn of virtiofsd's table, of a file system that offers nothing
abbrev pub plain : Turn → OfferedTurn
plain turn = record { offers = 0; turn = turn; row = None }

-- ---- the books

-- what the books see of a turn whose request asks this: a turn of virtiofsd's table, of a TMPFILE that of the
-- CREATE, and of a row nothing
abbrev pub seen_of : Turn → What → List Turn
seen_of t Ordinary = t ∷ []
seen_of t Short = []
seen_of t (Row told) = []
seen_of t Unnamed = created_turn t ∷ []

abbrev pub seen : Limits → OfferedTurn → List Turn
seen limits t = seen_of t.turn (what_of t.offers limits t.turn.request)

-- what they see of several
abbrev pub all_seen : Limits → List OfferedTurn → List Turn
all_seen limits [] = []
all_seen limits (t ∷ ts) = seen limits t ++ all_seen limits ts

-- turns, each under options of its own: those that it was asked with
abbrev pub AreOffered : Limits → List OfferedTurn → Type 0
AreOffered limits [] = Unit {0}
AreOffered limits (t ∷ ts) =
    (options after : ℕ) × IsOfferedTurn limits options t after × AreOffered limits ts

-- turns in order, each with the options that the one before it left
abbrev pub AreOfferedInOrder : Limits → (options : ℕ) → List OfferedTurn → (after : ℕ) → Type 0
AreOfferedInOrder limits options [] after = after ≡ options
AreOfferedInOrder limits options (t ∷ ts) after =
    (mid : ℕ) × IsOfferedTurn limits options t mid × AreOfferedInOrder limits mid ts after
