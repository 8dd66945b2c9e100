-- What comes of an answer.
use Rattle.std.specs.Prelude.{◌≡◌, ◌==◌, ◌&&◌, if◌then◌else◌, ◌+◌, ◌-◌, ◌^◌, ◌++◌, ⊤, ℕ, List, Bool, true, false, Option, Some, None, length, drop, nat_le, nat_lt, unwrap_or}
use Rattle.vfs_wire.specs.Records.{out_header}
use Rattle.vfs_segments.specs.Written.{Written, whole}
use Rattle.vfs_files.specs.Calls.{Kind, Quiet, Data, Agreements, Iterators, Answer, Options, IsAnswer}
use Rattle.vfs_messages.specs.Rooms.{Replies, with_after}
use Rattle.vfs_grammar.specs.Options.{agreed}
use Rattle.vfs_grammar.specs.Records.{size_of}
use Rattle.vfs_grammar.specs.Reply.{Echo, reply_of}
use Rattle.vfs_grammar.specs.Room.{unseen}
use Rattle.vfs_grammar.specs.Turn.{node_answered}
use Rattle.vfs_grammar.specs.declared.limits.Limits.{Limits}
use Rattle.codec_calls.specs.declared.call.CallData.{CallData}
use Rattle.codec_calls.specs.declared.call.number.TheConstants as number
use Rattle.codec_calls.specs.declared.data.AnswerData.{AnswerData}
use Rattle.codec_calls.specs.declared.data.ItemData.{ItemData}
use Rattle.codec_encode.specs.Listing.{IsListed}
use Rattle.codec_encode.specs.Said.{IsSaid}
use Rattle.codec_encode.specs.declared.answered.Answered.{Answered}

-- what a call's data keep of its request
abbrev pub echo_told : CallData → Echo
echo_told call = record {
  unique = call.unique;
  max_readahead = call.readahead;
  ctx = record { uid = call.uid; gid = call.gid; pid = call.pid };
}

-- the options after an answer to a call of this kind: INIT's are those agreed, and DESTROY leaves none
abbrev pub options_told : CallData → Kind → Answer → ℕ
options_told call Agreements (Options want) = agreed call.length want
options_told call Quiet answer = if call.call == number.DESTROY then 0 else call.options
options_told call kind answer = call.options

-- what comes of this answer to a call of this kind: the reply, by the rule of rooms; the options; and the
-- node of an entry whose reply doesn't fit, or 0, which is to be given back
abbrev pub Comes : Limits → CallData → Kind → Answer → (old : Written) → Answered → (new : Written)
    → Type 0
Comes limits call kind answer old came new =
    IsAnswer kind answer
    × Replies (reply_of limits (echo_told call) came.options kind answer) old came.outcome new
    × (came.options ≡ options_told call kind answer)
    × (came.given
    ≡ unwrap_or (unseen (length old.left) (reply_of limits (echo_told call) came.options kind answer)
    (node_answered kind answer)) 0)
    × (came.taken ≡ 0)

-- after the place of the reply's header, where the data of a READ are, nothing changes
abbrev pub KeepsData : Kind → (old new : Written) → Type 0
KeepsData (Data size) old new =
    (header : List ℕ) × (length header ≡ size_of out_header)
    × (whole new ≡ old.passed ++ (header ++ drop (size_of out_header) old.left))
KeepsData kind old new = ⊤

-- A call of this kind was answered: there is an answer which these data say, and this comes of it.
pub record IsAnswered (limits : Limits) (call : CallData) (kind : Kind) (a : AnswerData) (text : List ℕ)
    (old : Written) (came : Answered) (new : Written) : Type 0 where
  pub answer : Answer
  pub said : IsSaid a text old.left kind answer
  pub comes : Comes limits call kind answer old came new
  pub kept : KeepsData kind old new

-- Whether a call of this kind can be answered in this space: in all the room that was told at the call; of
-- a READ also in its first bytes, where the header has its place. Of a directory no more can have been asked
-- for than a reply can have.
abbrev pub can_answer : Option Kind → CallData → (space : ℕ) → Bool
can_answer None call space = false
can_answer (Some (Data size)) call space = nat_le (size_of out_header) space && nat_le space call.room
can_answer (Some Iterators) call space =
    (space == call.room) && (nat_le (size_of out_header) space && nat_lt call.size (2 ^ 32 - 16))
can_answer (Some kind) call space = space == call.room

-- What came of the answer to a call of this kind but READDIR, where one can be answered: the reply,
-- whatever comes after the first bytes of a READ's room. Where none can, nothing was put.
abbrev pub AnswersCall : Limits → Option Kind → CallData → AnswerData → (text : List ℕ) → (old : Written)
    → Option Answered → (new : Written) → Type 0
AnswersCall limits kind call a text old None new =
    (can_answer kind call (length old.left) ≡ false) × (new ≡ old)
AnswersCall limits None call a text old (Some came) new = ⊥
AnswersCall limits (Some kind) call a text old (Some came) new =
    (can_answer (Some kind) call (length old.left) ≡ true)
    × ((following : List ℕ) → length old.left + length following ≡ call.room
    → IsAnswered limits call kind a text (with_after old following) came (with_after new following))

-- the same of READDIR and READDIRPLUS
abbrev pub AnswersDirectory : CallData → AnswerData → (items : List ItemData) → (old : Written)
    → Option Answered → (new : Written) → Type 0
AnswersDirectory call a items old None new =
    (can_answer (Some Iterators) call (length old.left) ≡ false) × (new ≡ old)
AnswersDirectory call a items old (Some came) new =
    (can_answer (Some Iterators) call (length old.left) ≡ true) × IsListed call a items old came new

-- the same of any call
abbrev pub Answers : Limits → Option Kind → CallData → AnswerData → (text : List ℕ)
    → (items : List ItemData) → (old : Written) → Option Answered → (new : Written) → Type 0
Answers limits (Some Iterators) call a text items old result new =
    AnswersDirectory call a items old result new
Answers limits kind call a text items old result new = AnswersCall limits kind call a text old result new
