-- What C is told of a call that was answered.
use Rattle.std.specs.Prelude.{◌≡◌, ◌≤◌, ◌==◌, ◌||◌, ◌&&◌, if◌then◌else◌, ◌⊎◌, ℕ, ℤ, pos, List, [], length, Option, Some, None, IfSome}
use Rattle.std.specs.Ordering.{int_eq}
use Rattle.vfs_segments.specs.Written.{Written}
use Rattle.vfs_grammar.specs.declared.limits.Limits.{Limits}
use Rattle.codec_calls.specs.declared.call.CallData.{CallData}
use Rattle.codec_calls.specs.declared.call.kind.TheConstants as kind
use Rattle.codec_calls.specs.declared.data.AnswerData.{AnswerData}
use Rattle.codec_calls.specs.declared.data.ItemData.{ItemData}
use Rattle.codec_encode.specs.Kinds.{kind_told}
use Rattle.codec_encode.specs.Answering.{Answers}
use Rattle.codec_encode.specs.Told.{AnswersEachCall, AnswersEachListing}
use Rattle.codec_encode.specs.declared.answered.Answered.{Answered}
use Rattle.c_rooms.specs.Codes.{no_memory, not_asked, outcome_code, length_of}
use Rattle.nizwarf_codec.specs.Kept.{put_of}
use Rattle.nizwarf_codec.specs.Shown.{AreFirst}
use Rattle.nizwarf_codec.specs.declared.data.ToldData.{ToldData}

-- the node of the entry that was answered to a call whose answers have one, and 0 where there is none
abbrev pub entry_of : CallData → AnswerData → ℕ
entry_of call a =
    if (call.answer == kind.ENTRY || call.answer == kind.CREATE) && int_eq a.error (pos 0) then a.entry.node
    else 0

-- ---- no more is of the promise: the rest is for the clause `answered`, which says the same over writers

-- what is told of an answer: how long the reply is, the options, and what is to be given back
abbrev pub answered : CallData → Answered → ToldData → ToldData
answered call came told = record told {
  len = length_of came.outcome;
  put = put_of call (length_of came.outcome);
  options = came.options;
  give_back = came.given;
  taken = came.taken;
}

-- What is told of this: the number of the outcome, and the reply's bytes to be copied out; or that the
-- call can't be answered.
abbrev pub IsAnswerTold : Option Answered → CallData → (before after : Written) → (code : ℤ)
    → (told told_after : ToldData) → (shown : List ℕ) → Type 0
IsAnswerTold None call before after code told told_after shown =
    (code ≡ not_asked) × (told_after ≡ told) × (shown ≡ [])
IsAnswerTold (Some came) call before after code told told_after shown =
    (code ≡ outcome_code came.outcome)
    × (told_after ≡ answered call came told)
    × AreFirst (put_of call (length_of came.outcome)) before after shown

-- The call was answered, with a writer that had as many bytes left as it is to have.
pub record AnswersIn (limits : Limits) (call : CallData) (a : AnswerData) (text : List ℕ)
    (items : List ItemData) (code : ℤ) (told told_after : ToldData) (shown : List ℕ) : Type 0 where
  pub before : Written
  pub space : length before.left ≡ put_of call call.room
  pub result : Option Answered
  pub after : Written
  pub by_kind :
      Answers limits (kind_told call.answer call.size) call a text items before result after
  pub calls : AnswersEachCall limits call a text before result after
  pub listings : AnswersEachListing limits call a items before result after
  pub within : IfSome result (λ came. came.taken ≤ length items)
  pub passed_on : IsAnswerTold result call before after code told told_after shown

-- The call was not answered, for want of memory: an entry is to be given back, no item is in a reply, and nothing is
-- there to be copied out. The rest of what was told stays.
pub record IsNotAnswered (call : CallData) (a : AnswerData) (code : ℤ) (told told_after : ToldData)
    (shown : List ℕ) : Type 0 where
  pub why : code ≡ no_memory
  pub entry_back : told_after ≡ record told { give_back = entry_of call a; taken = 0 }
  pub none_shown : shown ≡ []

-- a call was answered, or not
abbrev pub AnswersOrNot : (limits : Limits) → (call : CallData) → (a : AnswerData) → (text : List ℕ)
    → (items : List ItemData) → (code : ℤ) → (told told_after : ToldData) → (shown : List ℕ) → Type 0
AnswersOrNot limits call a text items code told told_after shown =
    AnswersIn limits call a text items code told told_after shown
    ⊎ IsNotAnswered call a code told told_after shown
