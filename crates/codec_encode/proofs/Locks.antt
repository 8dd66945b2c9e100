-- The reply to a GETLK that was answered a lock.
use Rattle.std.proofs.Common.{◌≡◌, ◌∙◌, ◌+◌, ◌++◌, ℕ, pos, List, [], length, Option, None, Some, Ok, MatchOption, refl, ap, subst, arith, inl, inr, false}
use Rattle.std.proofs.lemmas.List.{append-nil}
use Rattle.vfs_segments.specs.Written.{Written}
use Rattle.vfs_files.specs.Calls.{Answer, Failed, Text, Texts}
use Rattle.vfs_messages.specs.Rooms.{with_after}
use Rattle.vfs_grammar.specs.Reply.{body_reply}
use Rattle.vfs_grammar.specs.Words.{put_outcome}
use Rattle.vfs_grammar.specs.declared.limits.Limits.{Limits}
use Rattle.vfs_grammar.proofs.Rooms.{length-body_reply}
use Rattle.codec_calls.specs.declared.data.AnswerData.{AnswerData}
use Rattle.codec_encode.specs.Answering.{Answers, Comes}
use Rattle.codec_encode.specs.Said.{IsSaid}
use Rattle.codec_encode.specs.declared.answered.Answered.{Answered}
use Rattle.codec_encode.specs.Fitting.{answer_offered, is_unfit}
use Rattle.codec_encode.specs.Uses.{getlk_asked}

-- a reply of a header and 24 bytes has room in 4096
fits : (lock room : List ℕ) → length lock ≡ 24 → length room ≡ 4096 → put_outcome (body_reply lock 9) room ≡ Ok 40
fits lock room size left =
    let whole : length (body_reply lock 9) ≡ 40 = length-body_reply lock 9 ∙ ap (λ (n : ℕ). 16 + n) size in
    rw (whole, left) refl

module _ (limits : Limits) (a : AnswerData) (lock : List ℕ) (old new : Written) (fine : a.error ≡ pos 0)
    (size : length lock ≡ 24) (left : length old.left ≡ 4096) where
  by : (answer : Answer) (came : Answered) → IsSaid a lock (with_after old []).left Texts answer
      → Comes limits (getlk_asked 0 4096) Texts answer (with_after old []) came (with_after new [])
      → came.outcome ≡ Ok 40
  by (Text bytes) came said comes =
      comes.1.says.says
      ∙ fits bytes (old.left ++ []) (ap length said.1 ∙ size) (ap length (append-nil old.left) ∙ left)
  by (Failed fault) came (inl failed) comes = absurd (failed.0 fine)
  by (Failed fault) came (inr long) comes = absurd (omega (arith, size, long.1.1))
  by _ came said comes = absurd said.1

  unfit : is_unfit (getlk_asked 0 4096) a lock ≡ false
  unfit = rw (fine, size) refl

  as_it_is : answer_offered (getlk_asked 0 4096) a lock ≡ a
  as_it_is = rw unfit refl

  at : (result : Option Answered)
      → Answers limits (Some Texts) (getlk_asked 0 4096) a lock [] old result new
      → MatchOption result ⊥ (λ came. came.outcome ≡ Ok 40)
  at None h = absurd (let e = rw left at h.0 in cc)
  at (Some came) h =
      let it = h.1 [] (omega (arith, left)) in
      by it.answer came it.said it.comes

  pub lock_answered : (result : Option Answered)
      → Answers limits (Some Texts) (getlk_asked 0 4096) (answer_offered (getlk_asked 0 4096) a lock) lock []
      old result new
      → MatchOption result ⊥ (λ came. came.outcome ≡ Ok 40)
  lock_answered result h =
      at result (subst (λ (b : AnswerData).
      Answers limits (Some Texts) (getlk_asked 0 4096) b lock [] old result new) as_it_is h)
