use Rattle.std.proofs.Common.{◌≡◌, ◌≢◌, ◌∙◌, ℕ, pos, List, [], ◌∷◌, Option, None, inl, inr, refl, ap, subst, sym, unwrap_or}
use Rattle.vfs_files.specs.Calls.{Getattr, TimedAttributes, Answer, Done, Failed, Options, Found, Attributes, Put, Opened, Created, Statistics, Text, Count, Offset, Wrote}
use Rattle.vfs_files.specs.Runs.{Called}
use Rattle.vfs_grammar.specs.Forms.{Ask}
use Rattle.vfs_grammar.specs.Listing.{given_back}
use Rattle.codec_calls.specs.declared.data.AnswerData.{AnswerData}
use Rattle.codec_encode.specs.Said.{IsSaid, IsFailed}
use Rattle.laws_flight.specs.OneTurn.{HappenedBetween}
use Rattle.laws_flight.proofs.crossing.an_error_is_the_answer.Goals as goal

module _ (a : AnswerData) (text room : List ℕ) (some : a.error ≢ pos 0) where
  said : (answer : Answer) → IsSaid a text room TimedAttributes answer
      → (fault : Option ℕ) × IsFailed a fault × (answer ≡ Failed fault)
  said (Failed fault) (inl failed) = (fault, failed, refl)
  said (Failed fault) (inr unfit) = absurd (some unfit.0)
  said Done h = absurd (some h.0)
  said (Options want) h = absurd (some h.0)
  said (Found entry) h = absurd (some h.0)
  said (Attributes attributes timeout) h = absurd (some h.0)
  said (Put bytes) h = absurd (some h.0)
  said (Opened handle options) h = absurd (some h.0)
  said (Created entry handle options) h = absurd (some h.0)
  said (Statistics statistics) h = absurd (some h.0)
  said (Text bytes) h = absurd (some h.0)
  said (Count n) h = absurd (some h.0)
  said (Offset n) h = absurd (some h.0)
  said (Wrote n) h = absurd (some h.0)

pub returns : goal.returns
returns c limits options request a text items old came new echo ctx inode handle asks some t =
    let h = subst (λ (q : Ask). HappenedBetween limits q a text items old.left came t.events) asks t.happened in
    let s = said a text old.left some h.0 h.2 in
    let none : h.1 ≡ None = h.3 in (
      s.0,
      s.1,
      h.5 ∙ subst (λ (o : Option ℕ). Called (Getattr ctx inode handle) h.0 ∷ given_back echo.ctx o ≡ Called (Getattr ctx inode handle) h.0 ∷ []) (sym none) refl
          ∙ ap (λ (answer : Answer). Called (Getattr ctx inode handle) answer ∷ []) s.2,
      h.4 ∙ ap (λ (o : Option ℕ). unwrap_or o 0) none,
    )
