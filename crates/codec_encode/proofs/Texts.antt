-- An answer that a text is said to be fits.
use Rattle.std.proofs.Common.{◌≡◌, ◌==◌, ◌&&◌, ℕ, ℤ, pos, Bool, true, false, not, List, refl, sym, subst}
use Rattle.std.specs.Ordering.{int_eq}
use Rattle.vfs_files.specs.Calls.{Answer, Text, Texts}
use Rattle.codec_calls.specs.declared.call.CallData.{CallData}
use Rattle.codec_calls.specs.declared.call.kind.TheConstants as kind
use Rattle.codec_calls.specs.declared.data.AnswerData.{AnswerData}
use Rattle.codec_encode.specs.Said.{IsSaid}
use Rattle.codec_encode.specs.Fitting.{IsFit, answer_offered, fits, is_unfit}

fitting : (error : ℤ) (fit : Bool) → (int_eq error (pos 0) && not fit) ≡ false → error ≡ pos 0 → fit ≡ true
fitting error true test none = refl
fitting error false test none = absurd (let e = rw none at test in cc)

module _ (told : CallData) (is : (told.answer == kind.BYTES) ≡ true) (a : AnswerData) (text : List ℕ) where
  -- a text that is said is in the place of none that doesn't fit
  by : (unfit : Bool) → is_unfit told a text ≡ unfit → (answer_offered told a text).error ≡ pos 0
      → fits told text ≡ true
  by true test none = absurd (let e = rw test at none in cc)
  by false test none =
      let same : a.error ≡ pos 0 = rw test at none in
      fitting a.error (fits told text) (rw is at test) same

  pub said_fits : (room : List ℕ) (answer : Answer) → IsSaid (answer_offered told a text) text room Texts answer
      → IsFit told Texts answer
  said_fits room (Text bytes) said =
      subst (λ (t : List ℕ). fits told t ≡ true) (sym said.1) (by (is_unfit told a text) refl said.0)
  said_fits room _ said = tt
