-- From the call that was noted to the call that is told.
use Rattle.std.proofs.Common.{◌≡◌, ◌==◌, ◌∙◌, ℕ, true, false, List, Result, refl, ap, subst, sym, inl, inr}
use Rattle.vfs_flags.specs.declared.opcode.Opcode.{Opcode}
use Rattle.vfs_segments.specs.Written.{Written}
use Rattle.vfs_wire.specs.declared.headers.InHeader.{InHeader}
use Rattle.vfs_files.specs.Calls.{Call}
use Rattle.vfs_files.specs.Calls as call
use Rattle.vfs_grammar.specs.Forms.{Ask, Ends, Asks, Lists, WithMemory}
use Rattle.vfs_grammar.specs.declared.error.Error.{Error}
use Rattle.codec_calls.specs.Shapes.{nothing, shape_of}
use Rattle.codec_calls.specs.declared.call.CallData.{CallData}
use Rattle.codec_decode.specs.Asked.{IsTold, Tells}
use Rattle.codec_decode.specs.Noting.{IsNoted, NotedAndTold}
use Rattle.codec_decode.specs.Parts.{told_with}
use Rattle.codec_decode.specs.declared.asked.Asked.{Asked}
use Rattle.codec_decode.specs.declared.asked.Asked.TheVariants as asked
use Rattle.codec_decode.proofs.Placing.{CallIsTold, ListingIsTold, OfCall, told}

-- no call has the number 0
is_some_call : (c : Call) → ((shape_of c).call == 0) ≡ false
is_some_call (call.Lookup ctx parent name) = refl
is_some_call _ = refl

-- so the record of one that was noted has none
not_none : (c : CallData) → (c.call == 0) ≡ false → c.call ≡ 0 → ⊥
not_none c some none = let e : (c.call == 0) ≡ true = ap (λ n. n == 0) none in let f = sym e ∙ some in cc

module _ (wanted : Type 0) (q : List ℕ) (options room : ℕ) (writer : Written) (outcome : Result ℕ Error) (writer_after : Written) (noted : CallData) where
  -- where no call was noted, the request is finished
  pub finished_where_none : (a : Ask) → noted.call ≡ 0 → IsNoted wanted a writer outcome writer_after noted
      → Tells wanted q options 0 room a writer (asked.Finished outcome 0) writer_after noted
  finished_where_none (Ends reply) none n = (n.1, refl, n.0)
  finished_where_none (Asks echo c) none n = absurd (not_none (shape_of c) (is_some_call c) (ap (λ (d : CallData). d.call) (sym n) ∙ none))
  finished_where_none (Lists echo l) none n = absurd (not_none noted (ap (λ (d : CallData). d.call == 0) n) none)
  finished_where_none (WithMemory rest) none (inl n) = inl (finished_where_none rest none n)
  finished_where_none (WithMemory rest) none (inr n) = inr (n.0, (n.2, refl, n.1))

  -- and else that call is told
  pub told_where_noted : (h : InHeader) (len : ℕ) (o : Opcode) (a : Ask)
      → OfCall (CallIsTold q h options room len o) (ListingIsTold q h options room len o) a
      → (noted.call ≡ 0 → ⊥) → IsNoted wanted a writer outcome writer_after noted
      → Tells wanted q options 0 room a writer asked.Call writer_after (told q h options room len o noted)
  told_where_noted h len o (Ends reply) is some n = absurd (some (ap (λ (d : CallData). d.call) n.0))
  told_where_noted h len o (Asks echo c) is some n =
      (refl, subst (λ (d : CallData). IsTold q options room echo c (told q h options room len o d)) (sym n) is)
  told_where_noted h len o (Lists echo l) is some n =
      (refl, ap (told q h options room len o) n ∙ is)
  told_where_noted h len o (WithMemory rest) is some (inl n) = inl (told_where_noted h len o rest is some n)
  told_where_noted h len o (WithMemory rest) is some (inr n) = absurd (some (ap (λ (d : CallData). d.call) n.1))

-- a record in which no call was noted has nothing
pub none_is_nothing : (wanted : Type 0) (writer : Written) (outcome : Result ℕ Error) (writer_after : Written) (noted : CallData) (a : Ask) → noted.call ≡ 0
    → IsNoted wanted a writer outcome writer_after noted → noted ≡ nothing
none_is_nothing wanted writer outcome writer_after noted (Ends reply) none n = n.0
none_is_nothing wanted writer outcome writer_after noted (Asks echo c) none n = absurd (not_none (shape_of c) (is_some_call c) (ap (λ (d : CallData). d.call) (sym n) ∙ none))
none_is_nothing wanted writer outcome writer_after noted (Lists echo l) none n = absurd (not_none noted (ap (λ (d : CallData). d.call == 0) n) none)
none_is_nothing wanted writer outcome writer_after noted (WithMemory rest) none (inl n) = none_is_nothing wanted writer outcome writer_after noted rest none n
none_is_nothing wanted writer outcome writer_after noted (WithMemory rest) none (inr n) = n.1

-- so what was noted and told is what is asked
pub tells_noted : (wanted : Type 0) (q : List ℕ) (options room : ℕ) (writer writer_after : Written) (h : InHeader) (len : ℕ) (o : Opcode) (a : Ask) (result : Asked) (told_call : CallData)
    → OfCall (CallIsTold q h options room len o) (ListingIsTold q h options room len o) a
    → NotedAndTold wanted a (told_with h.unique options room len o) writer result writer_after told_call
    → Tells wanted q options 0 room a writer result writer_after told_call
tells_noted wanted q options room writer writer_after h len o a result told_call is n = elim n.told_so [
  | inl x ↦ rw (x.1, x.2) (finished_where_none wanted q options room writer n.outcome writer_after n.noted a x.0 n.is_noted)
  | inr x ↦ rw (x.1, x.2) (told_where_noted wanted q options room writer n.outcome writer_after n.noted h len o a is x.0 n.is_noted)
]
