use Rattle.std.proofs.Common.{◌≡◌, ℕ, inl, inr, subst, sym, arith}
use Rattle.std.proofs.lemmas.Bool.Decides.{nat_tests}
use Rattle.vfs_wire.specs.declared.headers.InHeader.{InHeader}
use Rattle.codec_decode.specs.AtOnce.{IsAskedMost}
use Rattle.nizwarf_codec.proofs.ask.is_asked_most.Goals as goal

pub returns-then-header-clause-most : goal.returns-then-header-clause-most
returns-then-header-clause-most c = λ said.
    subst (λ (h : InHeader). IsAskedMost h.opcode) c.part_at-header.ensures.read (inl c.if-header.true)

pub returns-then-header-2-clause-most : goal.returns-then-header-2-clause-most
returns-then-header-2-clause-most c = λ said.
    subst (λ (h : InHeader). IsAskedMost h.opcode) c.part_at-header.ensures.read (inr (inl c.if-header-2.true))

pub returns-then-header-3-clause-most : goal.returns-then-header-3-clause-most
returns-then-header-3-clause-most c = λ said.
    subst (λ (h : InHeader). IsAskedMost h.opcode) c.part_at-header.ensures.read (inr (inr (inl c.if-header-3.true)))

pub returns-clause-most : goal.returns-clause-most
returns-clause-most c = λ said.
    let is : c.part_at-header.result.opcode ≡ 16 = grind (arith, nat_tests, said) in
    subst (λ (h : InHeader). IsAskedMost h.opcode) c.part_at-header.ensures.read (inr (inr (inr is)))

last : (n : ℕ) → IsAskedMost n → (n ≡ 1 → ⊥) → (n ≡ 3 → ⊥) → (n ≡ 15 → ⊥) → n ≡ 16
last n (inl is) a b c = absurd (a is)
last n (inr (inl is)) a b c = absurd (b is)
last n (inr (inr (inl is))) a b c = absurd (c is)
last n (inr (inr (inr is))) a b c = is

pub returns-clause-all : goal.returns-clause-all
returns-clause-all c = λ most.
    let is = last c.part_at-header.result.opcode
    (subst (λ (h : InHeader). IsAskedMost h.opcode) (sym c.part_at-header.ensures.read) most)
    c.if-header.false c.if-header-2.false c.if-header-3.false in
    grind (arith, nat_tests, is)
