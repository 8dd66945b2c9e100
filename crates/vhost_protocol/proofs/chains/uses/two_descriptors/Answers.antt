use Rattle.std.proofs.Common.{◌≡◌, ◌≤◌, ◌<◌, ◌+◌, ℕ, List, [], ◌∷◌, true, false, length, inl, inr, ap, arith}
use Rattle.vhost_protocol.specs.Chains.{AreLinked, AreFew, AreOrdered, HaveBytes, HavePieces, entry}
use Rattle.vhost_protocol.specs.Descriptors.{is_table, is_writable}
use Rattle.vhost_protocol.specs.declared.chains.descriptor.Descriptor.{Descriptor}
use Rattle.vhost_protocol.specs.declared.chains.regions.Region.{Region}
use Rattle.vhost_protocol.specs.declared.chains.walk.Piece.{Piece}
use Rattle.vhost_protocol.proofs.chains.uses.two_descriptors.Goals as goal

module _ (a b : Descriptor) (first : is_table a ≡ false) (second : is_table b ≡ false) where
  linked : (most : ℕ) (indirect table : List ℕ) (size head : ℕ)
      → AreLinked most indirect false table size head (a ∷ b ∷ [])
      → (a ≡ entry table head) × (b ≡ entry table a.next) × (a.next < size)
  linked most indirect table size head (at, is, inl t) = let e = t.0 in absurd (cc)
  linked most indirect table size head (at, is, inr (inl (p, more, rest))) = (is, rest.1, rest.0)
  linked most indirect table size head (at, is, inr (inr (p, last, none))) =
      let n = ap length none in absurd (omega (arith, n))

  few : (size : ℕ) → AreFew size (a ∷ b ∷ []) → 2 ≤ size
  few size (one, inl (t, more)) = absurd (cc)
  few size (one, inr (p, more)) = omega (arith, one, more.0)

  ordered : AreOrdered false (a ∷ b ∷ []) → is_writable a ≡ true → is_writable b ≡ true
  ordered (inl (t, more)) = absurd (cc)
  ordered (inr (p, may, inl (t, more))) = absurd (cc)
  ordered (inr (p, may, inr (q, then, rest))) = then

  bytes : (rest : ℕ) → HaveBytes rest (a ∷ b ∷ []) → a.len + b.len ≤ rest
  bytes rest (inl (t, more)) = absurd (cc)
  bytes rest (inr (p, one, inl (t, more))) = absurd (cc)
  bytes rest (inr (p, one, inr (q, other, more))) = omega (arith, one, other)

  placed : (regions : List Region) (pieces : List Piece) → HavePieces regions (a ∷ b ∷ []) pieces
      → length pieces ≡ 2
  placed regions pieces (inl t) = let e = t.0 in absurd (cc)
  placed regions pieces (inr (p, place, rest, at, is, inl t)) = let e = t.0 in absurd (cc)
  placed regions pieces (inr (p, place, rest, at, is, inr (q, other, [], then, ends, none))) =
      let m = ap length is in let n = ap length ends in omega (arith, m, n)
  placed regions pieces (inr (p, place, rest, at, is, inr (q, other, x ∷ xs, then, ends, none))) = absurd none

pub returns : goal.returns
returns c regions indirect table size most head w a b pieces begins one other goes =
    let chain = (c.walks_are_chains.ensures regions indirect table size most head w (a ∷ b ∷ []) pieces begins).0 goes in
    let links = linked a b one other most indirect table size head chain.linked in (
      links.0,
      links.1,
      links.2,
      few a b one other size chain.few,
      ordered a b one other chain.ordered,
      bytes a b one other _ chain.bytes,
      placed a b one other regions pieces chain.placed,
    )
