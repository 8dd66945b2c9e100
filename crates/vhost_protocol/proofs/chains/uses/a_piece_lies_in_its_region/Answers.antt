use Rattle.std.proofs.Common.{◌≡◌, ◌≤◌, ◌+◌, ℕ, [], ◌∷◌, inl, inr, subst, arith}
use Rattle.vhost_protocol.specs.Chains.{IsWithin, Lie}
use Rattle.vhost_protocol.specs.declared.chains.regions.Region.{Region}
use Rattle.vhost_protocol.specs.declared.chains.walk.Step.{Step}
use Rattle.vhost_protocol.proofs.chains.uses.a_piece_lies_in_its_region.Goals as goal

in_second : (one two : Region) (addr len region offset : ℕ) → region ≡ 1
    → Lie (one ∷ two ∷ []) addr len region offset → (two.address + offset ≡ addr) × (offset + len ≤ two.size)
in_second one two addr len region offset is (inl (first, at, fits)) = absurd (omega (arith, is, first))
in_second one two addr len region offset is (inr (before, next, inl (first, at, fits))) = (at, fits)
in_second one two addr len region offset is (inr (before, next, inr (more, after, lie))) = absurd lie

pub returns : goal.returns
returns c one two w d piece is second =
    let regions = one ∷ two ∷ [] in
    let within = subst (λ (s : Step). IsWithin regions w d s) is (c.steps_are_within.ensures regions w d) in
    let lies = in_second one two d.addr d.len piece.place.region piece.place.offset second within.1 in
    (lies.0, lies.1, within.0)
