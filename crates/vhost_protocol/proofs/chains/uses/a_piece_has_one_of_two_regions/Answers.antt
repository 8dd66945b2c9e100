use Rattle.std.proofs.Common.{◌≤◌, ℕ, [], ◌∷◌, inl, inr, subst, arith}
use Rattle.vhost_protocol.specs.Chains.{IsWithin, Lie}
use Rattle.vhost_protocol.specs.declared.chains.regions.Region.{Region}
use Rattle.vhost_protocol.specs.declared.chains.walk.Step.{Step}
use Rattle.vhost_protocol.proofs.chains.uses.a_piece_has_one_of_two_regions.Goals as goal

in_two : (one two : Region) (addr len region offset : ℕ) → Lie (one ∷ two ∷ []) addr len region offset → region ≤ 1
in_two one two addr len region offset (inl (first, at, fits)) = omega (arith, first)
in_two one two addr len region offset (inr (before, next, inl (first, at, fits))) = omega (arith, next, first)
in_two one two addr len region offset (inr (before, next, inr (more, after, lie))) = absurd lie

pub returns : goal.returns
returns c one two w d piece is =
    let regions = one ∷ two ∷ [] in
    let within = subst (λ (s : Step). IsWithin regions w d s) is (c.steps_are_within.ensures regions w d) in
    in_two one two d.addr d.len piece.place.region piece.place.offset within.1
