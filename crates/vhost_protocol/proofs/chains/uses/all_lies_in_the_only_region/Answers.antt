use Rattle.std.proofs.Common.{◌≡◌, ◌≤◌, ◌+◌, ℕ, [], ◌∷◌, inl, inr, subst}
use Rattle.vhost_protocol.specs.Chains.{IsWithin, Lie}
use Rattle.vhost_protocol.specs.declared.chains.regions.Region.{Region}
use Rattle.vhost_protocol.specs.declared.chains.walk.Step.{Step}
use Rattle.vhost_protocol.proofs.chains.uses.all_lies_in_the_only_region.Goals as goal

in_only : (only : Region) (addr len region offset : ℕ) → Lie (only ∷ []) addr len region offset
    → (region ≡ 0) × (only.address + offset ≡ addr) × (offset + len ≤ only.size)
in_only only addr len region offset (inl (first, at, fits)) = (first, at, fits)
in_only only addr len region offset (inr (before, next, lie)) = absurd lie

pub returns-clause-piece : goal.returns-clause-piece
returns-clause-piece c only w next d piece is =
    let within = subst (λ (s : Step). IsWithin (only ∷ []) w d s) is (c.steps_are_within.ensures (only ∷ []) w d) in
    in_only only d.addr d.len piece.place.region piece.place.offset within.1

pub returns-clause-table : goal.returns-clause-table
returns-clause-table c only w next d place is =
    let within = subst (λ (s : Step). IsWithin (only ∷ []) w d s) is (c.steps_are_within.ensures (only ∷ []) w d) in
    in_only only d.addr _ place.region place.offset within.0
