use Rattle.std.proofs.Common.{◌+◌, ◌∙◌, ℕ, ap, sym}
use Rattle.test_uses.proofs.clauses.flags.twelve_versions.Goals as goal

pub returns : goal.returns
returns c =
    let law = c.versions_have_their_numbers.ensures in
    law.minor ∙ ap (λ (n : ℕ). n + 11) (sym law.lowest_minor)
