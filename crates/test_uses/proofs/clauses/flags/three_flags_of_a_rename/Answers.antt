use Rattle.std.proofs.Common.{◌+◌, ◌∙◌, ℕ, ap, sym}
use Rattle.vfs_flags.specs.declared.constants.TheConstants.{RENAME_EXCHANGE, RENAME_NOREPLACE}
use Rattle.test_uses.proofs.clauses.flags.three_flags_of_a_rename.Goals as goal

pub returns : goal.returns
returns c =
    let law = c.single_flags_have_their_bits.ensures in
    law.rename_flags
    ∙ (ap (λ (n : ℕ). n + 2 + 4) (sym law.rename_noreplace)
    ∙ (ap (λ (n : ℕ). RENAME_NOREPLACE + n + 4) (sym law.rename_exchange)
    ∙ ap (λ (n : ℕ). RENAME_NOREPLACE + RENAME_EXCHANGE + n) (sym law.rename_whiteout)))
