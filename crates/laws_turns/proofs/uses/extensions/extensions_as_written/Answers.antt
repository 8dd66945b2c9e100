use Rattle.std.proofs.Common.{◌≢◌, ◌<◌, ℕ, zero, suc, [], ◌∷◌, slice_index, refl, arith, lit<}
use Rattle.vfs_wire.specs.Fields.{little}
use Rattle.laws_turns.specs.Extensions.{FitExtensions}
use Rattle.vfs_grammar.specs.Samples.{context_and_group}
use Rattle.laws_turns.proofs.uses.extensions.extensions_as_written.Goals as goal

pub returns-clause-bytes : goal.returns-clause-bytes
unfolding little
returns-clause-bytes c = refl

no_nul : (k : ℕ) → k < 1 → slice_index (0x73 ∷ []) k ≢ 0
no_nul zero h e = absurd cc
no_nul (suc k) h e = absurd (omega arith)

fit : FitExtensions context_and_group
fit = record {
  context = record { no_nul = no_nul; has_value = lit< tt; in_size = lit< tt };
  group = lit< tt;
}

pub returns-clause-found : goal.returns-clause-found
unfolding little
returns-clause-found c =
    c.written_extensions_are_found.ensures 0x500000000 (0x64 ∷ 0 ∷ []) context_and_group refl (λ h. refl) fit
