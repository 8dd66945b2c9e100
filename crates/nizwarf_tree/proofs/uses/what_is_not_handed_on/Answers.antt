use Rattle.std.proofs.Common.{◌≡◌, ◌≤◌, ◌^◌, ◌⊎◌, ℕ, List, inl, inr, length}
use Rattle.c_rooms.specs.Codes.{no_memory, too_long}
use Rattle.nizwarf_tree.proofs.uses.what_is_not_handed_on.Goals as goal

of_length : (request : List ℕ)
    → (too_long ≡ no_memory) ⊎ ((too_long ≡ too_long) × (2 ^ 64 ≤ length request)) → 2 ^ 64 ≤ length request
of_length request (inl same) = let f = same in absurd cc
of_length request (inr long) = long.1

pub returns-clause-silent : goal.returns-clause-silent
returns-clause-silent c = λ old new request number len shown h. (h.no_reply, h.nothing)

pub returns-clause-long : goal.returns-clause-long
returns-clause-long c = λ old new request len shown h. of_length request h.why
