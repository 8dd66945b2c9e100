use Rattle.std.proofs.Common.{◌≡◌, vec_len}
use Rattle.test_sessions.proofs.cuttings.writers_for.Given as goal

abbrev pub invariant-loop-place : goal.invariant-loop-place
invariant-loop-place l = vec_len l.writers ≡ l.place-index
