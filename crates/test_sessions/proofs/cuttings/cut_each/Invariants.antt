use Rattle.std.proofs.Common.{◌≡◌, vec_len}
use Rattle.test_sessions.proofs.cuttings.cut_each.Given as goal

abbrev pub invariant-loop-place : goal.invariant-loop-place
invariant-loop-place l = vec_len l.counts ≡ l.place-index
