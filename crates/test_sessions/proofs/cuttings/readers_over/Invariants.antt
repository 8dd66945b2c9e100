use Rattle.std.proofs.Common.{◌≡◌, ◌≤◌, length, vec_len}
use Rattle.test_sessions.proofs.cuttings.readers_over.Given as goal

abbrev pub invariant-loop-count : goal.invariant-loop-count
invariant-loop-count l =
    record {
      count : vec_len l.readers ≡ l.count-index;
      within : l.start ≤ length l.fn.pieces;
    }
