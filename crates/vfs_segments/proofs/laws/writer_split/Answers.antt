use Rattle.std.proofs.Common.{arith, ◌+◌, ◌∙◌, length, length-append, length-take, length-drop, take}
use Rattle.vfs_segments.proofs.LengthCuts.{sum-lengths_before, sum-lengths_from}
use Rattle.vfs_segments.proofs.laws.writer_split.Goals as goal

pub returns-clause-first_lengths : goal.returns-clause-first_lengths
returns-clause-first_lengths c w n e h =
    sum-lengths_before (length w.passed + n) w.lengths (omega (arith, e, length-append w.passed w.left))
    ∙ omega (arith, length-append w.passed (take n w.left), length-take n w.left)

pub returns-clause-rest_lengths : goal.returns-clause-rest_lengths
returns-clause-rest_lengths c w n e h =
    sum-lengths_from (length w.passed + n) w.lengths (omega (arith, e, length-append w.passed w.left))
    ∙ omega (arith, e, length-append w.passed w.left, length-drop n w.left)
