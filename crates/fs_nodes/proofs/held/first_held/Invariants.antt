use Rattle.std.proofs.Common.{◌≡◌}
use Rattle.fs_nodes.specs.Held.{first_held}
use Rattle.fs_nodes.proofs.held.first_held.Given as goal

abbrev pub invariant-loop-number : goal.invariant-loop-number
invariant-loop-number l =
    (first_held l.number-iterator ≡ first_held l.fn.nodes) ×
    (goal.iterator-loop-number).can_next l.number-iterator ×
    (goal.iterator-loop-number).is_finite l.number-iterator
