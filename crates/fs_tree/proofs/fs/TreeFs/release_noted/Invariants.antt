use Rattle.fs_tree.proofs.Emptying.{AreLeft}
use Rattle.fs_tree.proofs.fs.TreeFs.release_noted.Given as goal

abbrev pub invariant-loop-number : goal.invariant-loop-number
invariant-loop-number l = record {
  left : AreLeft l.fn.self l.self l.number-iterator;
  next : (goal.iterator-loop-number).can_next l.number-iterator;
  ends : (goal.iterator-loop-number).is_finite l.number-iterator;
}
