use Rattle.std.proofs.Common.{◌≡◌, drop}
use Rattle.fs_tree.specs.Tree.{all_forgotten}
use Rattle.fs_tree.proofs.fs.TreeFs.take_back_all.Given as goal

abbrev pub invariant-loop-i : goal.invariant-loop-i
invariant-loop-i l =
    all_forgotten l.self (drop l.i l.requests) ≡ all_forgotten l.fn.self l.requests
