use Rattle.std.proofs.Common.{◌≡◌, ◌-◌, length}
use Rattle.fs_tree.specs.Rename.{is_below}
use Rattle.fs_tree.proofs.fs.TreeFs.is_below.Given as goal

abbrev pub invariant-loop : goal.invariant-loop
invariant-loop l =
    is_below l.self (length l.self.nodes - l.counter) l.number l.at
    ≡ is_below l.self (length l.self.nodes) l.number l.start
