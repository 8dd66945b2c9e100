use Rattle.std.proofs.Common.{rules, nat_cmp}
use Rattle.std.specs.List.Sorted.{IsStrictlySortedBy}
use Rattle.std.specs.Map.{keys_of}
use Rattle.fs_tree.proofs.Emptying.{released_rests}
use Rattle.fs_tree.proofs.fs.TreeFs.release_all.Goals as goal

pub returns-in-Some-clause-idle : goal.returns-in-Some-clause-idle
returns-in-Some-clause-idle c =
    let ordered : IsStrictlySortedBy nat_cmp (keys_of c.args.self.now.nodes) = search rules in
    λ n. rw c.release_noted.ensures (released_rests c.args.self.now ordered n)

pub returns-in_default-clause-idle : goal.returns-in_default-clause-idle
returns-in_default-clause-idle c =
    let ordered : IsStrictlySortedBy nat_cmp (keys_of c.args.self.now.nodes) = search rules in
    λ n. rw c.release_each.ensures (released_rests c.args.self.now ordered n)
