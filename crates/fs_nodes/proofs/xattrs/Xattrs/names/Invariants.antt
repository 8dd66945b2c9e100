use Rattle.std.proofs.Common.{◌≡◌, ◌++◌}
use Rattle.fs_nodes.specs.Xattrs.{name_list, xattrs_of}
use Rattle.fs_nodes.proofs.xattrs.Xattrs.names.Given as goal

abbrev pub invariant-loop-name : goal.invariant-loop-name
invariant-loop-name l = l.names.items ++ name_list l.to_other (xattrs_of l.name-iterator) ≡ name_list l.to_other l.self
