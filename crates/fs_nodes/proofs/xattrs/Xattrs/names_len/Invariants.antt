use Rattle.std.proofs.Common.{◌≡◌, ◌+◌, length}
use Rattle.fs_nodes.specs.Xattrs.{name_list, xattrs_of}
use Rattle.fs_nodes.proofs.xattrs.Xattrs.names_len.Given as goal

abbrev pub invariant-loop-name : goal.invariant-loop-name
invariant-loop-name l = l.length + length (name_list l.to_other (xattrs_of l.name-iterator))
    ≡ length (name_list l.to_other l.self)
