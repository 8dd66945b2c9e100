use Rattle.std.proofs.Common.{sym, subst}
use Rattle.std.specs.List.{AllPairs}
use Rattle.fs_small.specs.Index.{ComesBefore}
use Rattle.fs_small.proofs.memfs.MemFs.place_of_node.Goals as goal

pub search-requires : goal.search-requires
search-requires c =
    subst (AllPairs ComesBefore) (sym c.deref.ensures.value) c.self.invariant.order
