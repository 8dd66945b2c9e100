use Rattle.std.proofs.Common.{◌-◌}
use Rattle.vfs_files.specs.Values.{context_of}
use Rattle.vfs_listings.proofs.Filling.{Filling}
use Rattle.vfs_listings.proofs.listing.read_items.Given as goal

abbrev pub invariant-items : goal.invariant-items
invariant-items g l =
    Filling g.F.FileSystem.allows g.F.DirIter.DirectoryIterator.gives (context_of l.header) l.plus
    l.header.nodeid l.size
    l.fn.it l.fn.fs l.fn.w l.written l.it l.fs l.w

abbrev pub decreases-items : goal.decreases-items
decreases-items g l = l.size - l.written
