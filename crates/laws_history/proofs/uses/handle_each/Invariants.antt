use Rattle.std.proofs.Common.{◌≡◌, ◌++◌, map}
use Rattle.std.specs.Vec.Iter.{into_iter_items}
use Rattle.vfs_segments.specs.Unread.{Unread}
use Rattle.laws_history.specs.Calls.{HandlesEach}
use Rattle.laws_history.proofs.uses.handle_each.Given as goal

abbrev pub invariant-loop-reader : goal.invariant-loop-reader
invariant-loop-reader g l =
    record {
      parts : l.yielded ++ into_iter_items l.reader-iterator ≡ l.fn.readers.items;
      each :
          HandlesEach g.F.FileSystem.allows g.F.DirIter.DirectoryIterator.gives l.fn.server
          (map (λ (r : Unread). r.left) l.yielded) l.server;
    }
