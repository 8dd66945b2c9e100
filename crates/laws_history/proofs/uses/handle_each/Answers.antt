use Rattle.std.specs.Vec.Iter.{into_iter_items}
use Rattle.vfs_server.proofs.Sessions.{passed_on}
use Rattle.laws_history.proofs.Calling.{handles_none, handles_more}
use Rattle.laws_history.proofs.uses.handle_each.Goals as goal

pub loop-reader-init : goal.loop-reader-init
loop-reader-init g c = record {
  parts = c.into_iter-reader-iterator.ensures.into_iter_gives.0;
  each =
      handles_none g.F.FileSystem.allows g.F.DirIter.DirectoryIterator.gives
      c.history_keeps_books.ensures c.args.server.now;
}

pub loop-reader-preserved : goal.loop-reader-preserved
loop-reader-preserved g c =
    let i = c.loop-reader.invariant in
    record {
      parts =
          passed_on c.loop-reader.yielded (into_iter_items c.loop-reader.reader-iterator)
          (into_iter_items c.next.new.self) c.args.readers.items c.in-Some.reader
          c.in-Some.ensures.steps.0 i.parts;
      each =
          handles_more g.F.FileSystem.allows g.F.DirIter.DirectoryIterator.gives
          c.history_goes_on.ensures.handled c.history_keeps_books.ensures
          _ _ _ _ _ _ _ _ i.each c.handle_message.ensures.step;
    }
