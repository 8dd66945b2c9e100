use Rattle.std.proofs.Common.{◌≡◌, ◌++◌, length, map}
use Rattle.std.specs.Vec.Iter.{into_iter_items, into_iter_len}
use Rattle.vfs_files.specs.Runs.{ForgetsEach}
use Rattle.test_uses.proofs.files.forget_each.Given as goal

abbrev pub invariant-loop-inode : goal.invariant-loop-inode
invariant-loop-inode g l = record {
  rest : l.yielded ++ into_iter_items l.inode-iterator ≡ l.fn.requests.items;
  left : into_iter_len l.inode-iterator ≡ length (into_iter_items l.inode-iterator);
  forgot :
      ForgetsEach g.F.FileSystem.allows g.F.DirIter.DirectoryIterator.gives l.ctx
      (map (λ p. (g.F.Inode.Number.value p.0, p.1)) l.yielded)
      l.initial.fs
      l.fs;
}
