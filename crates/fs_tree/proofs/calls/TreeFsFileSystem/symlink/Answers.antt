use Rattle.fs_tree.proofs.calls.TreeFsFileSystem.symlink.Goals as goal

pub returns : goal.returns
returns c = rw c.to_bytes.ensures at c.make.ensures
