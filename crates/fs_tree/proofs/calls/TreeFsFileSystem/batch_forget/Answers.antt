use Rattle.fs_tree.proofs.Pairs.{same_pairs}
use Rattle.fs_tree.proofs.calls.TreeFsFileSystem.batch_forget.Goals as goal

pub returns : goal.returns
returns c = rw (same_pairs c.args.requests.items, ← c.deref.ensures.value) c.take_back_all.ensures
