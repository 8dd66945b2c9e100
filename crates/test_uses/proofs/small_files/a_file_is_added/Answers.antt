use Rattle.std.proofs.Common.{ap}
use Rattle.fs_small.specs.MemFs.{Stock}
use Rattle.test_uses.proofs.small_files.a_file_is_added.Goals as goal

pub returns-clause-added : goal.returns-clause-added
returns-clause-added c = λ name contents entry old new h. (h.0.inode, ap (λ (s : Stock). s.next) h.1)

pub returns-clause-no_memory : goal.returns-clause-no_memory
returns-clause-no_memory c = λ name contents fault old new h. (h.0, h.1)
