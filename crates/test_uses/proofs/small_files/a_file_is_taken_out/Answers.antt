use Rattle.std.proofs.Common.{codes, ap}
use Rattle.fs_small.specs.MemFs.{Stock}
use Rattle.test_uses.specs.Files.{one_file}
use Rattle.test_uses.proofs.SmallFiles.{taken_out, none_out}
use Rattle.test_uses.proofs.small_files.a_file_is_taken_out.Goals as goal

pub returns-clause-gone : goal.returns-clause-gone
returns-clause-gone c = λ ctx answer new h.
    let out = taken_out (one_file (codes "hello")) 0 answer new h in
    (out.0, ap (λ (s : Stock). s.files) out.1)

pub returns-clause-missing : goal.returns-clause-missing
returns-clause-missing c = λ ctx answer new h. none_out (one_file (codes "hello")) answer new h
