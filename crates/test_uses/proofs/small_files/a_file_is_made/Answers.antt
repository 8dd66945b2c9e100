use Rattle.std.proofs.Common.{codes}
use Rattle.test_uses.specs.Files.{one_file}
use Rattle.test_uses.proofs.SmallFiles.{made, not_made, not_to_make, made_alone}
use Rattle.test_uses.proofs.small_files.a_file_is_made.Goals as goal

pub returns-clause-made : goal.returns-clause-made
returns-clause-made c = λ ctx mode kill_priv flags umask ext entry handle options new h.
    let it = made (one_file (codes "hello")) (codes "b") entry handle options new h in
    (it.number, it.no_handle, it.no_options, it.files_are)

pub returns-clause-no_memory : goal.returns-clause-no_memory
returns-clause-no_memory c = λ ctx mode kill_priv flags umask ext fault new h.
    not_made (one_file (codes "hello")) (codes "b") fault new h

pub returns-clause-taken : goal.returns-clause-taken
returns-clause-taken c = λ ctx mode kill_priv flags umask ext answer new h.
    not_to_make (one_file (codes "hello")) (codes "a") 17 answer new h

pub returns-clause-nothing_else : goal.returns-clause-nothing_else
returns-clause-nothing_else c = λ ctx mode kill_priv flags umask ext new h.
    made_alone (one_file (codes "hello")) (codes "b") new h
