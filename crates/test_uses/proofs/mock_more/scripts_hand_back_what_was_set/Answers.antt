use Rattle.std.proofs.Common.{ℕ, Option, Some, None, Result, Err, subst}
use Rattle.vfs_files.specs.Answers.{Answer, Count}
use Rattle.vfs_bench.specs.Directories.{Reading}
use Rattle.vfs_bench.specs.Scripts.{MayCopy, MayOpen, WritesFile}
use Rattle.vfs_bench.specs.declared.file.ScriptFile.{ScriptFile}
use Rattle.test_uses.proofs.mock_more.scripts_hand_back_what_was_set.Goals as goal

pub returns-clause-count : goal.returns-clause-count
returns-clause-count c = λ old new ctx inode size name handed is h.
    let told : MayCopy (Count 9) handed = subst (λ (a : Answer). MayCopy a handed) is h.0 in
    (told, h.1)

pub returns-clause-no_directory : goal.returns-clause-no_directory
returns-clause-no_directory c = λ old new ctx inode handle size offset handed is h.
    let opened : MayOpen (Err (Some 20)) handed =
    subst (λ (d : Result Reading (Option ℕ)). MayOpen d handed) is h.0 in
    (opened, h.1)

pub returns-clause-no_file : goal.returns-clause-no_file
returns-clause-no_file c = λ old new ctx inode handle size offset flags bytes owner delayed kill_priv handed is h.
    let none : WritesFile None bytes size offset handed new.file =
    subst (λ (f : Option ScriptFile). WritesFile f bytes size offset handed new.file) is h.0 in
    (none.0, none.1)
