use Rattle.std.proofs.Common.{◌∙◌, List, codes, Option, Some, None, is_some, if◌then◌else◌, ap}
use Rattle.vfs_flags.specs.Numbers.{enoent, enotdir}
use Rattle.vfs_files.specs.Answers.{Done, Failed, Found}
use Rattle.fs_small.specs.ReadOnly.{refusal_of}
use Rattle.fs_small.specs.Tables.{Named}
use Rattle.test_uses.proofs.SmallFiles.{entry_of, no_entry, entry_alone, looked_up, no_child}
use Rattle.test_uses.proofs.small_files.a_name_in_a_tree.Goals as goal

pub returns-clause-entry : goal.returns-clause-entry
returns-clause-entry c = λ t ctx attr entry is of h.
    entry_of 2 attr entry (looked_up t 1 2 (t.child 1 (codes "a")) (Some attr) (Found entry) is of h)

pub returns-clause-no_node : goal.returns-clause-no_node
returns-clause-no_node c = λ t ctx answer is of h.
    no_entry 2 answer (looked_up t 1 2 (t.child 1 (codes "a")) None answer is of h)

pub returns-clause-no_name : goal.returns-clause-no_name
returns-clause-no_name c = λ t ctx items answer is directory h.
    no_child t 1 (t.child 1 (codes "a")) answer is h
    ∙ ap (λ (o : Option (List Named)). Failed (Some (if is_some o then enoent else refusal_of t 1 enotdir))) directory

pub returns-clause-nothing_else : goal.returns-clause-nothing_else
returns-clause-nothing_else c = λ t ctx attr is of h.
    entry_alone 2 attr (looked_up t 1 2 (t.child 1 (codes "a")) (Some attr) Done is of h)

pub returns-clause-no_iterator : goal.returns-clause-no_iterator
returns-clause-no_iterator c = λ t ctx items h. h
