use Rattle.test_uses.proofs.SmallFiles.{tree_attributes, no_tree_attributes, tree_attributes_alone}
use Rattle.test_uses.proofs.small_files.attributes_in_a_tree.Goals as goal

pub returns-clause-there : goal.returns-clause-there
returns-clause-there c = λ t ctx handle attr found timeout is h.
    tree_attributes (t.attr 2) attr found timeout is h

pub returns-clause-missing : goal.returns-clause-missing
returns-clause-missing c = λ t ctx handle answer is h. no_tree_attributes (t.attr 2) answer is h

pub returns-clause-nothing_else : goal.returns-clause-nothing_else
returns-clause-nothing_else c = λ t ctx handle attr is h. tree_attributes_alone (t.attr 2) attr is h
