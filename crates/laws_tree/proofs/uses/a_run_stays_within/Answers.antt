use Rattle.laws_tree.proofs.uses.a_run_stays_within.Goals as goal

pub returns : goal.returns
returns c it old new events tree run = (c.runs_keep_trees.ensures it old new events tree run).0.within.bytes
