use Rattle.vfs_files.specs.Calls.{Lookup, entry_answer}
use Rattle.vfs_files.specs.Values.{name_text}
use Rattle.test_uses.proofs.TreeCallers.{one_more}
use Rattle.test_uses.proofs.tree_laws.any_lookup.Goals as goal

pub returns-clause-counted : goal.returns-clause-counted
returns-clause-counted c =
    let call = Lookup c.args.ctx c.args.parent (name_text c.args.name) in
    let kept = c.calls_keep_trees.ensures c.args.tree.now c.lookup.new.self call (entry_answer c.lookup.result)
    c.requires c.lookup.ensures in
    one_more c.args.tree.now c.lookup.new.self c.args.ctx c.args.parent (name_text c.args.name) c.lookup.result kept.2

pub returns-clause-limits : goal.returns-clause-limits
returns-clause-limits c =
    let call = Lookup c.args.ctx c.args.parent (name_text c.args.name) in
    (c.calls_keep_trees.ensures c.args.tree.now c.lookup.new.self call (entry_answer c.lookup.result)
    c.requires c.lookup.ensures).1

pub returns-clause-bytes : goal.returns-clause-bytes
returns-clause-bytes c =
    let call = Lookup c.args.ctx c.args.parent (name_text c.args.name) in
    let kept = c.calls_keep_trees.ensures c.args.tree.now c.lookup.new.self call (entry_answer c.lookup.result)
    c.requires c.lookup.ensures in
    rw kept.1 at kept.0.within.bytes

pub returns-clause-inodes : goal.returns-clause-inodes
returns-clause-inodes c =
    let call = Lookup c.args.ctx c.args.parent (name_text c.args.name) in
    let kept = c.calls_keep_trees.ensures c.args.tree.now c.lookup.new.self call (entry_answer c.lookup.result)
    c.requires c.lookup.ensures in
    rw kept.1 at kept.0.within.inodes

pub returns-clause-way_up : goal.returns-clause-way_up
returns-clause-way_up c =
    let call = Lookup c.args.ctx c.args.parent (name_text c.args.name) in
    (c.calls_keep_trees.ensures c.args.tree.now c.lookup.new.self call (entry_answer c.lookup.result)
    c.requires c.lookup.ensures).0.rooted
