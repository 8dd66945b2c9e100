use Rattle.std.proofs.Common.{rules, sym}
use Rattle.std.proofs.lemmas.Map.Steps.{set_value_same}
use Rattle.fs_tree.proofs.Noting.{sound_same}
use Rattle.fs_tree.proofs.calls.TreeFsFileSystem.setxattr.Goals as goal

pub invariant_of-self : goal.invariant_of-self
invariant_of-self c =
    let s = c.self.inside in
    let node = c.in-Some-get_mut.node.now in
    sound_same s.next c.args.inode s.held s.nodes.entries (c.get_mut.follows.lender (record node { xattrs = c.set.new.self })).entries node (record node { xattrs = c.set.new.self }) c.self.invariant
    (sym c.in-Some-get_mut.ensures.value) (search rules) (λ idle. idle)

pub invariant_of-self-2 : goal.invariant_of-self-2
invariant_of-self-2 c =
    let s = c.self.inside in
    let node = c.in-Some-get_mut.node.now in
    sound_same s.next c.args.inode s.held s.nodes.entries (c.get_mut.follows.lender (record node { xattrs = c.set.new.self; ctime = s.now })).entries node (record node { xattrs = c.set.new.self; ctime = s.now }) c.self.invariant
    (sym c.in-Some-get_mut.ensures.value) (search rules) (λ idle. idle)

pub returns-in_err-set : goal.returns-in_err-set
returns-in_err-set c = search (rules, set_value_same)
