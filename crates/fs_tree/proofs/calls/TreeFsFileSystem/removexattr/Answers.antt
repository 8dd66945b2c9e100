use Rattle.std.proofs.Common.{arith, sym, rules}
use Rattle.vfs_files.specs.Values.{name_text}
use Rattle.fs_nodes.proofs.Weights.{without_xattr_bytes}
use Rattle.fs_tree.proofs.Noting.{sound_same}
use Rattle.fs_tree.proofs.calls.TreeFsFileSystem.removexattr.Goals as goal

pub invariant_of-self-in_err-check_namespace : goal.invariant_of-self-in_err-check_namespace
invariant_of-self-in_err-check_namespace c =
    let s = c.self.inside in
    let node = c.in-Some.node.now in
    sound_same s.next c.args.inode s.held s.nodes.entries (c.get_mut.follows.lender node).entries node node c.self.invariant
    (sym c.in-Some.ensures.value) (search rules) (λ idle. idle)

pub invariant_of-self-then-is_none : goal.invariant_of-self-then-is_none
invariant_of-self-then-is_none c =
    let s = c.self.inside in
    let node = c.in-Some.node.now in
    sound_same s.next c.args.inode s.held s.nodes.entries (c.get_mut.follows.lender node).entries node node c.self.invariant
    (sym c.in-Some.ensures.value) (search rules) (λ idle. idle)

pub invariant_of-self-2 : goal.invariant_of-self-2
invariant_of-self-2 c =
    let s = c.self.inside in
    let node = c.in-Some.node.now in
    sound_same s.next c.args.inode s.held s.nodes.entries (c.get_mut.follows.lender (record node { xattrs = c.remove.new.self; ctime = s.now })).entries node (record node { xattrs = c.remove.new.self; ctime = s.now }) c.self.invariant
    (sym c.in-Some.ensures.value) (search rules) (λ idle. idle)

pub reweigh-requires : goal.reweigh-requires
reweigh-requires c =
    grind (arith, without_xattr_bytes c.in-Some.node.now.xattrs (name_text c.args.name))
