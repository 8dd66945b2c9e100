use Rattle.std.proofs.Common.{◌≡◌, ◌<◌, ◌+◌, ◌^◌, ◌-◌, min, ℕ, List, Option, None, IsSome, IfSome, refl, sym, ap, ◌∙◌, subst}
use Rattle.vfs_files.specs.Values.{name_text}
use Rattle.fs_tree.specs.Outcome.{refusal_of}
use Rattle.fs_tree.specs.State.{State, node_at}
use Rattle.fs_tree.specs.Tree.{link_refusal}
use Rattle.fs_nodes.specs.declared.node.Node.{Node}
use Rattle.fs_tree.proofs.Answering.{linked_ends}
use Rattle.fs_tree.proofs.Nodes.{found_still, inodes-with_names}
use Rattle.fs_tree.proofs.calls.TreeFsFileSystem.link.Goals as goal

pub add_name-requires-clause-place : goal.add_name-requires-clause-place
add_name-requires-clause-place c = c.in_ok-child.ensures.place

pub count_link-requires-clause-there : goal.count_link-requires-clause-there
count_link-requires-clause-there c =
    subst (λ (o : Option Node). IsSome o) (sym (found_still c.args.self.now _ c.args.inode c.args.newparent _
    c.in_ok-add_name.ensures.ok c.in_ok-child.ensures.file c.in_ok-child.ensures.above))
    c.in_ok-child.ensures.there

pub count_link-requires-clause-names : goal.count_link-requires-clause-names
count_link-requires-clause-names c =
    subst (λ (o : Option Node). IfSome o (λ node. node.names < 65000)) (sym (found_still c.args.self.now _ c.args.inode c.args.newparent _
    c.in_ok-add_name.ensures.ok c.in_ok-child.ensures.file c.in_ok-child.ensures.above))
    c.in_ok-child.ensures.names

pub count_link-requires-clause-lookups : goal.count_link-requires-clause-lookups
count_link-requires-clause-lookups c =
    subst (λ (o : Option Node). IfSome o (λ node. node.lookups < 2 ^ 64 - 1)) (sym (found_still c.args.self.now _ c.args.inode c.args.newparent _
    c.in_ok-add_name.ensures.ok c.in_ok-child.ensures.file c.in_ok-child.ensures.above))
    c.in_ok-child.ensures.lookups

pub count_link-requires-clause-inodes : goal.count_link-requires-clause-inodes
count_link-requires-clause-inodes c =
    let named : State = c.add_name.new.self in
    let same : named.inodes ≡ c.args.self.now.inodes =
    ap (λ (t : State). t.inodes) c.in_ok-add_name.ensures.ok
    ∙ inodes-with_names c.args.self.now c.args.newparent _ in
    subst (λ (k : ℕ). IfSome (node_at named c.args.inode) (λ node. k + min node.names 1 < 2 ^ 64)) (sym same)
    (subst (λ (o : Option Node). IfSome o (λ node. c.args.self.now.inodes + min node.names 1 < 2 ^ 64))
    (sym (found_still c.args.self.now _ c.args.inode c.args.newparent _
    c.in_ok-add_name.ensures.ok c.in_ok-child.ensures.file c.in_ok-child.ensures.above))
    c.in_ok-child.ensures.inodes)

pub returns : goal.returns
returns c =
    let s = c.args.self.now in
    let parent = c.args.newparent in
    let node = node_at s c.args.inode in
    let free : refusal_of node (link_refusal s parent (name_text c.args.newname)) ≡ None =
    subst (λ (l : List ℕ). refusal_of node (link_refusal s parent l) ≡ None) c.to_bytes.ensures
    c.in_ok-child.ensures.ok in
    linked_ends s c.args.inode parent (name_text c.args.newname) c.count_link.result
    c.count_link.new.self node c.in_ok-child.child c.add_name.new.self refl c.in_ok-child.ensures.child free
    c.in_ok-add_name.ensures.ok c.count_link.ensures
