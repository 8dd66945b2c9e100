use Rattle.std.proofs.Common.{rules, ◌+◌, sym}
use Rattle.std.proofs.lemmas.Map.Steps.{set_value_same}
use Rattle.fs_tree.proofs.Noting.{sound_same, sound_noted}
use Rattle.fs_nodes.specs.declared.node.Node.{Node}
use Rattle.fs_tree.proofs.calls.TreeFsFileSystem.lookup.Goals as goal

pub invariant_of-self-then-node : goal.invariant_of-self-then-node
invariant_of-self-then-node c =
    let s = c.self.inside in
    let node = c.in-Some-get_mut.node.now in
    sound_same s.next c.in-Some.child.node s.held s.nodes.entries (c.get_mut.follows.lender node).entries node node c.self.invariant
    (sym c.in-Some-get_mut.ensures.value) (search rules) (λ idle. idle)

pub invariant_of-self-2 : goal.invariant_of-self-2
invariant_of-self-2 c =
    let s = c.self.inside in
    let node = c.in-Some-get_mut.node.now in
    let now : Node = record node { lookups = node.lookups + 1 } in
    sound_noted s.next c.in-Some.child.node s.held c.note.new.self s.nodes.entries c.self.invariant node now
    (sym c.in-Some-get_mut.ensures.value) (c.get_mut.follows.lender now).entries (search rules) c.note.ensures

pub returns : goal.returns
returns c = search (rules, set_value_same)
