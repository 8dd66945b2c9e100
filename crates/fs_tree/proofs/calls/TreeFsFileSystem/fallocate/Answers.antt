use Rattle.std.proofs.Common.{length, ap, sym, ◌∙◌, arith, rules}
use Rattle.std.proofs.lemmas.Map.Steps.{set_value_same}
use Rattle.fs_nodes.specs.Contents.{Contents}
use Rattle.fs_nodes.specs.Node.{weight}
use Rattle.fs_tree.specs.contracts.fs.TreeFs.{the_view}
use Rattle.fs_tree.specs.Holding.{is_idle}
use Rattle.fs_tree.proofs.Noting.{sound_same}
use Rattle.fs_tree.proofs.Weights.{fallocated_fits}
use Rattle.fs_tree.proofs.calls.TreeFsFileSystem.fallocate.Goals as goal

pub reweigh-requires : goal.reweigh-requires
reweigh-requires c =
    let free = rw (← c.self.view_is, ← c.in-Some.ensures.value) at c.in_ok-check_allocate.ensures.ok in
    let fits = fallocated_fits (the_view c.self.inside) c.in-Some.node.now c.self.inside.now c.args.mode c.args.offset
    c.args.length free in
    let held = ap (λ (k : Contents). length k.held) c.in_ok-fallocate.ensures.ok in
    omega (arith, fits, held, ap weight c.mark_rewritten.ensures)

pub returns-in_err-fallocate : goal.returns-in_err-fallocate
returns-in_err-fallocate c = search (rules, set_value_same)

pub invariant_of-self : goal.invariant_of-self
invariant_of-self c =
    let s = c.self.inside in
    let node = c.in-Some.node.now in
    let now = record node { contents = c.fallocate.new.self } in
    sound_same s.next c.args.inode s.held s.nodes.entries (c.get_mut.follows.lender now).entries node now
    c.self.invariant (sym c.in-Some.ensures.value) (search rules) (λ idle. idle)

pub invariant_of-self-2 : goal.invariant_of-self-2
invariant_of-self-2 c =
    let s = c.self.inside in
    let now = c.mark_rewritten.new.self in
    sound_same s.next c.args.inode s.held s.nodes.entries (c.get_mut.follows.lender now).entries
    c.in-Some.node.now now c.self.invariant (sym c.in-Some.ensures.value) (search rules)
    (λ idle. ap is_idle c.mark_rewritten.ensures ∙ idle)
