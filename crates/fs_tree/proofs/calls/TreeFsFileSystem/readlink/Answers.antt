use Rattle.std.proofs.Common.{rules, sym, ap, ◌∙◌}
use Rattle.std.proofs.lemmas.Map.Steps.{set_value_same}
use Rattle.fs_tree.specs.Holding.{is_idle}
use Rattle.fs_tree.proofs.Noting.{sound_same}
use Rattle.fs_tree.proofs.calls.TreeFsFileSystem.readlink.Goals as goal

pub invariant_of-self-in_err-text : goal.invariant_of-self-in_err-text
invariant_of-self-in_err-text c =
    let s = c.self.inside in
    let node = c.in-Some.node.now in
    sound_same s.next c.args.inode s.held s.nodes.entries (c.get_mut.follows.lender node).entries node node c.self.invariant
    (sym c.in-Some.ensures.value) (search rules) (λ idle. idle)

pub invariant_of-self-2 : goal.invariant_of-self-2
invariant_of-self-2 c =
    let s = c.self.inside in
    let node = c.in-Some.node.now in
    sound_same s.next c.args.inode s.held s.nodes.entries (c.get_mut.follows.lender c.touch_atime.new.self).entries node c.touch_atime.new.self c.self.invariant
    (sym c.in-Some.ensures.value) (search rules) (λ idle. ap is_idle c.touch_atime.ensures ∙ idle)

pub returns-then-not-is_link-clause-allowed : goal.returns-then-not-is_link-clause-allowed
returns-then-not-is_link-clause-allowed c = search (rules, set_value_same)

pub returns-in_err-text-clause-allowed : goal.returns-in_err-text-clause-allowed
returns-in_err-text-clause-allowed c = search (rules, set_value_same)

pub returns-clause-allowed : goal.returns-clause-allowed
returns-clause-allowed c = search rules
