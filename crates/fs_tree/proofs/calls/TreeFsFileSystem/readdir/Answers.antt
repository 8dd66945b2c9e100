use Rattle.std.proofs.Common.{rules, sym, ap, ◌∙◌}
use Rattle.std.proofs.lemmas.Map.Steps.{set_value_same}
use Rattle.fs_tree.specs.Holding.{is_idle}
use Rattle.fs_tree.proofs.Noting.{sound_same}
use Rattle.fs_tree.proofs.calls.TreeFsFileSystem.readdir.Goals as goal

pub invariant_of-self-then-not-is_directory : goal.invariant_of-self-then-not-is_directory
invariant_of-self-then-not-is_directory c =
    let s = c.self.inside in
    let node = c.in-Some.node.now in
    sound_same s.next c.args.inode s.held s.nodes.entries (c.get_mut.follows.lender node).entries node node c.self.invariant
    (sym c.in-Some.ensures.value) (search rules) (λ idle. idle)

pub invariant_of-self-in_err-entries : goal.invariant_of-self-in_err-entries
invariant_of-self-in_err-entries c =
    let s = c.self.inside in
    let node = c.in-Some.node.now in
    sound_same s.next c.args.inode s.held s.nodes.entries (c.get_mut.follows.lender node).entries node node c.self.invariant
    (sym c.in-Some.ensures.value) (search rules) (λ idle. idle)

pub invariant_of-self-2 : goal.invariant_of-self-2
invariant_of-self-2 c =
    let s = c.self.inside in
    let node = c.in-Some.node.now in
    sound_same s.next c.args.inode s.held s.nodes.entries (c.get_mut.follows.lender c.touch_atime.new.self).entries node c.touch_atime.new.self c.self.invariant
    (sym c.in-Some.ensures.value) (search rules) (λ idle. ap is_idle c.touch_atime.ensures ∙ idle)

pub returns-then-not-is_directory : goal.returns-then-not-is_directory
returns-then-not-is_directory c = search (rules, set_value_same)

pub returns-in_err-entries : goal.returns-in_err-entries
returns-in_err-entries c = search (rules, set_value_same)
