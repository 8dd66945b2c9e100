use Rattle.std.proofs.Common.{◌∙◌, false, sym, ap, arith, rules}
use Rattle.vfs_flags.specs.Flags.{setattr_valid_bits}
use Rattle.fs_nodes.specs.Node.{weight}
use Rattle.fs_nodes.proofs.Weights.{set_attr_weighs}
use Rattle.fs_tree.specs.Holding.{IsSound, is_idle}
use Rattle.fs_tree.proofs.Noting.{sound_same}
use Rattle.fs_tree.proofs.calls.TreeFsFileSystem.setattr.Goals as goal
use Rattle.fs_tree.proofs.calls.TreeFsFileSystem.setattr.Goals.{then-contains+in_ok-check_contents+else-attr-longest, else-contains}

pub reweigh-requires : goal.reweigh-requires
reweigh-requires c =
    let fits = set_attr_weighs c.self.inside.now c.in-Some-get_mut.node.now c.args.attr false
    (setattr_valid_bits c.args.valid) in
    omega (arith, fits, ap weight c.set_attr.ensures)

pub invariant_of-self : goal.invariant_of-self
invariant_of-self c =
    let sound : IsSound c.if-contains.self-inside.next c.if-contains.self-inside.held
    c.if-contains.self-inside.nodes.entries = elim c.if-contains.branch [
      | then-contains+in_ok-check_contents+else-attr-longest w ↦ rw w.self-inside-is c.self.invariant
      | else-contains w ↦ rw w.self-inside-is c.self.invariant
    ] in
    sound_same c.if-contains.self-inside.next c.args.inode c.if-contains.self-inside.held
    c.if-contains.self-inside.nodes.entries (c.get_mut.follows.lender c.set_attr.new.self).entries
    c.in-Some-get_mut.node.now c.set_attr.new.self sound
    (sym c.in-Some-get_mut.ensures.value) (search rules) (λ idle. ap is_idle c.set_attr.ensures ∙ idle)
