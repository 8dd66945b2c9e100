use Rattle.std.proofs.Common.{◌≡◌, ℕ, Bool, true, List, [], ◌∷◌, Some, arith, rules, sym, ap, ◌∙◌}
use Rattle.std.proofs.lemmas.Grind.{common_steps}
use Rattle.vfs_flags.specs.Numbers.{enospc}
use Rattle.fs_tree.specs.State.{node_at}
use Rattle.fs_tree.proofs.Answering.{refused_ends, write_refusal, writes}
use Rattle.std.proofs.lemmas.Option.{same_Some}
use Rattle.std.proofs.lemmas.Map.Steps.{set_value_same}
use Rattle.fs_tree.specs.contracts.fs.TreeFs.{the_view}
use Rattle.fs_tree.proofs.Weights.{overwritten_fits}
use Rattle.fs_nodes.specs.Node.{overwritten}
use Rattle.fs_nodes.specs.declared.node.Node.{Node}
use Rattle.fs_nodes.specs.declared.node.Time.{Time}
use Rattle.fs_tree.specs.Holding.{is_idle}
use Rattle.fs_tree.proofs.Noting.{sound_same}
use Rattle.fs_tree.proofs.calls.TreeFsFileSystem.write.Goals as goal

stays_idle : (now : Time) (delayed kill : Bool) (node new : Node) (off : ℕ) (bytes : List ℕ)
    → new ≡ overwritten now delayed kill node off bytes → is_idle node ≡ true → is_idle new ≡ true
stays_idle now delayed kill node new off [] is idle = ap is_idle is ∙ idle
stays_idle now delayed kill node new off (b ∷ bs) is idle = ap is_idle is ∙ idle

pub invariant_of-self-2 : goal.invariant_of-self-2
invariant_of-self-2 g c =
    let node = c.in-Some-get_mut.node.now in
    sound_same c.self.inside.next c.args.inode c.self.inside.held c.self.inside.nodes.entries
    (c.get_mut.follows.lender c.write_from.new.self).entries node c.write_from.new.self
    c.self.invariant (sym c.in-Some-get_mut.ensures.value) (search rules)
    (stays_idle _ _ _ node _ _ _ c.in_ok-count.ensures.2.1)

pub reweigh-requires : goal.reweigh-requires
reweigh-requires g c =
    let found = same_Some c.in-Some.node.now c.in-Some-get_mut.node.now
    (c.in-Some.ensures.value ∙ sym c.in-Some-get_mut.ensures.value) in
    let most = rw (← c.self.view_is, found) at c.most_size-most.ensures in
    let fits = overwritten_fits (the_view c.self.inside) c.in-Some-get_mut.node.now _ _ c.args.delayed_write
    c.args.kill_priv c.args.offset c.args.size _ _ _ most c.in_ok-count.ensures.2 in
    omega (arith, fits)

pub returns-in_err-count : goal.returns-in_err-count
returns-in_err-count g c = search (rules, set_value_same)

pub returns-then-offset-longest : goal.returns-then-offset-longest
returns-then-offset-longest g c =
    let s = c.args.self.now in
    let n = c.args.inode in
    let node = c.in-Some.node.now in
    let is : node_at s n ≡ Some node = search rules in
    let refused : write_refusal s c.args.offset c.args.size node ≡ Some c.too_big.result = grind (arith, common_steps) in (
      [],
      search rules,
      refused_ends s (node_at s n) (write_refusal s c.args.offset c.args.size)
          (writes s n c.args.delayed_write c.args.kill_priv c.args.offset c.args.size
          (g.R.ZeroCopyReader.left c.args.r.now)) node c.too_big.result is refused,
    )

pub returns-then-offset-most : goal.returns-then-offset-most
returns-then-offset-most g c =
    let s = c.args.self.now in
    let n = c.args.inode in
    let node = c.in-Some.node.now in
    let is : node_at s n ≡ Some node = search rules in
    let refused : write_refusal s c.args.offset c.args.size node ≡ Some enospc = grind (arith, common_steps) in (
      [],
      search rules,
      refused_ends s (node_at s n) (write_refusal s c.args.offset c.args.size)
          (writes s n c.args.delayed_write c.args.kill_priv c.args.offset c.args.size
          (g.R.ZeroCopyReader.left c.args.r.now)) node enospc is refused,
    )
