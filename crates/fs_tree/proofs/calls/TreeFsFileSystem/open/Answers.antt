use Rattle.std.proofs.Common.{ap, arith}
use Rattle.fs_nodes.specs.Node.{weight}
use Rattle.fs_nodes.proofs.Weights.{opened_weighs}
use Rattle.fs_tree.proofs.calls.TreeFsFileSystem.open.Goals as goal

pub reweigh-requires : goal.reweigh-requires
reweigh-requires c =
    let fits = opened_weighs c.self.inside.now c.args.ctx.uid c.args.kill_priv c.in-Some.node.now
    c.args.flags in
    omega (arith, fits, ap weight c.open.ensures)
