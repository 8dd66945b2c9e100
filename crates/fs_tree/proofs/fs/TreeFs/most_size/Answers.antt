use Rattle.std.proofs.Common.{◌/◌, arith}
use Rattle.fs_nodes.specs.Contents.{pages_over}
use Rattle.fs_nodes.proofs.Counts.{reach_from}
use Rattle.fs_tree.specs.State.{room_of}
use Rattle.fs_tree.proofs.fs.TreeFs.most_size.Goals as goal

pub returns-then-offset : goal.returns-then-offset
returns-then-offset c =
    let off = c.args.offset in
    let from = reach_from c.args.node.now.contents.held (room_of c.args.self.now / 4096) (off / 4096)
    (pages_over off c.args.len) in
    omega (arith, from)
