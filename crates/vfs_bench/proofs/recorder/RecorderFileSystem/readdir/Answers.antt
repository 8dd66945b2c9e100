use Rattle.std.proofs.Common.{rules}
use Rattle.vfs_bench.proofs.PlainOutcomes.{noted-directory}
use Rattle.vfs_bench.proofs.recorder.RecorderFileSystem.readdir.Goals as goal

pub returns : goal.returns
returns g c =
    let noted = noted-directory c.args.ctx (g.F.Inode.Number.value c.args.inode) (g.F.Handle.Number.value c.args.handle) c.args.size c.args.offset c.readdir-answer.result in
    (search rules, search (rules, noted))
