use Rattle.std.proofs.Common.{None, arith}
use Rattle.vfs_files.specs.Values.{item}
use Rattle.test_uses.proofs.SmallCallers.{cut_fills}
use Rattle.test_uses.proofs.listings.add_past_the_room.Goals as goal

pub returns-clause-full : goal.returns-clause-full
returns-clause-full c =
    cut_fills 32 None (item c.args.entry) c.args.w.now c.add_dirent.new.w c.add_dirent.result
    c.add_dirent.ensures (omega arith) (omega arith) (omega arith)
