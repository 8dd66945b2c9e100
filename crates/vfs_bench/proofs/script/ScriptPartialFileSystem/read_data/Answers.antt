use Rattle.std.proofs.Common.{◌≡◌, min, refl, arith}
use Rattle.vfs_files.specs.TransferLaws.{transfer_counts}
use Rattle.vfs_bench.proofs.script.ScriptPartialFileSystem.read_data.Goals as goal

pub returns-in-Some : goal.returns-in-Some
returns-in-Some g c =
    let t = c.read_from_file_at.ensures in
    let count : c.min.result ≡ min c.args.asked.size 4_294_967_279 = omega arith in (
      t.0,
      t.1,
      transfer_counts _ _ _ _ _ _ _ _ _ (omega arith) (omega arith) t.2,
      (rw c.in-Some.is (t.0, _, _, refl, refl, rw count at t.2), refl),
    )
