use Rattle.std.proofs.Common.{arith}
use Rattle.vfs_files.specs.WritingLaws.{length-Writes}
use Rattle.fs_small.specs.MemFile.{most_bytes}
use Rattle.fs_small.proofs.memfile.MemFilePositionedFile.write_vectored_at.Goals as goal

pub invariant_of-self : goal.invariant_of-self
invariant_of-self c =
    let size = length-Writes most_bytes _ _ _ _ _ c.write_vectored_at.ensures.gives.0 in
    omega (arith, size, c.self.invariant)
