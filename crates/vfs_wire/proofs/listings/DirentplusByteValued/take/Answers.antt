use Rattle.std.proofs.Common.{refl}
use Rattle.vfs_wire.proofs.listings.DirentplusByteValued.take.Goals as goal

pub returns-clause-read : goal.returns-clause-read
returns-clause-read c = rw (c.part_at.ensures.read, c.part_at-2.ensures.read) refl
