use Rattle.vfs_segments.proofs.Found.{fits_from}
use Rattle.std.proofs.Common.{length}
use Rattle.vfs_segments.proofs.scatter.Segments+Vec+Vec+u8.put_from.Goals as goal

pub scatter-requires-clause-fits : goal.scatter-requires-clause-fits
scatter-requires-clause-fits c =
    let p = c.place-first in
    rw (c.spell_at.ensures.kept c.if-spell_at.false) (fits_from c.args.self.now p.result.0 p.result.1 c.args.at p.ensures.place (length c.args.bytes.now) c.requires)
