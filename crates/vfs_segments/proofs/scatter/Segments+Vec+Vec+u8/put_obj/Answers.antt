use Rattle.std.proofs.Common.{rules}
use Rattle.vfs_segments.proofs.Found.{fits_from}
use Rattle.vfs_segments.proofs.scatter.Segments+Vec+Vec+u8.put_obj.Goals as goal

pub put_spelled-requires-clause-fits : goal.put_spelled-requires-clause-fits
put_spelled-requires-clause-fits g c =
    let p = c.place-first in
    rw (c.spell_at.ensures.kept c.if-spell_at.false) (fits_from c.args.self.now p.result.0 p.result.1 c.args.at p.ensures.place g.T.ByteValued.SIZE c.requires)

pub returns-then-spell_at-clause-bytes : goal.returns-then-spell_at-clause-bytes
returns-then-spell_at-clause-bytes g c = search rules
