use Rattle.vfs_segments.proofs.scatter.Segments+Vec+Vec+u8.put_whole.Goals as goal

pub returns-clause-wrote : goal.returns-clause-wrote
returns-clause-wrote g c = rw c.place-first.ensures.place at c.spell_at.ensures.wrote

pub returns-clause-fits : goal.returns-clause-fits
returns-clause-fits g c = rw c.place-first.ensures.place at c.spell_at.ensures.fits
