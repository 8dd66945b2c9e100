use Rattle.vfs_wire.proofs.entries.EntryOutByteValued.put.Goals as goal

pub returns-clause-written : goal.returns-clause-written
returns-clause-written c = rw c.put_rest.ensures.written at c.put_front.ensures.written

pub returns-clause-in_width : goal.returns-clause-in_width
returns-clause-in_width c = search (c.put_front.ensures.in_width, c.put_rest.ensures.in_width)
