use Rattle.std.proofs.Common.{ap, ◌∙◌, ◌++◌}
use Rattle.vfs_wire.specs.Fields.{bytes_of}
use Rattle.vfs_segments.proofs.pair.spell_pair.Goals as goal

pub returns-clause-wrote : goal.returns-clause-wrote
returns-clause-wrote g c =
    c.put_first.ensures.bytes
    ∙ ap (λ l. bytes_of g.T.ByteValued.table c.args.first.now ++ l) (rw c.SIZE.ensures at c.put_rest.ensures.written)
