use Rattle.std.proofs.Common.{ap, ◌∙◌}
use Rattle.vfs_segments.specs.Segments.{with_bytes_at}
use Rattle.vfs_segments.proofs.Padding.{spelled}
use Rattle.vfs_wire.specs.Fields.{bytes_of}
use Rattle.vfs_segments.proofs.beside.spell_padded.Goals as goal

pub returns-clause-wrote : goal.returns-clause-wrote
returns-clause-wrote g c =
    let n = g.T.ByteValued.SIZE in
    let bytes = c.args.bytes.now in
    rw c.SIZE.ensures at c.put_name.ensures ∙ ap (with_bytes_at n bytes) c.put_first.ensures.bytes
    ∙ spelled (bytes_of g.T.ByteValued.table c.args.x.now) bytes c.args.out.now c.clear_end.new.out n
    c.args.zeros c.put_first.ensures.size c.requires c.clear_end.ensures.len c.clear_end.ensures.cleared
