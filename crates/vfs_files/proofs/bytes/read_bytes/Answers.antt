use Rattle.std.proofs.Common.{min, ap, ◌∙◌}
use Rattle.vfs_files.specs.Bytes.{part_of}
use Rattle.vfs_files.specs.ReadingLaws.{read_transfer}
use Rattle.vfs_files.proofs.bytes.read_bytes.Goals as goal

pub returns : goal.returns
returns g c =
    let t = c.read_from_file_at.ensures in
    let room = g.W.ZeroCopyWriter.room c.args.w.now in
    let r = read_transfer c.min.result room c.args.offset _ _ _ _ t.2 in
    let most = ap (λ n. part_of c.args.bytes.now c.args.offset (min n room)) c.min.ensures in
    (t.0, t.1, record { answered = r.answered; part = r.there ∙ most })
