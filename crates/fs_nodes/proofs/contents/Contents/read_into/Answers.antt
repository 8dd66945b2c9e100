use Rattle.std.proofs.Common.{◌≡◌, length, sym, ap, ◌∙◌, arith}
use Rattle.vfs_files.specs.Bytes.{part_of, most_put}
use Rattle.fs_nodes.specs.Contents.{Contents}
use Rattle.fs_nodes.proofs.Moves.{moves_all}
use Rattle.fs_nodes.proofs.Shown.{shown_part, length-bytes_of}
use Rattle.fs_nodes.proofs.contents.Contents.read_into.Goals as goal

pub returns : goal.returns
returns g c =
    let t = c.read_from_file_at.ensures in
    let s = c.self.inside in
    let room = g.W.ZeroCopyWriter.room c.args.w.now in
    let off = c.args.offset in
    let size : s.size ≡ c.len.result =
    sym (length-bytes_of s.pages s.size) ∙ ap (λ (k : Contents). length k.bytes) c.self.view_is
    ∙ sym c.len.ensures in
    let m = moves_all _ room off (omega (arith, size, c.len.type_inv)) _ _ _ _ t.2 in (
      t.0,
      t.1,
      record {
        answered = m.answered;
        part = shown_part s.pages s.size off (most_put room c.args.size) t.0 (omega (arith, m.size, size)) m.bytes_are
            ∙ ap (λ (k : Contents). part_of k.bytes off (most_put room c.args.size)) c.self.view_is;
      },
    )
