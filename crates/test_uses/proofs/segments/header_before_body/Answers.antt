use Rattle.std.proofs.Common.{ap, ◌∙◌, length, take}
use Rattle.vfs_segments.specs.SegmentLaws.{passed-held_filled}
use Rattle.vfs_segments.specs.Written.{Written, wrote, held_filled}
use Rattle.test_uses.proofs.segments.header_before_body.Goals as goal

pub returns-clause-wrote : goal.returns-clause-wrote
returns-clause-wrote c =
    let header = c.args.header.now in
    let body = c.args.body.now in
    let held = rw c.unwrap.ensures at c.hold.ensures.held in
    ap (λ (w : Written). w.passed) c.fill_held.ensures
    ∙ ap (λ (w : Written). (held_filled w header).passed)
    (c.write_all.ensures.wrote ∙ ap (λ (w : Written). wrote w (take (length w.left) body)) held)
    ∙ passed-held_filled c.args.writer.now header body c.requires
