use Rattle.std.proofs.Common.{arith, ap, ◌∙◌, ◌+◌, ◌≤◌, length, length-drop, refl}
use Rattle.vfs_segments.specs.Written.{Written, held_over}
use Rattle.vfs_segments.specs.Writer.{room_bytes}
use Rattle.vfs_segments.proofs.Writers.{holds}
use Rattle.vfs_segments.proofs.writer.Writer.hold.Goals as goal

pub returns-clause-held : goal.returns-clause-held
returns-clause-held c =
    let w = c.self.inside in
    let n = c.args.n in
    let fits : w.at + n ≤ length (room_bytes w) = omega (arith, c.self.invariant.all, c.self.invariant.within, ap (λ (u : Written). length u.left) c.self.view_is, length-drop w.at (room_bytes w)) in
    holds w (record w { at = w.at + n; held_at = w.at; held = n }) n refl fits refl refl refl refl ∙ ap (λ (u : Written). held_over u n) c.self.view_is
