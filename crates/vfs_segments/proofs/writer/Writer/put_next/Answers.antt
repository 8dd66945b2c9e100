use Rattle.std.proofs.Common.{arith, ap, ◌∙◌, ◌+◌, ◌-◌, ◌≤◌, refl, length, length-drop}
use Rattle.vfs_segments.specs.Written.{Written, wrote}
use Rattle.vfs_segments.specs.Writer.{room_bytes}
use Rattle.vfs_segments.proofs.Writers.{wrote_next, still_writer}
use Rattle.vfs_segments.proofs.writer.Writer.put_next.Goals as goal

pub put_from-requires : goal.put_from-requires
put_from-requires c =
    let w = c.self.inside in
    let room : length c.args.bytes.now ≤ length (room_bytes w) - w.at = omega (arith, c.requires, ap (λ (u : Written). length u.left) c.self.view_is, length-drop w.at (room_bytes w)) in
    omega (arith, room, c.self.invariant.all, c.self.invariant.within)

pub invariant_of-self : goal.invariant_of-self
invariant_of-self c =
    let w = c.self.inside in
    let room : length c.args.bytes.now ≤ length (room_bytes w) - w.at = omega (arith, c.requires, ap (λ (u : Written). length u.left) c.self.view_is, length-drop w.at (room_bytes w)) in
    still_writer w (record w { segments = c.put_from.new.self; near = c.put_from.new.near; at = w.at + length c.args.bytes.now }) c.self.invariant
    c.put_from.ensures.lengths refl (omega (arith, room, c.self.invariant.all, c.self.invariant.within)) (omega (arith, c.self.invariant.held_in))

pub returns : goal.returns
returns c =
    let w = c.self.inside in
    let room : length c.args.bytes.now ≤ length (room_bytes w) - w.at = omega (arith, c.requires, ap (λ (u : Written). length u.left) c.self.view_is, length-drop w.at (room_bytes w)) in
    wrote_next w (record w { segments = c.put_from.new.self; near = c.put_from.new.near; at = w.at + length c.args.bytes.now }) c.args.bytes.now
    c.put_from.ensures.bytes (omega (arith, room, c.self.invariant.all, c.self.invariant.within)) refl refl refl c.put_from.ensures.lengths
    ∙ ap (λ (u : Written). wrote u c.args.bytes.now) c.self.view_is
