use Rattle.std.proofs.Common.{arith, ap, sym, ◌∙◌, ◌+◌, ◌≡◌, ◌-◌, ◌≤◌, refl, length, length-drop, take, take_all}
use Rattle.std.proofs.lemmas.Grind.{common_steps}
use Rattle.vfs_wire.specs.Fields.{bytes_of}
use Rattle.vfs_segments.specs.Written.{Written, wrote}
use Rattle.vfs_segments.specs.Writer.{room_bytes}
use Rattle.vfs_segments.specs.declared.writer.Writer.TheInside.{Inside}
use Rattle.vfs_segments.proofs.Writers.{wrote_next, still_writer}
use Rattle.vfs_segments.proofs.writer.Writer.write_obj.Goals as goal

pub put_obj-requires : goal.put_obj-requires
put_obj-requires g c =
    let w = c.self.inside in
    let room : g.T.ByteValued.SIZE ≤ length (room_bytes w) - w.at =
    omega (arith, c.SIZE.ensures, ap (λ (u : Written). length u.left) c.self.view_is, length-drop w.at (room_bytes w)) in
    omega (arith, room, c.self.invariant.all, c.self.invariant.within)

pub invariant_of-self : goal.invariant_of-self
invariant_of-self g c =
    let w = c.self.inside in
    let room : g.T.ByteValued.SIZE ≤ length (room_bytes w) - w.at =
    omega (arith, c.SIZE.ensures, ap (λ (u : Written). length u.left) c.self.view_is, length-drop w.at (room_bytes w)) in
    still_writer w (record w { segments = c.put_obj.new.self; near = c.put_obj.new.near; at = w.at + c.SIZE-2.result }) c.self.invariant
    c.put_obj.ensures.lengths refl (omega (arith, room, c.SIZE-2.ensures, c.self.invariant.all, c.self.invariant.within)) (omega (arith, c.self.invariant.held_in))

pub returns-clause-wrote : goal.returns-clause-wrote
returns-clause-wrote g c =
    let w = c.self.inside in
    let bs = bytes_of g.T.ByteValued.table c.args.x in
    let left = ap (λ (u : Written). length u.left) c.self.view_is in
    let room : length bs ≤ length (room_bytes w) - w.at =
    omega (arith, c.SIZE.ensures, c.put_obj.ensures.size, left, length-drop w.at (room_bytes w)) in
    let n : Inside = record w { segments = c.put_obj.new.self; near = c.put_obj.new.near; at = w.at + c.SIZE-2.result } in
    let moved : n.at ≡ w.at + length bs = omega (arith, c.SIZE-2.ensures, c.put_obj.ensures.size) in
    let all : take (length c.args.self.now.left) bs ≡ bs = take_all (length c.args.self.now.left) bs (omega (arith, room, left, length-drop w.at (room_bytes w))) in
    wrote_next w n bs c.put_obj.ensures.bytes (omega (arith, room, c.self.invariant.all, c.self.invariant.within)) moved refl refl
    c.put_obj.ensures.lengths
    ∙ ap (λ (u : Written). wrote u bs) c.self.view_is ∙ ap (wrote c.args.self.now) (sym all)

pub overflow_add-self : goal.overflow_add-self
overflow_add-self g c = grind (arith, common_steps)
