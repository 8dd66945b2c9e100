use Rattle.std.proofs.Common.{arith, ap, sym, ◌∙◌, ◌+◌, ◌≡◌, ◌++◌, refl, length, length-drop, replicate, take, take_all}
use Rattle.std.proofs.lemmas.Grind.{common_steps}
use Rattle.vfs_wire.specs.Fields.{bytes_of}
use Rattle.vfs_segments.specs.Written.{Written, wrote}
use Rattle.vfs_segments.specs.Writer.{room_bytes}
use Rattle.vfs_segments.specs.declared.writer.Writer.TheInside.{Inside}
use Rattle.vfs_segments.proofs.Writers.{wrote_next, still_writer}
use Rattle.vfs_segments.proofs.writer.Writer.write_padded.Goals as goal

pub invariant_of-self : goal.invariant_of-self
invariant_of-self g c =
    let w = c.self.inside in
    let fits = c.put_whole.ensures.fits c.if-put_whole.true in
    still_writer w (record w { segments = c.put_whole.new.self; near = c.put_whole.new.near; at = w.at + (c.SIZE.result + length c.args.bytes.now + c.args.zeros) }) c.self.invariant
    c.put_whole.ensures.lengths refl (omega (arith, fits, c.SIZE.ensures, c.self.invariant.all)) (omega (arith, c.self.invariant.held_in))

pub returns-then-put_whole-clause-wrote : goal.returns-then-put_whole-clause-wrote
returns-then-put_whole-clause-wrote g c =
    let w = c.self.inside in
    let x = bytes_of g.T.ByteValued.table c.args.x in
    let bytes = c.args.bytes.now in
    let bs = x ++ (bytes ++ replicate c.args.zeros 0) in
    let long : length bs ≡ g.T.ByteValued.SIZE + length c.args.bytes.now + c.args.zeros = c.put_whole.ensures.long c.if-put_whole.true in
    let put = c.put_whole.ensures.wrote c.if-put_whole.true in
    let fits = c.put_whole.ensures.fits c.if-put_whole.true in
    let left = ap (λ (u : Written). length u.left) c.self.view_is in
    let n : Inside = record w { segments = c.put_whole.new.self; near = c.put_whole.new.near; at = w.at + (c.SIZE.result + length c.args.bytes.now + c.args.zeros) } in
    let moved : n.at ≡ w.at + length bs = omega (arith, long, c.SIZE.ensures) in
    let all : take (length c.args.self.now.left) bs ≡ bs = take_all (length c.args.self.now.left) bs (omega (arith, fits, long, left, length-drop w.at (room_bytes w))) in
    wrote_next w n bs put (omega (arith, fits, long, c.SIZE.ensures)) moved refl refl c.put_whole.ensures.lengths
    ∙ ap (λ (u : Written). wrote u bs) c.self.view_is ∙ ap (wrote c.args.self.now) (sym all)

pub returns-then-put_whole-clause-variant : goal.returns-then-put_whole-clause-variant
returns-then-put_whole-clause-variant g c = grind (arith, common_steps)
