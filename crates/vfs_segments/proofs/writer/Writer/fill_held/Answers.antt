use Rattle.std.proofs.Common.{arith, ap, ◌∙◌, ◌≡◌, refl, sym, length}
use Rattle.vfs_segments.specs.Written.{Written, held_filled}
use Rattle.vfs_segments.proofs.Writers.{filled, still_writer}
use Rattle.vfs_segments.proofs.writer.Writer.fill_held.Goals as goal

pub invariant_of-self : goal.invariant_of-self
invariant_of-self c =
    let w = c.self.inside in
    still_writer w (record w { segments = c.put_from.new.self; near = c.put_from.new.near; held = 0 }) c.self.invariant
    c.put_from.ensures.lengths refl c.self.invariant.within (omega (arith, c.self.invariant.held_in))

pub returns : goal.returns
returns c =
    let w = c.self.inside in
    let size : length c.args.bytes.now ≡ w.held = c.requires ∙ sym (ap (λ (u : Written). u.held) c.self.view_is) in
    filled w (record w { segments = c.put_from.new.self; near = c.put_from.new.near; held = 0 }) c.args.bytes.now c.self.invariant
    c.put_from.ensures.bytes size refl refl refl c.put_from.ensures.lengths
    ∙ ap (λ (u : Written). held_filled u c.args.bytes.now) c.self.view_is
