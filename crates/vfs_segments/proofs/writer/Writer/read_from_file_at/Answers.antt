use Rattle.std.proofs.Common.{arith, ap, ◌∙◌, ◌≡◌, ◌+◌, ◌-◌, min, refl, sym, length, length-drop, Ok, Err, Option, ℕ}
use Rattle.std.proofs.lemmas.Grind.{common_steps}
use Rattle.vfs_segments.specs.Written.{Written}
use Rattle.vfs_segments.specs.Transfer.{taken_in}
use Rattle.vfs_segments.specs.Writer.{room_bytes}
use Rattle.vfs_segments.proofs.Writers.{took, took_none, still_writer}
use Rattle.vfs_segments.proofs.writer.Writer.read_from_file_at.Goals as goal

pub invariant_of-self : goal.invariant_of-self
invariant_of-self g c =
    let w = c.self.inside in
    let b = c.in-Ok.ensures.bound in
    let room : length c.args.self.now.left ≡ w.end - w.at =
    sym (ap (λ (u : Written). length u.left) c.self.view_is) ∙ length-drop w.at (room_bytes w)
    ∙ ap (λ m. m - w.at) (sym c.self.invariant.all) in
    still_writer w (record w { segments = c.read_into.new.self; at = w.at + c.in-Ok.moved }) c.self.invariant c.read_into.ensures.lengths refl (omega (arith, b, room, c.self.invariant.within)) (omega (arith, c.self.invariant.held_in))

pub invariant_of-self-in-Err : goal.invariant_of-self-in-Err
invariant_of-self-in-Err g c =
    let w = c.self.inside in
    still_writer w (record w { segments = c.read_into.new.self }) c.self.invariant c.read_into.ensures.lengths refl c.self.invariant.within c.self.invariant.held_in

pub returns-in-Ok-clause-lent : goal.returns-in-Ok-clause-lent
returns-in-Ok-clause-lent g c = λ some.
    let w = c.self.inside in
    let n : c.min-n.result ≡ min c.args.count (length c.args.self.now.left) = omega arith in
    let t = c.in-Ok.ensures.moved in
    let b = c.in-Ok.ensures.bound in (
      t.0,
      t.1 ∙ n,
      took (Option ℕ) w (record w { segments = c.read_into.new.self; at = w.at + c.in-Ok.moved }) c.in-Ok.moved t.0 t.2 (omega (arith, c.self.invariant.all, c.self.invariant.within)) (omega (arith, b, t.1)) refl refl refl c.read_into.ensures.lengths
          ∙ ap (λ (u : Written). taken_in {E = Option ℕ} u (Ok c.in-Ok.moved) t.0) c.self.view_is,
      rw n at t.3,
    )

pub returns-in-Err-clause-lent : goal.returns-in-Err-clause-lent
returns-in-Err-clause-lent g c = λ some.
    let w = c.self.inside in
    let n : c.min-n.result ≡ min c.args.count (length c.args.self.now.left) = omega arith in
    let t = c.in-Err.ensures.moved in (
      t.0,
      t.1 ∙ n,
      took_none w (record w { segments = c.read_into.new.self }) c.in-Err.fault t.0 t.2 (omega (arith, c.self.invariant.all, c.self.invariant.within)) refl refl refl c.read_into.ensures.lengths
          ∙ ap (λ (u : Written). taken_in u (Err c.in-Err.fault) t.0) c.self.view_is,
      rw n at t.3,
    )

pub read_into-requires-clause-fits : goal.read_into-requires-clause-fits
read_into-requires-clause-fits g c = grind (arith, common_steps)

pub read_into-requires-clause-small : goal.read_into-requires-clause-small
read_into-requires-clause-small g c = grind (arith, common_steps)

pub overflow_add-self : goal.overflow_add-self
overflow_add-self g c = grind (arith, common_steps)
