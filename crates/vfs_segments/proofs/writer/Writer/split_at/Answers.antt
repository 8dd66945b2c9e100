use Rattle.std.proofs.Common.{arith, ap, ◌∙◌, ◌+◌, refl, length, length-drop, length-take, rules}
use Rattle.std.proofs.lemmas.Grind.{common_steps}
use Rattle.vfs_segments.specs.Written.{Written, first_room}
use Rattle.vfs_segments.specs.Writer.{room_bytes}
use Rattle.vfs_segments.proofs.Writers.{keeps}
use Rattle.vfs_segments.proofs.writer.Writer.split_at.Goals as goal

pub invariant_of-rest : goal.invariant_of-rest
invariant_of-rest c =
    let w = c.self.inside in
    record {
      all = omega (arith, c.self.invariant.all, ap length c.in_ok-segments.ensures.back, length-drop (w.at + c.args.n) (room_bytes w));
      within = omega arith;
      held_in = omega arith;
    }

pub invariant_of-self-2 : goal.invariant_of-self-2
invariant_of-self-2 c =
    let w = c.self.inside in
    record {
      all = omega (arith, c.self.invariant.all, ap length c.in_ok-segments.ensures.front, length-take (w.at + c.args.n) (room_bytes w), ap (λ (u : Written). length u.left) c.self.view_is, length-drop w.at (room_bytes w));
      within = omega arith;
      held_in = c.self.invariant.held_in;
    }

pub returns-clause-kept : goal.returns-clause-kept
returns-clause-kept c =
    let w = c.self.inside in
    let n = c.args.n in
    keeps w (record w { segments = c.split_off.new.self; end = w.at + n }) n c.in_ok-segments.ensures.front refl refl refl
    (omega (arith, c.self.invariant.all, c.self.invariant.within)) c.in_ok-segments.ensures.front_lengths
    ∙ ap (λ (u : Written). first_room u n) c.self.view_is

pub returns-then-n-available_bytes-clause-err : goal.returns-then-n-available_bytes-clause-err
returns-then-n-available_bytes-clause-err c = search rules

pub overflow_add-middle : goal.overflow_add-middle
overflow_add-middle c = grind (arith, common_steps)

pub split_off-requires : goal.split_off-requires
split_off-requires c = grind (arith, common_steps)

pub overflow_sub-rest : goal.overflow_sub-rest
overflow_sub-rest c = grind (arith, common_steps)

pub returns-clause-rest : goal.returns-clause-rest
returns-clause-rest c = grind (arith, common_steps)
