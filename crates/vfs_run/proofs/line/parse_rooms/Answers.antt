use Rattle.std.proofs.Common.{arith, sym, ◌∙◌}
use Rattle.std.proofs.lemmas.Grind.{common_steps}
use Rattle.vfs_run.proofs.ValueLemmas.{values_of-refused, values_of-more}
use Rattle.vfs_run.specs.Lines.{length_of}
use Rattle.vfs_run.proofs.line.parse_rooms.Goals as goal

pub returns-in_default-clause-read : goal.returns-in_default-clause-read
returns-in_default-clause-read c =
    let refused = values_of-refused length_of c.deref-piece-items.result.now c.loop-piece.piece-index _ c.loop-piece.rooms.items c.loop-piece-test.true c.loop-piece.invariant (sym c.parse_length.ensures ∙ c.in_default.is) in
    sym (rw (c.deref-piece-items.ensures.value, c.in_ok-pieces.ensures.pieces) at refused)

pub loop-piece-preserved : goal.loop-piece-preserved
loop-piece-preserved c =
    let more = values_of-more length_of c.deref-piece-items.result.now c.loop-piece.piece-index _ c.loop-piece.rooms.items c.in-Some.length c.loop-piece-test.true c.loop-piece.invariant (sym c.parse_length.ensures ∙ c.in-Some.is) in
    rw c.in_ok-push.ensures.items more

pub returns-clause-read : goal.returns-clause-read
returns-clause-read c = grind (arith, common_steps)
