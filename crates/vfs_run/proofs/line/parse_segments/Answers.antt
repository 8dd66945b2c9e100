use Rattle.std.proofs.Common.{arith, sym, ap, ◌∙◌, map}
use Rattle.std.proofs.lemmas.Grind.{common_steps}
use Rattle.std.proofs.lemmas.List.{map-append}
use Rattle.vfs_run.proofs.ValueLemmas.{values_of-refused, values_of-more}
use Rattle.vfs_run.specs.Lines.{segment_of, numbers_option}
use Rattle.vfs_run.proofs.line.parse_segments.Goals as goal

pub returns-in_default-clause-read : goal.returns-in_default-clause-read
returns-in_default-clause-read c =
    let none = sym c.in_ok-bytes.ensures.read ∙ ap numbers_option c.in_default.is in
    let refused = values_of-refused segment_of c.deref-piece-items.result.now c.loop-piece.piece-index _ (map (λ segment. segment.items) c.loop-piece.segments.items) c.loop-piece-test.true c.loop-piece.invariant none in
    sym (rw (c.deref-piece-items.ensures.value, c.in_ok-pieces.ensures.pieces) at refused)

pub loop-piece-preserved : goal.loop-piece-preserved
loop-piece-preserved c =
    let some = sym c.in_ok-bytes.ensures.read ∙ ap numbers_option c.in-Some.is in
    let more = values_of-more segment_of c.deref-piece-items.result.now c.loop-piece.piece-index _ (map (λ segment. segment.items) c.loop-piece.segments.items) c.in-Some.bytes.items c.loop-piece-test.true c.loop-piece.invariant some in
    rw c.in_ok-push.ensures.items (simp map-append more)

pub returns-clause-read : goal.returns-clause-read
returns-clause-read c = grind (arith, common_steps)
