use Rattle.std.proofs.Common.{◌≡◌, ◌+◌, ◌-◌, sym, ap, ◌∙◌, map, arith}
use Rattle.std.proofs.lemmas.Grind.{common_steps}
use Rattle.std.proofs.lemmas.List.{map-append}
use Rattle.vfs_run.specs.Lines.{line_of, request, request_option}
use Rattle.vfs_run.proofs.LineLemmas.{all_requests-more, all_requests-whole, first_bad}
use Rattle.vfs_run.proofs.ValueLemmas.{values_of-more}
use Rattle.vfs_run.proofs.requests.read_requests.Goals as goal

pub returns-in-None-clause-asked : goal.returns-in-None-clause-asked
returns-in-None-clause-asked c =
    let before : c.args.counted + c.loop-index.index + 1 - c.args.counted - 1 ≡ c.loop-index.index = omega arith in
    rw before c.loop-index.invariant.asked

pub returns-in-None-clause-read : goal.returns-in-None-clause-read
returns-in-None-clause-read c =
    let none = sym c.in_ok-request.ensures.read ∙ ap request_option c.in-None.is in
    first_bad c.args.counted c.args.lines.now c.loop-index.index _ c.loop-index-test.true c.loop-index.invariant.each none

pub loop-index-preserved : goal.loop-index-preserved
loop-index-preserved c =
    let some = sym c.in_ok-request.ensures.read ∙ ap request_option c.in-Some.is in
    let more = values_of-more line_of c.args.lines.now c.loop-index.index _ (map request c.loop-index.requests.items) _ c.loop-index-test.true c.loop-index.invariant.asked some in
    record {
      each = all_requests-more c.args.lines.now c.loop-index.index _ _ c.loop-index-test.true c.loop-index.invariant.each some;
      asked = rw c.in_ok-push-in-Some.ensures.items (simp map-append more);
    }

pub returns-clause-read : goal.returns-clause-read
returns-clause-read c = all_requests-whole c.args.lines.now c.loop-index.index c.loop-index-test.false c.loop-index.invariant.each

pub returns-clause-asked : goal.returns-clause-asked
returns-clause-asked c = grind (arith, common_steps)
