use Rattle.std.proofs.Common.{rules, ◌≡◌, ◌<◌, ◌-◌, ◌∙◌, ℕ, List, [], length, take, drop, ap, arith, length-drop}
use Rattle.std.specs.Prelude.{min}
use Rattle.std.proofs.lemmas.List.{get_or-map, length-map, take_all}
use Rattle.std.specs.Borrow.{Bor}
use Rattle.vfs_segments.specs.Segments.{segments_of}
use Rattle.codec_decode.proofs.Gathering.{copied_more, count_more, full_copied, full_count}
use Rattle.codec_decode.proofs.front.copy_front.Goals as goal

pub returns-then-len-front-clause-count : goal.returns-then-len-front-clause-count
returns-then-len-front-clause-count c =
    full_count (segments_of c.args.request.now) c.loop-i.i c.loop-i.len c.args.front.now c.loop-i.invariant.count
    (search rules)

pub returns-then-len-front-clause-copied : goal.returns-then-len-front-clause-copied
returns-then-len-front-clause-copied c =
    full_copied (segments_of c.args.request.now) c.loop-i.i c.loop-i.len c.loop-i.front c.args.front.now
    c.loop-i.invariant.count c.loop-i.invariant.copied

pub loop-i-preserved : goal.loop-i-preserved
loop-i-preserved c =
    let segments = segments_of c.args.request.now in
    let within : c.loop-i.i < length segments = rw (length-map c.args.request.now (λ (s : Bor (List ℕ)). s.now)) c.loop-i-test.true in
    let part_is = get_or-map (λ (s : Bor (List ℕ)). s.now) c.args.request.now c.loop-i.i _ [] c.loop-i-test.true in
    let rest : take (length c.loop-i.front - c.loop-i.len) (drop c.loop-i.len c.loop-i.front) ≡ drop c.loop-i.len c.loop-i.front =
    take_all _ _ (omega (arith, length-drop c.loop-i.len c.loop-i.front)) in
    let count : c.copy_first-len.result ≡ min _ (length c.loop-i.front - c.loop-i.len) =
    c.copy_first-len.ensures.count ∙ ap (min _) (ap length rest ∙ length-drop c.loop-i.len c.loop-i.front) in
    let copied = rw rest at c.copy_first-len.ensures.copied in
    record {
      count = count_more segments c.loop-i.i _ c.loop-i.len c.copy_first-len.result c.loop-i.front c.args.front.now
          c.copy_first-len.new.to within part_is c.loop-i.invariant.count c.loop-i.invariant.copied (search rules)
          c.if-len-front.false count copied;
      copied = copied_more segments c.loop-i.i _ c.loop-i.len c.copy_first-len.result c.loop-i.front c.args.front.now
          c.copy_first-len.new.to within part_is c.loop-i.invariant.count c.loop-i.invariant.copied (search rules)
          c.if-len-front.false count copied;
    }
