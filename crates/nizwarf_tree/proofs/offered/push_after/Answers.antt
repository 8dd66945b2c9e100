use Rattle.std.proofs.Common.{◌<◌, ◌∙◌, ℕ, List, [], length, ap, arith, length-drop}
use Rattle.std.proofs.lemmas.List.{get_or-map, length-map, take_all}
use Rattle.std.specs.Borrow.{Bor}
use Rattle.vfs_segments.specs.Segments.{flat_bytes, segments_of}
use Rattle.nizwarf_tree.proofs.Offering.{after_more, less, pushed}
use Rattle.nizwarf_tree.proofs.offered.push_after.Goals as goal

pub loop-i-preserved : goal.loop-i-preserved
loop-i-preserved c =
    let segments = segments_of c.args.request.now in
    let within : c.loop-i.i < length segments = rw (length-map c.args.request.now (λ (s : Bor (List ℕ)). s.now)) c.loop-i-test.true in
    let part_is = get_or-map (λ (s : Bor (List ℕ)). s.now) c.args.request.now c.loop-i.i _ [] c.loop-i-test.true in
    let before = flat_bytes (segments_of c.args.list.now.items) in
    let list = flat_bytes (segments_of c.loop-i.list.items) in
    let new = flat_bytes (segments_of c.push.new.self.items) in
    let new_is = ap (λ (l : List (Bor (List ℕ))). flat_bytes (segments_of l)) c.in_ok-push.ensures.items
    ∙ pushed c.loop-i.list.items _ in
    record {
      left = less segments c.loop-i.i _ within part_is c.args.count c.loop-i.left c.min-len.result
          c.loop-i.invariant.left c.min-len.ensures before list new _ new_is;
      added = after_more segments c.loop-i.i _ within part_is c.args.count c.loop-i.left c.min-len.result
          c.loop-i.invariant.left c.min-len.ensures before list new _ new_is c.loop-i.invariant.added
          (take_all _ _ (omega (arith, length-drop {A = ℕ})));
    }
