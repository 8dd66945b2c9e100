use Rattle.std.proofs.Common.{◌<◌, ◌++◌, ◌∙◌, ℕ, List, [], length, refl, ap}
use Rattle.std.proofs.lemmas.List.{get_or-map, length-map}
use Rattle.std.specs.Borrow.{Bor}
use Rattle.vfs_segments.specs.Segments.{flat_bytes, segments_of}
use Rattle.nizwarf_tree.proofs.Offering.{first_more, full, less, pushed}
use Rattle.nizwarf_tree.proofs.offered.push_first.Goals as goal

pub loop-i-preserved : goal.loop-i-preserved
loop-i-preserved c =
    let segments = segments_of c.args.request.now in
    let within : c.loop-i.i < length segments = rw (length-map c.args.request.now (λ (s : Bor (List ℕ)). s.now)) c.loop-i-test.true in
    let part_is = get_or-map (λ (s : Bor (List ℕ)). s.now) c.args.request.now c.loop-i.i _ [] c.loop-i-test.true in
    let before = flat_bytes (segments_of c.args.list.now.items) in
    let list = flat_bytes (segments_of c.loop-i.list.items) in
    let new = flat_bytes (segments_of c.push.new.self.items) in
    let new_is = ap (λ (l : List (Bor (List ℕ))). flat_bytes (segments_of l)) c.in_ok-push.ensures.items
    ∙ pushed c.loop-i.list.items _ in
    record {
      left = less segments c.loop-i.i _ within part_is c.args.count c.loop-i.left c.min-len.result
          c.loop-i.invariant.left c.min-len.ensures before list new _ new_is;
      added = first_more segments c.loop-i.i _ within part_is c.args.count c.loop-i.left c.min-len.result
          c.loop-i.invariant.left c.min-len.ensures before list new _ new_is c.loop-i.invariant.added
          refl;
    }

pub returns-then-left-eq0 : goal.returns-then-left-eq0
returns-then-left-eq0 c =
    c.loop-i.invariant.added
    ∙ ap (λ (l : List ℕ). flat_bytes (segments_of c.args.list.now.items) ++ l)
    (full (segments_of c.args.request.now) c.loop-i.i c.args.count c.loop-i.left c.loop-i.invariant.left
    c.if-left-eq0.true)
