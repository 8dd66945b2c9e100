use Rattle.std.proofs.Common.{arith, ◌<◌, ◌∙◌, ◌+◌, ◌++◌, ◌∷◌, ap, sym, [], length, map, take}
use Rattle.std.proofs.lemmas.Grind.{common_steps}
use Rattle.std.specs.List.{concat}
use Rattle.vfs_segments.specs.Totals.{totals_of}
use Rattle.vfs_segments.proofs.Flat.{length-concat-take_more}
use Rattle.vfs_segments.proofs.Totals.{totals_of-more}
use Rattle.vfs_segments.proofs.segments.many_totals.Goals as goal

pub loop-i-preserved : goal.loop-i-preserved
loop-i-preserved g c =
    let xs = g.L.SegmentList.bytes c.args.list.now in
    let i = c.loop-i.i in
    let v = c.loop-i.invariant in
    let h : i < length xs = omega (arith, c.count-count.ensures) in
    let front = totals_of (map length (take i xs)) in
    record {
      total = omega (arith, v.total, c.len_of-total.ensures, length-concat-take_more xs i h);
      totals = c.push_reserved.ensures.items
          ∙ ap (λ l. l ++ (c.loop-i.total + c.len_of-total.result) ∷ []) v.totals
          ∙ ap (λ n. front ++ (n + c.len_of-total.result) ∷ []) v.total
          ∙ ap (λ n. front ++ (length (concat (take i xs)) + n) ∷ []) c.len_of-total.ensures
          ∙ sym (totals_of-more xs i h);
      count = omega (arith, v.count, c.push_reserved.ensures.len);
      room = omega (arith, v.room, c.push_reserved.ensures.capacity);
    }

pub returns : goal.returns
returns g c = grind (arith, common_steps)
