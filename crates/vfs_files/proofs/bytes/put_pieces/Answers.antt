use Rattle.std.proofs.Common.{◌≡◌, ◌<◌, ◌+◌, ◌-◌, ◌++◌, [], length, take, drop, min, get_or, sym, ap, ◌∙◌, arith, length-append, length-take, length-drop, take_at}
use Rattle.std.proofs.Math.Seq.{take-add}
use Rattle.std.proofs.lemmas.List.{take_all, take_rest}
use Rattle.std.specs.List.{concat}
use Rattle.vfs_segments.specs.Views.{with_any_piece}
use Rattle.vfs_segments.specs.ViewLaws.{concat-take-set, IsSameRoom-count, IsSameRoom-total, IsSameRoom-then_piece, pieces-with_any_piece}
use Rattle.vfs_files.proofs.Pieces.{take_piece}
use Rattle.vfs_files.proofs.bytes.put_pieces.Goals as goal

pub loop-i-preserved : goal.loop-i-preserved
loop-i-preserved c =
    let v = c.loop-i.view in
    let i = c.loop-i.i in
    let done = c.loop-i.done in
    let bytes = c.args.bytes.now in
    let piece = c.get_mut.result.now in
    let w = c.fill_front-done.new.piece in
    let n = c.fill_front-done.result in
    let before = concat (take i v.pieces) in
    let same = c.loop-i.invariant.same_room in
    let bound : i < length v.pieces =
    omega (
      arith,
      c.loop-i-test.true,
      c.count-i-end.ensures.count,
      IsSameRoom-count c.args.view.now v same,
    ) in
    let size : length w ≡ length (get_or v.pieces i []) =
    c.fill_front-done.auto.piece ∙ ap length c.get_mut.ensures.value in
    let rest = take_rest bytes done in
    let count : n ≡ min (length piece) (length (drop done bytes)) =
    rw rest at c.fill_front-done.ensures.count in
    let copied : w ≡ take n (drop done bytes) ++ drop n piece =
    rw rest at c.fill_front-done.ensures.copied in
    let front : take n w ≡ take n (drop done bytes) =
    ap (take n) copied
    ∙ take_at (take n (drop done bytes)) (drop n piece) n (omega (
      arith,
      count,
      length-take n (drop done bytes),
    )) in
    let fits : n ≡ min (length w) (length bytes - done) =
    omega (arith, count, length-drop done bytes, c.fill_front-done.auto.piece) in
    let grown : concat (take (i + 1) (with_any_piece v i w).pieces) ≡ before ++ w =
    ap (λ l. concat (take (i + 1) l)) (pieces-with_any_piece v i w size)
    ∙ concat-take-set v.pieces i w bound in
    record {
      same_room = IsSameRoom-then_piece c.args.view.now v i w same bound size;
      done = rw grown (omega (arith, c.loop-i.invariant.done, fits, length-append before w));
      put = rw grown (
          take_piece before w done n (length bytes) c.loop-i.invariant.done fits
          ∙ ap (λ l. l ++ take n w) c.loop-i.invariant.put ∙ ap (λ l. take done bytes ++ l) front
          ∙ sym (take-add done n bytes));
    }

pub returns-clause-put : goal.returns-clause-put
returns-clause-put c =
    let v = c.loop-i.view in
    let bytes = c.args.bytes.now in
    let same = c.loop-i.invariant.same_room in
    let all : take c.loop-i.i v.pieces ≡ v.pieces =
    take_all c.loop-i.i v.pieces (omega (
      arith,
      c.loop-i-test.false,
      c.count-i-end.ensures.count,
      IsSameRoom-count c.args.view.now v same,
    )) in
    let filled : c.loop-i.done ≡ length bytes =
    omega (
      arith,
      rw all at c.loop-i.invariant.done,
      IsSameRoom-total c.args.view.now v same,
      c.requires,
    ) in
    rw (all, filled) at c.loop-i.invariant.put ∙ take_all (length bytes) bytes (omega arith)
