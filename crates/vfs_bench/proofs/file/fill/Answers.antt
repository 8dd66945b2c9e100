use Rattle.std.proofs.Common.{arith, ap, ◌∙◌, ◌+◌, ◌++◌, ◌≡◌, ◌<◌, sym, take, length, List, ℕ, [], get_or, replicate, length-append}
use Rattle.std.specs.List.{concat}
use Rattle.std.proofs.lemmas.List.{take_all, replicate-append-replicate}
use Rattle.vfs_segments.specs.Views.{with_any_piece}
use Rattle.vfs_segments.specs.ViewLaws.{concat-take-set, IsSameRoom-count, IsSameRoom-total, IsSameRoom-then_piece, pieces-with_any_piece}
use Rattle.vfs_bench.proofs.file.fill.Goals as goal

-- the same byte, again and again
replicate-append : (byte : ℕ) (xs ys : List ℕ) → xs ≡ replicate (length xs) byte
    → ys ≡ replicate (length ys) byte → xs ++ ys ≡ replicate (length (xs ++ ys)) byte
replicate-append byte xs ys p q =
    ap (λ l. l ++ ys) p ∙ ap (λ l. replicate (length xs) byte ++ l) q
    ∙ replicate-append-replicate (length xs) (length ys) byte
    ∙ ap (λ n. replicate n byte) (sym (length-append xs ys))

pub loop-i-preserved : goal.loop-i-preserved
loop-i-preserved c =
    let v = c.loop-i.view in
    let i = c.loop-i.i in
    let byte = c.args.byte in
    let w = c.fill.new.self in
    let same = c.loop-i.invariant.same_room in
    let size : length w ≡ length (get_or v.pieces i []) =
    c.fill.ensures.len ∙ ap length c.get_mut.ensures.value in
    let bound : i < length v.pieces =
    omega (
      arith,
      c.loop-i-test.true,
      c.count-i-end.ensures.count,
      IsSameRoom-count c.args.view.now v same,
    ) in
    let bytes : w ≡ replicate (length w) byte =
    c.fill.ensures.after (λ y e. e) ∙ ap (λ n. replicate n byte) (sym c.fill.ensures.len) in
    let grown : concat (take (i + 1) (with_any_piece v i w).pieces) ≡ concat
    (take i v.pieces) ++ w =
    ap (λ l. concat (take (i + 1) l)) (pieces-with_any_piece v i w size)
    ∙ concat-take-set v.pieces i w bound in
    record {
      same_room = IsSameRoom-then_piece c.args.view.now v i w same bound size;
      filled =
          rw grown
          (replicate-append byte (concat (take i v.pieces)) w c.loop-i.invariant.filled bytes);
    }

pub returns-clause-filled : goal.returns-clause-filled
returns-clause-filled c =
    let v = c.loop-i.view in
    let same = c.loop-i.invariant.same_room in
    let all : take c.loop-i.i v.pieces ≡ v.pieces =
    take_all c.loop-i.i v.pieces
    (omega (
      arith,
      c.loop-i-test.false,
      c.count-i-end.ensures.count,
      IsSameRoom-count c.args.view.now v same,
    )) in
    rw all at c.loop-i.invariant.filled
    ∙ ap (λ n. replicate n c.args.byte) (IsSameRoom-total c.args.view.now v same)
