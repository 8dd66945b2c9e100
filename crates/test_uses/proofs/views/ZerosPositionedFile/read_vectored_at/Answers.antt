use Rattle.std.proofs.Common.{arith, ap, ◌∙◌, ◌+◌, ◌++◌, ◌≡◌, ◌<◌, sym, refl, take, length, List, ℕ, [], get_or, replicate, length-append}
use Rattle.std.specs.List.{concat}
use Rattle.std.proofs.lemmas.List.{take_all, replicate-append-replicate}
use Rattle.vfs_segments.specs.Views.{with_any_piece}
use Rattle.vfs_segments.specs.ViewLaws.{concat-take-set, IsSameRoom-count, IsSameRoom-total, IsSameRoom-then_piece, pieces-with_any_piece}
use Rattle.test_uses.proofs.views.ZerosPositionedFile.read_vectored_at.Goals as goal

-- zeros and more zeros
zeros-append : (xs ys : List ℕ) → xs ≡ replicate (length xs) 0 → ys ≡ replicate (length ys) 0 →
    xs ++ ys ≡ replicate (length (xs ++ ys)) 0
zeros-append xs ys p q =
    ap (λ l. l ++ ys) p ∙ ap (λ l. replicate (length xs) 0 ++ l) q
    ∙ replicate-append-replicate (length xs) (length ys) 0 ∙ ap (λ n. replicate n 0) (sym (length-append xs ys))

pub loop-i-preserved : goal.loop-i-preserved
loop-i-preserved c =
    let v = c.loop-i.view in
    let i = c.loop-i.i in
    let w = c.fill.new.self in
    let same = c.loop-i.invariant.same_room in
    let size : length w ≡ length (get_or v.pieces i []) = c.fill.ensures.len ∙ ap length c.get_mut.ensures.value in
    let bound : i < length v.pieces =
    omega (arith, c.loop-i-test.true, c.count-i-end.ensures.count, IsSameRoom-count c.args.view.now v same) in
    let zeros : w ≡ replicate (length w) 0 =
    c.fill.ensures.after (λ y e. e) ∙ ap (λ n. replicate n 0) (sym c.fill.ensures.len) in
    let grown : concat (take (i + 1) (with_any_piece v i w).pieces) ≡ concat (take i v.pieces) ++ w =
    ap (λ l. concat (take (i + 1) l)) (pieces-with_any_piece v i w size) ∙ concat-take-set v.pieces i w bound in
    record {
      same_room = IsSameRoom-then_piece c.args.view.now v i w same bound size;
      zeros = rw grown (zeros-append (concat (take i v.pieces)) w c.loop-i.invariant.zeros zeros);
    }

pub returns-clause-bound : goal.returns-clause-bound
returns-clause-bound c =
    omega (arith, c.total.ensures, IsSameRoom-total c.args.view.now c.loop-i.view c.loop-i.invariant.same_room)

pub returns-clause-gives : goal.returns-clause-gives
returns-clause-gives c =
    let v = c.loop-i.view in
    let same = c.loop-i.invariant.same_room in
    let total : c.total.result ≡ length (concat c.args.view.now.pieces) =
    c.total.ensures ∙ IsSameRoom-total c.args.view.now v same in
    let all : take c.loop-i.i v.pieces ≡ v.pieces =
    take_all c.loop-i.i v.pieces
    (omega (arith, c.loop-i-test.false, c.count-i-end.ensures.count, IsSameRoom-count c.args.view.now v same)) in
    let zeros : concat v.pieces ≡ replicate (length (concat v.pieces)) 0 = rw all at c.loop-i.invariant.zeros in
    let front : take c.total.result (concat v.pieces) ≡ concat v.pieces =
    take_all c.total.result (concat v.pieces) (omega (arith, c.total.ensures)) in
    (rw total refl, front ∙ zeros ∙ ap (λ n. replicate n 0) (IsSameRoom-total c.args.view.now v same))
