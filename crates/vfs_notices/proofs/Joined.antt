-- What is put into two parts of a piece, one after the other.
use Rattle.std.proofs.Common.{◌≡◌, ◌+◌, ◌++◌, List, ℕ, length, take, drop, length-append, ap, sym, ◌∙◌, arith}
use Rattle.std.proofs.Math.Seq.{drop-append-add, take-append_seam}
use Rattle.std.proofs.lemmas.Grind.{common_steps}
use Rattle.std.proofs.lemmas.List.{drop_all}

-- what is left of both parts is what is left of the piece, where the first is full
pub joined : (a b front back out : List ℕ) (n m : ℕ) → length front ≡ n → out ≡ front ++ back
    → (a ++ drop n front) ++ (b ++ drop m back) ≡ a ++ (b ++ drop (n + m) out)
joined a b front back out n m full both =
    let none = drop_all n front (omega (arith, full)) in
    let rest = drop-append-add front back m in
    grind (arith, common_steps, none, rest, full, both)

-- what follows the first part, where that and what is put are all
pub replaced : (b front back reply out : List ℕ) (n m : ℕ) → length front ≡ n → reply ≡ front ++ back
    → length reply ≡ n + m → out ≡ b ++ drop m back → front ++ out ≡ take n reply ++ b
replaced b front back reply out n m full both whole put =
    let long : length (front ++ back) ≡ n + m = ap length (sym both) ∙ whole in
    let none = drop_all m back (omega (arith, full, long, length-append front back)) in
    let first = take-append_seam front back in
    grind (arith, common_steps, none, first, full, both, put)
