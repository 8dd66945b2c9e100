-- A line that fits memory with its 0.
use Rattle.std.proofs.Common.{◌≡◌, ◌+◌, ◌++◌, ◌∙◌, ℕ, List, [], ◌∷◌, length, take, drop, ap, sym, subst, arith}
use Rattle.std.proofs.Math.Seq.{drop-length, take-length}
use Rattle.std.proofs.lemmas.List.{take-append-drop}
use Rattle.vfs_print.specs.Lines.{HasLine, IsLine, shown}

pub exact_line : (line old new : List ℕ) (len : ℕ) → length old ≡ length line + 1
    → HasLine line len old new → IsLine len old new → new ≡ line ++ 0 ∷ []
exact_line line old new len long has is =
    let all : shown len old ≡ length line = omega (arith, long, has.whole) in
    let front : take (length line) new ≡ line = (rw all at has.begins) ∙ take-length line in
    let rest : drop (length line + 1) old ≡ [] =
    subst (λ (n : ℕ). drop n old ≡ []) long (drop-length old) in
    let back : drop (length line) new ≡ 0 ∷ [] = (rw all at is.ends) ∙ ap (λ (l : List ℕ). 0 ∷ l) rest in
    sym (take-append-drop (length line) new) ∙ ap (λ (l : List ℕ). l ++ drop (length line) new) front
    ∙ ap (λ (l : List ℕ). line ++ l) back
