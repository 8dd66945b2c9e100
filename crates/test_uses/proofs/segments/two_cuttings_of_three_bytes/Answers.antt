use Rattle.std.proofs.Common.{refl, List, [], ◌∷◌, ℕ}
use Rattle.test_uses.proofs.segments.two_cuttings_of_three_bytes.Goals as goal

pub returns : goal.returns
returns c = λ u t v w questions answers others m n p r.
    let first : List (List ℕ) = (1 ∷ []) ∷ (2 ∷ 3 ∷ []) ∷ [] in
    let second : List (List ℕ) = (1 ∷ 2 ∷ []) ∷ (3 ∷ []) ∷ [] in
    let both = c.equal_bytes_answer_alike.ensures.alike first second refl u t m n questions answers others v w p r in
    (both.0, both.1.left)
