use Rattle.std.proofs.Common.{◌≡◌, ◌∙◌, ℕ, List, [], ◌∷◌, Some, sym}
use Rattle.test_uses.proofs.small_laws.bytes_of_a_name.Goals as goal

same_text : (a b : List ℕ) → Some a ≡ Some b → a ≡ b
same_text a b e = let f = e in cc

pub returns-clause-bytes : goal.returns-clause-bytes
returns-clause-bytes c = λ bytes is.
    (c.names_end_at_their_only_nul.ensures.named bytes (0x61 ∷ 0x62 ∷ []) is).0

pub returns-clause-one : goal.returns-clause-one
returns-clause-one c = λ bytes text other first second.
    same_text text other (sym (c.names_end_at_their_only_nul.ensures.found bytes text first)
    ∙ c.names_end_at_their_only_nul.ensures.found bytes other second)
