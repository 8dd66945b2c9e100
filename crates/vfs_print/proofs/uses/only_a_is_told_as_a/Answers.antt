use Rattle.std.proofs.Common.{◌<◌, ℕ, [], ◌∷◌, arith}
use Rattle.std.proofs.lemmas.List.Elements.{All-cons, All-nil}
use Rattle.vfs_print.proofs.uses.only_a_is_told_as_a.Goals as goal

pub returns : goal.returns
returns c bytes small same =
    c.texts_differ.ensures bytes (97 ∷ []) small
    (All-cons (λ (x : ℕ). x < 256) 97 [] (omega arith) (All-nil (λ (x : ℕ). x < 256))) same
