use Rattle.std.proofs.Common.{◌≡◌, ◌∙◌, Bool, true, false, if◌then◌else◌, refl}
use Rattle.vfs_grammar.specs.Words.{reads_extensions}
use Rattle.laws_turns.proofs.uses.extensions.what_is_read_is_cut.Goals as goal

reads : {A : Type 0} (b : Bool) (x y : A) → b ≡ true → (if b then x else y) ≡ x
reads true x y h = refl
reads false x y h = absurd cc

pub returns : goal.returns
returns c options bytes h =
    c.extensions_are_cut_in_one_way.ensures.said options bytes ∙ reads (reads_extensions options) _ _ h
