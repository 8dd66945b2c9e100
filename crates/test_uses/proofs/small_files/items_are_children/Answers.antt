use Rattle.std.proofs.Common.{ℕ, List, [], ◌∷◌, codes, sym, ap, ◌∙◌, subst}
use Rattle.std.specs.Str.{bytes_eq}
use Rattle.fs_small.specs.Tables.{IsListed}
use Rattle.test_uses.proofs.small_files.items_are_children.Goals as goal

pub returns : goal.returns
returns c = λ t dot item agree is name.
    ap (t.child 1) (sym name)
    ∙ (subst (λ (n : List ℕ). IsListed (bytes_eq n (codes ".")) (bytes_eq n (codes "..")) t 1 item) name
    (agree 1 (dot ∷ item ∷ []) is).1.0).0
