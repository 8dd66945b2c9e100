use Rattle.std.proofs.Common.{◌≡◌, ℕ, List, [], ◌∷◌, ◌++◌, map, None, refl, ap, ◌∙◌}
use Rattle.vfs_files.specs.Calls.{Forget, Done}
use Rattle.vfs_files.specs.Runs.{Called}
use Rattle.vfs_files.specs.declared.entry.Context.{Context}
use Rattle.vfs_bench.specs.Notes.{notes_of, unanswered}
use Rattle.test_uses.proofs.mock.forgets_are_noted.Goals as goal

-- the notes of these calls of `forget`
notes_of-forgets :
    (ctx : Context) (xs : List (ℕ × ℕ))
    → notes_of (map (λ (p : ℕ × ℕ). Called (Forget ctx p.0 p.1) Done) (map (λ (p : ℕ × ℕ). (p.0, p.1)) xs))
    ≡ map (λ (p : ℕ × ℕ). unanswered 2 p.0 p.1) xs
notes_of-forgets ctx [] = refl
notes_of-forgets ctx (x ∷ xs) = ap (λ notes. unanswered 2 x.0 x.1 ∷ notes) (notes_of-forgets ctx xs)

pub returns : goal.returns
returns c = λ unset.
    let before = c.args.recorder.now.notes in
    c.notes_are_the_calls.ensures None _ _ _ c.forget_each.ensures unset
    ∙ ap (λ notes. before ++ notes) (notes_of-forgets c.args.ctx.now c.args.requests.items)
