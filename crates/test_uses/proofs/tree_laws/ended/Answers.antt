use Rattle.std.proofs.Common.{◌∙◌, ◌++◌, ℕ, List, [], ap}
use Rattle.test_uses.proofs.TreeCallers.{session_freed}
use Rattle.test_uses.proofs.tree_laws.ended.Goals as goal

pub returns-clause-lookups : goal.returns-clause-lookups
returns-clause-lookups c =
    let seen = c.handle_session.ensures c.requires.tree in
    (session_freed _ _ _ _ c.in-Ok.reader _ _ _ _ (rw c.in-Ok-vec.ensures.items at seen.0.served)
    (c.in-Ok.ensures.ok.0 ∙ ap (λ (l : List ℕ). l ++ []) c.as_slice.ensures) seen.1 seen.2).lookups

pub returns-clause-names : goal.returns-clause-names
returns-clause-names c =
    let seen = c.handle_session.ensures c.requires.tree in
    (session_freed _ _ _ _ c.in-Ok.reader _ _ _ _ (rw c.in-Ok-vec.ensures.items at seen.0.served)
    (c.in-Ok.ensures.ok.0 ∙ ap (λ (l : List ℕ). l ++ []) c.as_slice.ensures) seen.1 seen.2).names

pub returns-clause-bytes : goal.returns-clause-bytes
returns-clause-bytes c =
    let seen = c.handle_session.ensures c.requires.tree in
    (session_freed _ _ _ _ c.in-Ok.reader _ _ _ _ (rw c.in-Ok-vec.ensures.items at seen.0.served)
    (c.in-Ok.ensures.ok.0 ∙ ap (λ (l : List ℕ). l ++ []) c.as_slice.ensures) seen.1 seen.2).bytes
