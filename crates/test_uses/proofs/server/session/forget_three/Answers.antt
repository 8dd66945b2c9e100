use Rattle.std.proofs.Common.{◌∙◌, ◌++◌, ℕ, List, [], ap}
use Rattle.test_uses.proofs.SessionCallers.{session-forgotten}
use Rattle.test_uses.proofs.server.session.forget_three.Goals as goal

pub returns-clause-outcomes : goal.returns-clause-outcomes
returns-clause-outcomes g c =
    (session-forgotten g.F.FileSystem.allows g.F.DirIter.DirectoryIterator.gives c.args.server.now c.handle_session.new.self c.in-Ok.reader c.args.writers.now c.handle_session.new.outcomes c.handle_session.new.writers
    (rw c.in-Ok-vec.ensures.items at c.handle_session.ensures.session) (c.in-Ok.ensures.ok.0 ∙ ap (λ (l : List ℕ). l ++ []) c.as_slice.ensures)).outcomes_are

pub returns-clause-rooms : goal.returns-clause-rooms
returns-clause-rooms g c =
    (session-forgotten g.F.FileSystem.allows g.F.DirIter.DirectoryIterator.gives c.args.server.now c.handle_session.new.self c.in-Ok.reader c.args.writers.now c.handle_session.new.outcomes c.handle_session.new.writers
    (rw c.in-Ok-vec.ensures.items at c.handle_session.ensures.session) (c.in-Ok.ensures.ok.0 ∙ ap (λ (l : List ℕ). l ++ []) c.as_slice.ensures)).rooms

pub returns-clause-books : goal.returns-clause-books
returns-clause-books g c =
    (session-forgotten g.F.FileSystem.allows g.F.DirIter.DirectoryIterator.gives c.args.server.now c.handle_session.new.self c.in-Ok.reader c.args.writers.now c.handle_session.new.outcomes c.handle_session.new.writers
    (rw c.in-Ok-vec.ensures.items at c.handle_session.ensures.session) (c.in-Ok.ensures.ok.0 ∙ ap (λ (l : List ℕ). l ++ []) c.as_slice.ensures)).books
