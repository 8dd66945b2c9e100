use Rattle.std.proofs.Common.{List, map, subst}
use Rattle.vfs_grammar.specs.Turn.{Turn}
use Rattle.laws_history.specs.History.{Handled}
use Rattle.laws_history.proofs.Going.{turns_of_handled}
use Rattle.laws_tree.specs.Runs.{KeepsTree, LeavesNone}
use Rattle.laws_tree.proofs.Histories.{none_by_owner}
use Rattle.laws_tree.proofs.session.handle_session.Goals as goal

pub returns : goal.returns
returns c = λ tree.
    let session = c.handle_session.ensures.session in
    let old = c.args.server.now in
    let new = c.handle_session.new.self in
    let turns = session.turns in
    let kept =
    c.histories_keep_trees.ensures old new (map Handled turns)
    (c.sessions_are_histories.ensures old new _ _ _ _ session) (none_by_owner turns) tree in
    let Keeps : List Turn → Type 0 = λ ts. KeepsTree old.fs ts new.fs × LeavesNone old.fs ts new.fs in
    let both = subst Keeps (turns_of_handled _ turns) kept in
    (session, both.0, both.1)
