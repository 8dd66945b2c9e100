use Rattle.std.proofs.Common.{ℕ, subst}
use Rattle.vfs_grammar.specs.Turn.{AreTurns}
use Rattle.laws_turns.proofs.uses.refusals.a_refused_request_may_be_left_out.Goals as goal

pub returns-clause-unseen : goal.returns-clause-unseen
returns-clause-unseen c = λ limits options after t turn refused.
    let same = c.refusals_change_nothing.ensures limits options after t _ turn refused (λ e. absurd cc) in (same.0, same.1)

pub returns-clause-left_out : goal.returns-clause-left_out
returns-clause-left_out c = λ limits options after t turns are refused.
    let same = c.refusals_change_nothing.ensures limits options are.0 t _ are.1 refused (λ e. absurd cc) in
    subst (λ (o : ℕ). AreTurns limits o turns after) same.2 are.2
