use Rattle.std.proofs.Common.{rules}
use Rattle.nizwarf_tree.proofs.Histories.{answered}
use Rattle.nizwarf_tree.proofs.nizwarf_server_handle_at.Goals as goal

pub returns-in_default-clause-none : goal.returns-in_default-clause-none
returns-in_default-clause-none c = search rules

pub returns-clause-history : goal.returns-clause-history
returns-clause-history c =
    let a = answered c.history_goes_on.ensures.handled _ _ _ _ _ _ _ _ c.answer-code.ensures.served in
    search rules

pub returns-clause-memory : goal.returns-clause-memory
returns-clause-memory c =
    rw c.in-Some.ensures.taken (λ few wants keeps code.
    (rw c.deref_mut.ensures.value at c.answer-code.ensures.memory) few wants keeps (search (rules, code)))

pub returns-clause-keeps : goal.returns-clause-keeps
returns-clause-keeps c n =
    rw (c.in-Some.ensures.taken, c.put.ensures) (λ keeps. (rw c.deref_mut.ensures.value at c.answer-code.ensures.keeps) n keeps)
