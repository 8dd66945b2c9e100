use Rattle.nizwarf_tree.proofs.Steps.{as_ordinary, as_row, as_short, as_tmpfile}
use Rattle.nizwarf_tree.proofs.instance.Instance.answer.Goals as goal

pub returns-in-Ordinary-clause-served : goal.returns-in-Ordinary-clause-served
returns-in-Ordinary-clause-served c =
    as_ordinary _ _ _ _ _ _ _ _ (c.asked.ensures.ordinary c.in-Ordinary.is) c.answer_bytes.ensures.served

pub returns-in-Unnamed-clause-served : goal.returns-in-Unnamed-clause-served
returns-in-Unnamed-clause-served c =
    as_tmpfile _ _ _ _ _ _ _ _ (c.asked.ensures.unnamed c.in-Unnamed.is) c.answer_tmpfile.ensures.served

pub returns-in-Row-clause-served : goal.returns-in-Row-clause-served
returns-in-Row-clause-served c =
    let asks = c.asked.ensures.row c.in-Row.is in
    as_row _ _ _ _ _ _ _ _ asks.row asks.asks (c.answer_row.ensures.served _ asks)

pub returns-in-Short-clause-served : goal.returns-in-Short-clause-served
returns-in-Short-clause-served c =
    let asks = c.asked.ensures.short c.in-Short.is in
    as_short _ _ _ _ _ _ _ _ asks (c.refuse_short.ensures.served _ asks)
