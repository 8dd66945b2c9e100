use Rattle.test_uses.proofs.tree.parts.calls_that_are_tried.Goals as goal

pub returns : goal.returns
returns c = λ old left new needs reply fault h. (h.0, h.1, h.2)
