use Rattle.test_uses.proofs.tree.parts.writes_that_fail.Goals as goal

pub returns : goal.returns
returns c = λ most offset now delayed kill old new bytes fault h. (h.0, h.2.pages)
