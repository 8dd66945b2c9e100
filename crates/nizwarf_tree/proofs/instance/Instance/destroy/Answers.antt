use Rattle.nizwarf_tree.proofs.instance.Instance.destroy.Goals as goal

pub returns-clause-history : goal.returns-clause-history
returns-clause-history c = λ first moments h.
    c.history_goes_on.ensures.ended first _ _ moments h c.destroy.ensures.called c.destroy.ensures.no_options
    c.destroy.ensures.same_limits
