use Rattle.laws_history.proofs.uses.both_parts_keep_books.Goals as goal

pub returns : goal.returns
returns g c = λ first last before after h.
    let parts = c.history_is_cut.ensures first last before after h in (
      c.history_keeps_books.ensures first parts.0 before parts.1,
      c.history_keeps_books.ensures parts.0 last after parts.2,
    )
