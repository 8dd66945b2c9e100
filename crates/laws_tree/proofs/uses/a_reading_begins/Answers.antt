use Rattle.laws_tree.proofs.uses.a_reading_begins.Goals as goal

pub returns-clause-items : goal.returns-clause-items
returns-clause-items c = λ old new call items h.
    let began = (c.readings_move_a_time.ensures old new call items h).0 in
    (began.number, began.directory, began.off, began.size, began.there, began.told)

pub returns-clause-lookups : goal.returns-clause-lookups
returns-clause-lookups c = λ old new call items h. (c.readings_move_a_time.ensures old new call items h).1.lookups
