use Rattle.std.proofs.Common.{◌∙◌, ◌%◌, ℕ, ap, arith, Some, None}
use Rattle.laws_turns.proofs.uses.listings.bytes_of_a_record.Goals as goal

pub returns-clause-multiple : goal.returns-clause-multiple
returns-clause-multiple c = λ entry i.
    ap (λ (n : ℕ). n % 8) (c.records_are_aligned.ensures.length entry i) ∙ c.records_are_aligned.ensures.multiple entry i

pub returns-clause-least : goal.returns-clause-least
returns-clause-least c = λ i.
    let least = c.records_are_aligned.ensures.least i in
    let long = c.records_are_aligned.ensures.length None i in omega (arith, least, long)

pub returns-clause-with_entry : goal.returns-clause-with_entry
returns-clause-with_entry c = λ entry i.
    let least = c.records_are_aligned.ensures.with_entry entry i in
    let long = c.records_are_aligned.ensures.length (Some entry) i in omega (arith, least, long)
