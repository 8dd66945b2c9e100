use Rattle.std.proofs.Common.{◌≤◌, ℕ, Ok, false, refl, sym, subst}
use Rattle.laws_turns.proofs.uses.listings.a_reading_of_96_bytes.Goals as goal

pub returns : goal.returns
returns c = λ ctx parent room n events body h.
    let counted = c.records_are_counted.ensures false ctx parent 96 room events body (Ok n) n h refl in
    (sym counted.0, subst (λ (m : ℕ). m ≤ 96) counted.0 counted.1)
