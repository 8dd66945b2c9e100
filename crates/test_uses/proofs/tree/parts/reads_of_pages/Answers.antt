use Rattle.std.proofs.Common.{◌≡◌, ℕ, length, Option, Result, Ok, Err, arith, ap}
use Rattle.test_uses.proofs.tree.parts.reads_of_pages.Goals as goal

abbrev count_of : Result ℕ (Option ℕ) → ℕ
count_of (Ok n) = n
count_of (Err fault) = 0

pub returns-clause-some : goal.returns-clause-some
returns-clause-some c = λ old new offset room moved has h.
    let count : 0 ≡ length moved = ap count_of h.answered in
    let some = h.some has in
    absurd (omega (arith, count, some))

pub returns-clause-page : goal.returns-clause-page
returns-clause-page c = λ page is. omega (arith, is.within, is.room)
