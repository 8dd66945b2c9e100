use Rattle.std.proofs.Common.{◌≤◌, arith}
use Rattle.laws_turns.proofs.Said.{max_write_said, max_pages_said}
use Rattle.laws_turns.proofs.Sizes.{len_within, len_above, pairs_within, pairs_above}
use Rattle.laws_turns.proofs.turns.limits_are_kept.Goals as goal

pub returns-clause-max_write : goal.returns-clause-max_write
returns-clause-max_write c = λ limits options after want t are answered. max_write_said limits options after t want answered (let most : limits.max_buffer ≤ 134217728 = are.greatest in omega (arith, most))

pub returns-clause-max_pages : goal.returns-clause-max_pages
returns-clause-max_pages c = λ limits options after want t are answered. max_pages_said limits options after t want answered are

pub returns-clause-len_within : goal.returns-clause-len_within
returns-clause-len_within c = len_within

pub returns-clause-len_above : goal.returns-clause-len_above
returns-clause-len_above c = len_above

pub returns-clause-pairs_within : goal.returns-clause-pairs_within
returns-clause-pairs_within c = pairs_within

pub returns-clause-pairs_above : goal.returns-clause-pairs_above
returns-clause-pairs_above c = pairs_above
