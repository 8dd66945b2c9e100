use Rattle.std.proofs.Common.{lit<, arith}
use Rattle.vfs_grammar.specs.Limits.{default_limits}
use Rattle.laws_turns.proofs.Said.{max_write_said}
use Rattle.laws_turns.proofs.Sizes.{len_within, len_above, pairs_within, pairs_above}
use Rattle.laws_turns.proofs.turns.limits_have_their_numbers.Goals as goal

pub returns-clause-max_write : goal.returns-clause-max_write
returns-clause-max_write c = λ page_size options after want t answered. max_write_said (default_limits page_size) options after t want answered (lit< tt)

pub returns-clause-len_within : goal.returns-clause-len_within
returns-clause-len_within c = λ page_size options room request long small. len_within (default_limits page_size) options room request long small

pub returns-clause-len_above : goal.returns-clause-len_above
returns-clause-len_above c = λ page_size options room request long large. len_above (default_limits page_size) options room request long large

pub returns-clause-pairs_within : goal.returns-clause-pairs_within
returns-clause-pairs_within c = λ page_size options room request long small is few. pairs_within (default_limits page_size) options room request long small is (omega arith)

pub returns-clause-pairs_above : goal.returns-clause-pairs_above
returns-clause-pairs_above c = λ page_size options room request long small is many. pairs_above (default_limits page_size) options room request long small is (omega arith)
