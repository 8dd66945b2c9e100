-- How calls end, as notes say it.
use Rattle.std.specs.Prelude.{ℕ, Option, Result, Ok, Err}
use Rattle.vfs_files.specs.Answers.{Answer, Done, Failed}
use Rattle.vfs_bench.specs.Notes.{kind_said, value_said}
use Rattle.vfs_bench.specs.declared.outcome.Outcome.{Outcome}

-- the kind and the value of an answer's note
abbrev pub outcome_of : Answer → Outcome
outcome_of answer = record { kind = kind_said answer; value = value_said answer }

-- the same of an answer that names no node, whatever else it says
unfoldable pub plain_outcome : {T : Type 0} → Result T (Option ℕ) → Outcome
plain_outcome (Ok reply) = outcome_of Done
plain_outcome (Err fault) = outcome_of (Failed fault)
