-- An entry that a call answered, and what was given back after it.
use Rattle.std.specs.Prelude.{ℕ, Option, None, Some}
use Rattle.vfs_files.specs.Calls.{Call, Answer, Handed, Plain}
use Rattle.vfs_files.specs.declared.entry.Context.{Context}
use Rattle.vfs_listings.specs.Reading.{GivesBackNode}

-- the file system was called so, with this answer; and then one lookup of a node was given back
-- for this caller, where there is a node
abbrev pub CallsAndGivesBack : {S I : Type 0} → (S → Call → Handed I → S → Type 0) → Call → Answer
    → Context → (back : Option ℕ) → (old new : S) → Type 0
CallsAndGivesBack allows call answer ctx None old new = allows old call (Plain answer) new
CallsAndGivesBack {S} allows call answer ctx (Some node) old new =
    (middle : S)
    × allows old call (Plain answer) middle
    × GivesBackNode allows ctx (Some node) middle new
