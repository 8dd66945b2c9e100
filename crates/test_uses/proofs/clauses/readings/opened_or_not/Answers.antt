use Rattle.std.proofs.Common.{◌≡◌, ℕ, Bool, List, Option, Some, Result, Ok, Err, MatchResult, subst}
use Rattle.vfs_segments.specs.Written.{Written}
use Rattle.vfs_files.specs.Calls.{Call, Handed}
use Rattle.vfs_files.specs.Runs.{Event, IsRun}
use Rattle.vfs_files.specs.Values.{Item}
use Rattle.vfs_files.specs.declared.entry.Context.{Context}
use Rattle.vfs_listings.specs.Reading.{ReadsDirectory, ReadsItems}
use Rattle.test_uses.proofs.clauses.readings.opened_or_not.Goals as goal

module _ {S I : Type 0} (allows : S → Call → Handed I → S → Type 0) (gives : I → Option Item → I → Type 0) (ctx : Context) (plus : Bool)
    (parent handle size offset : ℕ) (old new : S) (writer writer_after : Written) (result : Result ℕ (Option ℕ))
    (h : ReadsDirectory allows gives ctx plus parent handle size offset old writer result new writer_after) where
  -- what was read, by how it was opened
  abbrev Reads : Result I (Option ℕ) → Type 0
  Reads opened =
      MatchResult opened (λ it. ReadsItems allows gives ctx plus parent size it h.middle writer result new writer_after)
      (λ fault. (result ≡ Err fault) × (new ≡ h.middle) × (writer_after ≡ writer))

  failed : (fault : Option ℕ) → h.opened ≡ Err fault
      → (result ≡ Err fault) × (new ≡ h.middle) × (writer_after ≡ writer)
  failed fault is = let none = subst Reads is h.reads in (none.0, none.1, none.2)

  opened : (it : I) → h.opened ≡ Ok it → (events : List Event) × IsRun allows gives (Some it) h.middle events new
  opened it is = let items = subst Reads is h.reads in (items.events, items.is_run)

pub returns-clause-failed : goal.returns-clause-failed
returns-clause-failed g c = λ ctx plus parent handle size offset old new writer writer_after result fault h.
    failed _ _ ctx plus parent handle size offset old new writer writer_after result h fault

pub returns-clause-opened : goal.returns-clause-opened
returns-clause-opened g c = λ ctx plus parent handle size offset old new writer writer_after result it h.
    opened _ _ ctx plus parent handle size offset old new writer writer_after result h it
