use Rattle.std.proofs.Common.{◌≡◌, ℕ, List, [], ◌∷◌, Option, Result, inl, inr}
use Rattle.vfs_files.specs.Calls.{Failed, Readdir}
use Rattle.vfs_files.specs.Runs.{Called, Event}
use Rattle.vfs_grammar.specs.Listing.{IsDirectory, Listing}
use Rattle.test_uses.proofs.clauses.readings.no_record_of_a_fault.Goals as goal

none : (l : Listing) (events : List Event) (records : List ℕ) (result : Result ℕ (Option ℕ)) (fault : Option ℕ)
    → IsDirectory l events records result
    → events ≡ Called (Readdir l.ctx l.parent l.handle l.size l.offset) (Failed fault) ∷ [] → records ≡ []
none l events records result fault (inl (of, is, no_record, answer)) failed = no_record
none l events records result fault (inr (takings, is, listing)) failed = absurd (cc (is, failed))

pub returns : goal.returns
returns c = none
