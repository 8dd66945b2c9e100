use Rattle.std.proofs.Common.{◌≡◌, ℕ, List, [], ◌∷◌, Option, Some, None, Result, false, subst}
use Rattle.vfs_segments.specs.Written.{Written}
use Rattle.vfs_files.specs.Calls.{Call, Handed}
use Rattle.vfs_files.specs.Runs.{Event, IsRun, Taken}
use Rattle.vfs_files.specs.Values.{Item}
use Rattle.vfs_files.specs.declared.entry.Context.{Context}
use Rattle.vfs_listings.specs.Reading.{ReadsItems}
use Rattle.test_uses.proofs.clauses.readings.the_end_at_once.Goals as goal

stays : {S I : Type 0} (allows : S → Call → Handed I → S → Type 0) (gives : I → Option Item → I → Type 0) (ctx : Context)
    (parent size : ℕ) (it : I) (old new : S) (writer writer_after : Written) (result : Result ℕ (Option ℕ))
    → (h : ReadsItems allows gives ctx false parent size it old writer result new writer_after)
    → h.events ≡ Taken None ∷ [] → new ≡ old
stays allows gives ctx parent size it old new writer writer_after result h are =
    let run = subst (λ (events : List Event). IsRun allows gives (Some it) old events new) are h.is_run in
    run.4

pub returns : goal.returns
returns g c = stays _ _
