use Rattle.std.proofs.Common.{sym, subst}
use Rattle.vfs_files.specs.Calls.{Plain}
use Rattle.test_uses.proofs.small_laws.a_call_between_two_items.Goals as goal

pub returns : goal.returns
returns g c = λ old new opening call answer item next run.
    let on = c.runs_go_on.ensures old new opening call answer item next run in (
      on.0,
      on.2,
      on.3,
      on.4,
      on.5,
      subst (λ s. g.F.FileSystem.allows on.0 call (Plain answer) s) (sym on.9) on.7,
      on.6,
      on.8,
    )
