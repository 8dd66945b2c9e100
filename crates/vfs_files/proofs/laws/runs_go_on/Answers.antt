use Rattle.std.proofs.Common.{◌≡◌}
use Rattle.vfs_files.proofs.laws.runs_go_on.Goals as goal

pub returns : goal.returns
returns g c = λ old new opening call answer item next run.
    let taken = run.3 in
    let called = taken.4 in
    let again = called.2 in
    let first_is : taken.0 ≡ run.1 = cc (taken.2) in
    let next_is : again.0 ≡ taken.1 = cc (again.2) in (
      run.0,
      called.0,
      run.1,
      taken.1,
      again.1,
      run.2,
      rw first_is at taken.3,
      called.1,
      rw next_is at again.3,
      again.4,
    )
