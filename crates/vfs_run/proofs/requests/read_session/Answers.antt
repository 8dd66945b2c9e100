use Rattle.std.proofs.lemmas.List.{drop-map, take_rest}
use Rattle.vfs_run.proofs.requests.read_session.Goals as goal

pub returns-clause-read : goal.returns-clause-read
returns-clause-read c =
    let read = simp take_rest at c.read_requests.ensures.read in
    rw (← c.lines_before_requests-counted.ensures.value, drop-map) read
