use Rattle.vfs_server.specs.Handling.{Serves}
use Rattle.test_uses.proofs.clauses.server.limits_stay.Goals as goal

pub returns : goal.returns
unfolding Serves
returns g c = λ opcode request old new writer writer_after outcome serves. serves.1
