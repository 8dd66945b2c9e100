use Rattle.vfs_server.proofs.Served.{limits_stay}
use Rattle.vfs_server.proofs.transport.uses.any_request.Goals as goal

pub returns-clause-limits : goal.returns-clause-limits
returns-clause-limits g c = limits_stay _ _ _ _ _ c.serve.result _ c.serve.ensures.served
