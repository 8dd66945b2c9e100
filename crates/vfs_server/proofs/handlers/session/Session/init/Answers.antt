use Rattle.std.proofs.Common.{arith}
use Rattle.std.proofs.lemmas.Grind.{common_steps}
use Rattle.vfs_server.specs.Handling.{Serves}
use Rattle.vfs_server.proofs.handlers.session.Session.init.Goals as goal

pub returns : goal.returns
unfolding Serves
returns g c =
    let told = rw c.record.ensures.header at c.init_version.ensures in
    grind (arith, common_steps, told)
