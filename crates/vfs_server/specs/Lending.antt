-- A server that lends its file system.
use Rattle.std.specs.Borrow.{Lends, MutBor, Fml}
use denote.RattleType.{RattleType}
use Rattle.vfs_server.specs.Step.{ServerState}
use Rattle.vfs_server.specs.contracts.server.Server.{the_row}

-- once r is given back, the server is as it was, over the file system that was left after r
abbrev pub LendsFs : (F : RattleType) → MutBor (ServerState F.Denot) → MutBor F.Denot → Fml
LendsFs F s r = Lends (the_row F) F s r (λ fs. record s.now { fs = fs })
