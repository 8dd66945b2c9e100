-- What a server is between two requests.
use Rattle.std.specs.Prelude.{ℕ}
use Rattle.vfs_grammar.specs.declared.limits.Limits.{Limits}

-- a server, or its session, as contracts see it: the agreed options, the limits, the state of the file system
pub record ServerState (S : Type 0) : Type 0 where
  pub options : ℕ
  pub limits : Limits
  pub fs : S
