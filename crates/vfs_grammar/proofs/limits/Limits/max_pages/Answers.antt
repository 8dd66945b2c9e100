use Rattle.std.proofs.Common.{rules}
use Rattle.vfs_grammar.proofs.limits.Limits.max_pages.Goals as goal

pub returns : goal.returns
returns c = search rules
