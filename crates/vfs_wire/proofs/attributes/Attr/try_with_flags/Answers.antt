use Rattle.std.proofs.Common.{rules}
use Rattle.vfs_wire.proofs.attributes.Attr.try_with_flags.Goals as goal

pub returns-in_err-gid-clause-err : goal.returns-in_err-gid-clause-err
returns-in_err-gid-clause-err g c = search rules
