use Rattle.std.proofs.Common.{rules}
use Rattle.vfs_server.proofs.server.migration.ServerSerializableFileSystem.serialize.Goals as goal

pub returns : goal.returns
returns c = search rules
