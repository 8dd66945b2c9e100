use Rattle.std.proofs.Common.{rules}
use Rattle.fs_small.proofs.read_only.ReadOnlyPartialFileSystem.read_data.Goals as goal

pub returns-in-None : goal.returns-in-None
returns-in-None g c = search rules
