use Rattle.std.proofs.Common.{rules}
use Rattle.fs_small.proofs.read_only.ReadOnly.lookup_refusal.Goals as goal

pub returns-else-is_directory : goal.returns-else-is_directory
returns-else-is_directory g c = search rules
