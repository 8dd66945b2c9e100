use Rattle.std.proofs.Common.{rules}
use Rattle.vfs_listings.proofs.listing.tell.Goals as goal

pub returns-else-plus : goal.returns-else-plus
returns-else-plus c = search rules

pub returns-then-written-gt0 : goal.returns-then-written-gt0
returns-then-written-gt0 c = search rules
