use Rattle.std.proofs.Common.{rules}
use Rattle.vfs_listings.proofs.listing.dot_entry.Goals as goal

pub returns : goal.returns
returns c = search rules
