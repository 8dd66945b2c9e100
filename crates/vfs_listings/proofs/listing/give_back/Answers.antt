use Rattle.std.proofs.Common.{rules}
use Rattle.vfs_listings.proofs.listing.give_back.Goals as goal

pub returns : goal.returns
returns c = search rules
