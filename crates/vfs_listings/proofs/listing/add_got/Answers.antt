use Rattle.std.proofs.Common.{rules}
use Rattle.vfs_listings.proofs.listing.add_got.Goals as goal

pub returns-in-Ok-clause-gives_back : goal.returns-in-Ok-clause-gives_back
returns-in-Ok-clause-gives_back c = search rules

pub returns-in_default-clause-gives_back : goal.returns-in_default-clause-gives_back
returns-in_default-clause-gives_back g c = search rules
