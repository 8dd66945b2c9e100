use Rattle.std.proofs.Common.{arith}
use Rattle.vfs_grammar.proofs.Listings.{length-listing, listing_within}
use Rattle.laws_turns.proofs.listings.records_are_counted.Goals as goal

pub returns : goal.returns
returns c = λ plus ctx parent size room events body result n h e.
    let l = length-listing h n e in
    let w = listing_within h in
    (l, omega (arith, l, w))
