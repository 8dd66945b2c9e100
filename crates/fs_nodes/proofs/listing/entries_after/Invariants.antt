use Rattle.std.proofs.Common.{◌≡◌, ◌≤◌, ◌++◌, length, map, take, filter, nat_lt}
use Rattle.fs_nodes.specs.Listing.{link_item}
use Rattle.fs_nodes.proofs.Listings.{items_in}
use Rattle.fs_nodes.proofs.listing.entries_after.Given as goal

abbrev pub invariant-loop-place : goal.invariant-loop-place
invariant-loop-place l = record {
  listed : take l.most (l.entries ++ map link_item l.place-iterator)
      ≡ take l.most (filter (λ item. nat_lt l.offset item.offset) (items_in l.number l.directory));
  short : length l.entries ≤ l.most;
}
