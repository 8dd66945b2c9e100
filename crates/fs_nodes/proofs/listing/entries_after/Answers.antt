use Rattle.std.proofs.Common.{◌+◌, ◌/◌, ap, ◌∙◌, nat_cmp, nat_lt, length, filter, arith, length-take}
use Rattle.std.proofs.lemmas.Grind.{common_steps}
use Rattle.std.specs.declared.ops.Bound.TheVariants.{Excluded, Unbounded}
use Rattle.std.specs.BTreeMap.Range.{entries_between}
use Rattle.fs_nodes.specs.Listing.{dot_items}
use Rattle.fs_nodes.proofs.Listings.{listing_begins}
use Rattle.fs_nodes.proofs.listing.entries_after.Goals as goal

pub loop-place-init : goal.loop-place-init
loop-place-init c =
    let most = c.args.size / 24 + 1 in
    let items = c.in_ok-entries.entries in
    let dots = c.in_ok-entries.ensures.ok in
    let parent = c.args.directory.now.parent in
    let links =
    c.into_iter-place-iterator.ensures.into_iter_gives ∙ c.range-place-items.ensures.between tt
    ∙ ap (entries_between nat_cmp (Excluded c.args.offset) Unbounded) c.links.ensures in
    record {
      listed = listing_begins c.args.number c.args.offset most c.args.directory.now items
          c.into_iter-place-iterator.result dots links;
      short = omega (
        arith,
        ap length dots,
        length-take most
            (filter (λ item. nat_lt c.args.offset item.offset) (dot_items c.args.number parent)),
      );
    }

pub loop-place-preserved : goal.loop-place-preserved
loop-place-preserved c = grind (arith, common_steps)

pub returns-clause-ok : goal.returns-clause-ok
returns-clause-ok c = grind (arith, common_steps)
