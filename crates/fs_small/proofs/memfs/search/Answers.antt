use Rattle.std.proofs.Common.{◌<◌, ◌+◌, ◌-◌, ◌/◌, sym, ap, ◌∙◌, arith}
use Rattle.fs_small.specs.MemFs.{Stored}
use Rattle.fs_small.proofs.Index.{place_found, place_missing, all_before, all_after}
use Rattle.fs_small.proofs.memfs.search.Goals as goal

pub returns-then-at-node-clause-place : goal.returns-then-at-node-clause-place
returns-then-at-node-clause-place c =
    let middle = c.loop-low.low + (c.loop-low.high - c.loop-low.low) / 2 in
    let same = ap (λ (f : Stored). f.node) (sym c.file.view_is) ∙ c.if-at-node.true in
    sym (place_found c.args.files.now c.requires c.args.node middle c.index-files-middle.result
    (omega arith) c.index-files-middle.is same)

pub loop-low-preserved-then-at-node-2 : goal.loop-low-preserved-then-at-node-2
loop-low-preserved-then-at-node-2 c =
    let middle = c.loop-low.low + (c.loop-low.high - c.loop-low.low) / 2 in
    let node = ap (λ (f : Stored). f.node) c.file.view_is in
    let less : c.index-files-middle.result.node < c.args.node = omega (arith, node) in
    record {
      low = omega arith;
      high = omega arith;
      below = all_before c.args.files.now c.requires c.args.node middle c.index-files-middle.result
          (omega arith) c.index-files-middle.is less;
      above = c.loop-low.invariant.above;
    }

pub loop-low-preserved : goal.loop-low-preserved
loop-low-preserved c =
    let middle = c.loop-low.low + (c.loop-low.high - c.loop-low.low) / 2 in
    let node = ap (λ (f : Stored). f.node) c.file.view_is in
    let more : c.args.node < c.index-files-middle.result.node = omega (arith, node) in
    record {
      low = omega arith;
      high = omega arith;
      below = c.loop-low.invariant.below;
      above = all_after c.args.files.now c.requires c.args.node middle c.index-files-middle.result
          (omega arith) c.index-files-middle.is more;
    }

pub returns-clause-place : goal.returns-clause-place
returns-clause-place c =
    sym (place_missing c.args.files.now c.requires c.args.node c.loop-low.low
    c.loop-low.invariant.below
    (λ k d from within. c.loop-low.invariant.above k d (omega arith) within))
