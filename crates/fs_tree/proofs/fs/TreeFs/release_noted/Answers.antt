use Rattle.std.proofs.Common.{rules}
use Rattle.std.specs.Map.Iter.{deref}
use Rattle.std.proofs.lemmas.Map.Iter.{rest_more}
use Rattle.fs_tree.proofs.Emptying.{left_first, left_more, left_none}
use Rattle.fs_tree.proofs.fs.TreeFs.release_noted.Goals as goal

pub loop-number-init : goal.loop-number-init
loop-number-init c = search (rules, left_first)

pub loop-number-preserved : goal.loop-number-preserved
loop-number-preserved c = record {
  left =
      left_more _ _ _ _ _ _ c.loop-number.invariant.left
      (rest_more deref c.loop-number.number-iterator c.next.new.self c.next.result c.in-Some.number
      c.in-Some.is c.next.ensures.steps) c.take_back_each.ensures;
  next = tt;
  ends = tt;
}

pub returns : goal.returns
returns c = search (rules, left_none)
