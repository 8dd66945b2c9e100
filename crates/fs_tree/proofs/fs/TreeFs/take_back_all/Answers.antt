use Rattle.std.proofs.Common.{refl, sym, ap, ◌∙◌}
use Rattle.std.proofs.lemmas.List.{drop_all}
use Rattle.fs_tree.specs.Tree.{all_forgotten}
use Rattle.fs_tree.proofs.Forgetting.{forgotten_more}
use Rattle.fs_tree.proofs.fs.TreeFs.take_back_all.Goals as goal

pub loop-i-init : goal.loop-i-init
loop-i-init c = refl

pub loop-i-preserved : goal.loop-i-preserved
loop-i-preserved c =
    forgotten_more c.loop-i.self c.take_back.new.self
    (all_forgotten c.args.self.now c.args.requests.now) c.args.requests.now c.loop-i.i (0, 0)
    c.loop-i-test.true c.take_back.ensures c.loop-i.invariant

pub returns : goal.returns
returns c =
    sym (ap (all_forgotten c.loop-i.self) (drop_all c.loop-i.i c.args.requests.now c.loop-i-test.false))
    ∙ c.loop-i.invariant
