use Rattle.std.proofs.Common.{◌≡◌, ◌==◌, map, rules, tests}
use Rattle.std.specs.Prelude.{IfOk}
use Rattle.std.proofs.lemmas.Iterator.Consumers.{map_from_collect}
use Rattle.std.proofs.lemmas.Iterator.Splits.{YieldsList-from_slice_split}
use Rattle.std.specs.List.{slice_split}
use Rattle.vfs_run.proofs.line.cut.Goals as goal

pub returns-clause-pieces : goal.returns-clause-pieces
returns-clause-pieces c =
    let collected : IfOk c.collect.result (λ v. map (λ x. x.now) v.items ≡ slice_split (λ b. b == c.args.separator) c.args.text.now) =
    map_from_collect _ c.collect.ensures.ran (YieldsList-from_slice_split _ (λ b. b == c.args.separator) c.args.text.now c.split.ensures.rest c.split.ensures.done c.split.ensures.closure (λ x b q k. search (rules, tests))) in
    search rules
