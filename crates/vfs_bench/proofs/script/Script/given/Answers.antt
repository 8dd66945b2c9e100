use Rattle.std.proofs.Common.{subst}
use Rattle.vfs_files.specs.Answers.{Kind}
use Rattle.vfs_files.specs.CallValue.{IsOfKind}
use Rattle.vfs_bench.proofs.Playing.{plays_by}
use Rattle.vfs_bench.proofs.script.Script.given.Goals as goal

pub returns-clause-answer : goal.returns-clause-answer
returns-clause-answer c =
    plays_by c.args.self.now c.args.asked.now _ _ _ c.kind.ensures c.asks_names.ensures c.set_for.ensures.told

pub returns-clause-kind : goal.returns-clause-kind
returns-clause-kind c = subst (λ (k : Kind). IsOfKind k c.set_for.result) c.kind.ensures c.set_for.ensures.kind
