use Rattle.std.proofs.Common.{rules, arith}
use Rattle.std.proofs.lemmas.Grind.{common_steps}
use Rattle.vfs_messages.proofs.request.extended.Goals as goal

pub returns-in_err-extensions : goal.returns-in_err-extensions
returns-in_err-extensions c = grind (arith, common_steps) steps 1000000

pub returns-in-None-nul : goal.returns-in-None-nul
returns-in-None-nul c = grind (arith, common_steps) steps 200000

pub returns-in-Some-nul : goal.returns-in-Some-nul
returns-in-Some-nul c = search rules
