use Rattle.std.proofs.Common.{arith}
use Rattle.std.proofs.lemmas.List.Elements.{All-replicate}
use Rattle.vfs_print.specs.Text.{IsPrintable}
use Rattle.vfs_print.proofs.part.Part.new.Goals as goal

pub invariant_of-result : goal.invariant_of-result
invariant_of-result c = record { printable = All-replicate IsPrintable 4096 32 (omega arith, omega arith) }
