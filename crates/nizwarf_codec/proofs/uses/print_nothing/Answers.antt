use Rattle.std.proofs.Common.{arith}
use Rattle.std.specs.Prelude.{codes}
use Rattle.nizwarf_codec.proofs.Printing.{exact_line}
use Rattle.nizwarf_codec.proofs.uses.print_nothing.Goals as goal

pub returns-clause-line : goal.returns-clause-line
returns-clause-line c =
    let is = c.nizwarf_print_request_at.ensures in
    exact_line (codes "refused=DecodeMessage") _ _ _ c.requires (is.no_header (omega arith))
    (is.line (omega (arith, c.requires)))
