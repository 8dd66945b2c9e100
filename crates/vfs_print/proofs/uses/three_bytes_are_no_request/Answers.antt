use Rattle.std.proofs.Common.{refl, arith}
use Rattle.std.specs.Prelude.{codes}
use Rattle.vfs_print.proofs.LineLemmas.{printable_by_test}
use Rattle.vfs_print.proofs.uses.three_bytes_are_no_request.Goals as goal

pub returns-in-Ok-clause-from : goal.returns-in-Ok-clause-from
returns-in-Ok-clause-from c =
    (c.in-Ok.ensures.no_header (omega (arith, c.requires.three)) c.requires.from (omega (arith, c.requires.empty))
    (printable_by_test (codes "refused=DecodeMessage") refl)).0

pub returns-in-Ok-clause-line : goal.returns-in-Ok-clause-line
returns-in-Ok-clause-line c =
    let put = c.in-Ok.ensures.no_header (omega (arith, c.requires.three)) c.requires.from
    (omega (arith, c.requires.empty)) (printable_by_test (codes "refused=DecodeMessage") refl) in
    rw c.requires.empty at put.2
