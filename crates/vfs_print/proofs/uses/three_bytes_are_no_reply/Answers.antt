use Rattle.std.proofs.Common.{refl, arith}
use Rattle.std.specs.Prelude.{codes}
use Rattle.vfs_print.proofs.LineLemmas.{printable_by_test}
use Rattle.vfs_print.proofs.uses.three_bytes_are_no_reply.Goals as goal

pub returns-in-Ok-clause-none : goal.returns-in-Ok-clause-none
returns-in-Ok-clause-none c no_byte =
    let put = c.in-Ok.ensures.none no_byte c.requires.from (omega (arith, c.requires.empty))
    (printable_by_test (codes "-> no reply") refl) in
    rw c.requires.empty at put.2

pub returns-in-Ok-clause-three : goal.returns-in-Ok-clause-three
returns-in-Ok-clause-three c three =
    let put = c.in-Ok.ensures.no_header (omega (arith, three)) (omega (arith, three)) c.requires.from
    (omega (arith, c.requires.empty)) (printable_by_test (codes "-> refused=DecodeMessage") refl) in
    rw c.requires.empty at put.2
