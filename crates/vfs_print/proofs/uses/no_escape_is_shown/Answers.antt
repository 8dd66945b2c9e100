use Rattle.std.proofs.Common.{arith}
use Rattle.vfs_print.proofs.uses.no_escape_is_shown.Goals as goal

pub returns : goal.returns
returns c bytes small k within is =
    let shown = c.texts_are_printable.ensures bytes small k 32 within in
    absurd (omega (arith, shown.0, is))
