use Rattle.vfs_print.proofs.TextLemmas.{quoted_printable}
use Rattle.vfs_print.proofs.laws.texts_are_printable.Goals as goal

pub returns : goal.returns
returns c = quoted_printable
