use Rattle.vfs_print.proofs.TextLemmas.{quoted_once}
use Rattle.vfs_print.proofs.laws.texts_differ.Goals as goal

pub returns : goal.returns
returns c = quoted_once
