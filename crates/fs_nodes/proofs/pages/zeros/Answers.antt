use Rattle.std.proofs.lemmas.List.{take-replicate}
use Rattle.fs_nodes.proofs.pages.zeros.Goals as goal

pub returns : goal.returns
returns c = take-replicate c.args.count 4096 0 c.requires
