use Rattle.std.proofs.Common.{arith}
use Rattle.nizwarf_tree.proofs.tree.uses.none_is_held.Goals as goal

pub returns : goal.returns
returns c page_size max_buffer settings new moments n h told some within all =
    let kept = (c.histories_are_kept.ensures page_size max_buffer settings new moments h told).lookups n some within in
    omega (arith, kept, all)
