use Rattle.std.proofs.Common.{◌∙◌, ap}
use Rattle.vfs_grammar.specs.Extensions.{cut_of}
use Rattle.laws_turns.specs.Extensions.{error_left}
use Rattle.laws_turns.proofs.uses.extensions.the_only_cut.Goals as goal

pub returns : goal.returns
returns c = λ bytes rest blocks is.
    let cut = c.extensions_are_cut_in_one_way.ensures.cut bytes in
    let same = c.extensions_are_cut_in_one_way.ensures.only bytes cut.0 rest (cut_of bytes).blocks blocks cut.1 is in
    (same.0, cut.2 ∙ ap error_left same.1)
