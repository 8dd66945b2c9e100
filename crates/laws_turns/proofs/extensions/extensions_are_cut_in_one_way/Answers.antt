use Rattle.vfs_grammar.proofs.Blocks.{extensions_in-cut}
use Rattle.laws_turns.proofs.OneCut.{cut_of-is, cut-only}
use Rattle.laws_turns.proofs.extensions.extensions_are_cut_in_one_way.Goals as goal

pub returns-clause-cut : goal.returns-clause-cut
returns-clause-cut c bytes = cut_of-is bytes

pub returns-clause-only : goal.returns-clause-only
returns-clause-only c bytes rest other_rest blocks others = cut-only bytes rest other_rest blocks others

pub returns-clause-said : goal.returns-clause-said
returns-clause-said c options bytes = extensions_in-cut options bytes
