use Rattle.laws_turns.proofs.WrittenBlocks.{extensions_after-written}
use Rattle.laws_turns.proofs.extensions.written_extensions_are_found.Goals as goal

pub returns : goal.returns
returns c options names values = extensions_after-written options names values
