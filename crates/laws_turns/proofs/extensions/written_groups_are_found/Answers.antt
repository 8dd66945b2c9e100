use Rattle.laws_turns.proofs.WrittenBlocks.{extensions_after-group}
use Rattle.laws_turns.proofs.extensions.written_groups_are_found.Goals as goal

pub returns : goal.returns
returns c options group names = extensions_after-group options group names
