use Rattle.vfs_grammar.proofs.Dirents.{length-record_bytes}
use Rattle.laws_turns.proofs.listings.records_are_aligned.Goals as goal

pub returns-clause-length : goal.returns-clause-length
returns-clause-length c = length-record_bytes
