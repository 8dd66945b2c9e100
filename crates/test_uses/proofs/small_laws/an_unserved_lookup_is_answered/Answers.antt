use Rattle.vfs_files.specs.Calls.{Lookup}
use Rattle.test_uses.proofs.small_laws.an_unserved_lookup_is_answered.Goals as goal

pub returns : goal.returns
returns c = λ ctx parent name. c.default_answers_are_of_their_kind.ensures (Lookup ctx parent name)
