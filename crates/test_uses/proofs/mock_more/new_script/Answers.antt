use Rattle.test_uses.proofs.Scripts.{says_by_default}
use Rattle.test_uses.proofs.mock_more.new_script.Goals as goal

pub returns-clause-says : goal.returns-clause-says
returns-clause-says c =
    let s = c.new.ensures in
    says_by_default c.new.result s.options s.entry s.attributes s.opening s.creation s.statistics s.text s.value s.names s.offset s.written s.done s.tmpfile
