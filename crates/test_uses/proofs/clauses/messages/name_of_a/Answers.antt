use Rattle.std.proofs.lemmas.Result.{MatchResult-weaker}
use Rattle.test_uses.proofs.clauses.messages.name_of_a.Goals as goal

pub returns : goal.returns
returns c =
    MatchResult-weaker c.name_of_tail.result (rw c.requires at c.name_of_tail.ensures) (λ name same. cc (same))
    (λ error same. absurd (cc (same)))
