use Rattle.std.proofs.Common.{List, [], ◌∷◌, length, subst}
use Rattle.vfs_segments.specs.Answers.{Answers, AreAnswers, Available, Count, ReaderAnswer}
use Rattle.vfs_segments.specs.Unread.{Unread}
use Rattle.test_uses.proofs.clauses.segments.one_question_has_one_answer.Goals as goal

its_count : (u v : Unread) (answers : List ReaderAnswer) → AreAnswers u (Available ∷ []) answers v
    → AreAnswers u (Available ∷ []) (Count (length u.left) ∷ []) v
its_count u v [] none = absurd none
its_count u v (a ∷ []) (m, (first, rest)) =
    (m, (subst (λ (x : ReaderAnswer). Answers u Available x m) first.0 first, rest))
its_count u v (a ∷ b ∷ more) (m, (first, rest)) = absurd rest

pub returns : goal.returns
returns c = λ u.
    let all = c.equal_bytes_answer_alike.ensures.answered u (Available ∷ []) in
    (all.1.0, its_count u all.1.0 all.0 all.1.1)
