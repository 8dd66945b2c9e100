-- A question has one answer.
use Rattle.std.proofs.Common.{◌≡◌, ℕ, ◌+◌, ◌<◌, ◌≤◌, List, [], ◌∷◌, length, drop, min, ap, ◌∙◌, sym, refl, arith, ⊎_elim}
use Rattle.std.specs.Prelude.{sum}
use Rattle.std.proofs.lemmas.Bool.{cases_lt}
use Rattle.vfs_segments.specs.Unread.{Unread, AreAlike, AdvancesBy, advanced}
use Rattle.vfs_segments.specs.Answers.{Question, Available, Taken, Read, ReadExact, ReadObj, ReaderAnswer, TooFew, AnswersWhole, Answers, AreAnswers, AnswerAlike, AnswerAll}

-- readers that are alike stay so
stay : (u t v w : Unread) → AreAlike u t → AreAlike u v → AreAlike t w → AreAlike v w
stay u t v w e p r = record { left = sym p.left ∙ e.left ∙ r.left; taken = sym p.taken ∙ e.taken ∙ r.taken }

-- also where both give as many bytes
advance : (u t v w : Unread) (n m : ℕ) → n ≡ m → AreAlike u t → AdvancesBy u n v → AdvancesBy t m w →
    AreAlike v w
advance u t v w n m k e p r = record {
  left = p.left ∙ ap (drop n) e.left ∙ ap (λ i. drop i t.left) k ∙ sym r.left;
  taken = p.taken ∙ ap (λ i. i + n) e.taken ∙ ap (λ i. t.taken + i) k ∙ sym r.taken;
}

-- readers that are alike answer alike where a whole number of bytes is asked for
whole-same : (u t : Unread) (n : ℕ) (this that a b : ReaderAnswer) (v w : Unread) → AreAlike u t →
    AnswersWhole u n this a v → AnswersWhole t n that b w → this ≡ that → (a ≡ b) × AreAlike v w
whole-same u t n this that a b v w e p q f =
    let size : length u.left ≡ length t.left = ap length e.left in
    ⊎_elim
    (λ (h : length u.left < n).
    let k : length t.left < n = omega arith in (
      (p.short h).0 ∙ sym ((q.short k).0),
      advance u t v w (length u.left) (length t.left) size e (p.short h).1 (q.short k).1,
    ))
    (λ (h : n ≤ length u.left).
    let k : n ≤ length t.left = omega arith in
    ((p.enough h).0 ∙ f ∙ sym ((q.enough k).0), advance u t v w n n refl e (p.enough h).1 (q.enough k).1))
    (cases_lt (length u.left) n)

-- readers that are alike answer a question alike, and stay so
same : (u t : Unread) (q : Question) (a b : ReaderAnswer) (v w : Unread) → AreAlike u t → Answers u q a v →
    Answers t q b w → (a ≡ b) × AreAlike v w
same u t Available a b v w e p r = (cc (p.0, r.0, e.left, e.taken), stay u t v w e p.1 r.1)
same u t Taken a b v w e p r = (cc (p.0, r.0, e.left, e.taken), stay u t v w e p.1 r.1)
same u t (Read buf) a b v w e p r =
    (cc (p.0, r.0, e.left), advance u t v w _ _ (ap (λ l. min (length buf) (length l)) e.left) e p.1 r.1)
same u t (ReadExact n) a b v w e p r =
    whole-same u t n _ _ a b v w e p r (cc e.left)
same u t (ReadObj widths) a b v w e p r =
    whole-same u t (sum widths) _ _ a b v w e p r (cc e.left)

-- and every list of questions
all-same : (u t : Unread) → AreAlike u t →
    (questions : List Question) (answers others : List ReaderAnswer) (v w : Unread) →
    AreAnswers u questions answers v → AreAnswers t questions others w → (answers ≡ others) × AreAlike v w
all-same u t e [] [] [] v w p r = (refl, stay u t v w e p r)
all-same u t e [] [] (b ∷ others) v w p r = absurd r
all-same u t e [] (a ∷ answers) others v w p r = absurd p
all-same u t e (q ∷ questions) [] others v w p r = absurd p
all-same u t e (q ∷ questions) (a ∷ answers) [] v w p r = absurd r
all-same u t e (q ∷ questions) (a ∷ answers) (b ∷ others) v w p r =
    let one = same u t q a b p.0 r.0 e p.1.0 r.1.0 in
    let rest = all-same p.0 r.0 one.1 questions answers others v w p.1.1 r.1.1 in
    let first = one.0 in
    let others_same = rest.0 in
    (cc, rest.1)

-- so do two new readers of equal flat bytes
pub alike : AnswerAlike
alike first second e u t m n questions answers others v w p r =
    let start : AreAlike u t = record { left = m.0 ∙ e ∙ sym n.0; taken = m.1 ∙ sym n.1 } in
    all-same u t start questions answers others v w p r

-- a reader has advanced to where it is n bytes on
advanced-is : (u : Unread) (n : ℕ) → AdvancesBy u n (advanced u n)
advanced-is u n = record { left = refl; taken = refl }

-- there is an answer where a whole number of bytes is asked for
whole-answer : (u : Unread) (n : ℕ) (this : ReaderAnswer) →
    (a : ReaderAnswer) × ((v : Unread) × AnswersWhole u n this a v)
whole-answer u n this =
    ⊎_elim
    (λ (h : length u.left < n). (
      TooFew,
      (
        advanced u (length u.left),
        record {
          enough = λ k. absurd (omega arith);
          short = λ k. (refl, advanced-is u (length u.left));
        },
      ),
    ))
    (λ (h : n ≤ length u.left). (
      this,
      (
        advanced u n,
        record {
          enough = λ k. (refl, advanced-is u n);
          short = λ k. absurd (omega arith);
        },
      ),
    ))
    (cases_lt (length u.left) n)

-- there is one to each question
answered : (u : Unread) (q : Question) → (a : ReaderAnswer) × ((v : Unread) × Answers u q a v)
answered u Available = (_, (u, (refl, record { left = refl; taken = refl })))
answered u Taken = (_, (u, (refl, record { left = refl; taken = refl })))
answered u (Read buf) =
    let n = min (length buf) (length u.left) in
    (_, (advanced u n, (refl, advanced-is u n)))
answered u (ReadExact n) = whole-answer u n _
answered u (ReadObj widths) = whole-answer u (sum widths) _

-- and to every list of them
pub all_answered : AnswerAll
all_answered u [] = ([], (u, record { left = refl; taken = refl }))
all_answered u (q ∷ questions) =
    let one = answered u q in
    let rest = all_answered one.1.0 questions in
    (one.0 ∷ rest.0, (rest.1.0, (one.1.0, (one.1.1, rest.1.1))))
