-- What a reader is asked and what it answers, by the bytes that it has left and how many it has
-- given.
use Rattle.std.specs.Prelude.{ℕ, ◌≡◌, ◌<◌, ◌≤◌, List, [], ◌∷◌, ◌++◌, length, take, drop, min, sum}
use Rattle.vfs_wire.specs.Fields.{numbers}
use Rattle.vfs_segments.specs.Segments.{flat_bytes}
use Rattle.vfs_segments.specs.Unread.{Unread, IsUnread, AreAlike, AdvancesBy}

-- a call of a reader: how many bytes are left, how many were taken, a read into a buffer of these
-- bytes, one of just that many bytes, and one of a record of these widths
pub data Question : Type 0 where
  Available : Question
  Taken : Question
  Read : List ℕ → Question
  ReadExact : ℕ → Question
  ReadObj : List ℕ → Question

-- what a call answers: a count, how many bytes moved and what the buffer then has, a whole buffer,
-- the fields of a record, or that too few bytes were left
pub data ReaderAnswer : Type 0 where
  Count : ℕ → ReaderAnswer
  Moved : ℕ → List ℕ → ReaderAnswer
  Filled : List ℕ → ReaderAnswer
  Fields : List ℕ → ReaderAnswer
  TooFew : ReaderAnswer

-- where n bytes are left they are taken, and the answer is this one; else all that are left are
-- taken, and it is that they were too few
pub record AnswersWhole (u : Unread) (n : ℕ) (this a : ReaderAnswer) (v : Unread) : Type 0 where
  pub enough : n ≤ length u.left → (a ≡ this) × AdvancesBy u n v
  pub short : length u.left < n → (a ≡ TooFew) × AdvancesBy u (length u.left) v

-- a reader that is asked q answers a, and is v then
abbrev pub Answers : Unread → Question → ReaderAnswer → Unread → Type 0
Answers u Available a v = (a ≡ Count (length u.left)) × AreAlike u v
Answers u Taken a v = (a ≡ Count u.taken) × AreAlike u v
Answers u (Read buf) a v =
    let n = min (length buf) (length u.left) in
    (a ≡ Moved n (take n u.left ++ drop n buf)) × AdvancesBy u n v
Answers u (ReadExact n) a v = AnswersWhole u n (Filled (take n u.left)) a v
Answers u (ReadObj widths) a v =
    AnswersWhole u (sum widths) (Fields (numbers widths u.left)) a v

-- the same of a list of questions, asked one after another
abbrev pub AreAnswers : Unread → List Question → List ReaderAnswer → Unread → Type 0
AreAnswers u [] [] v = AreAlike u v
AreAnswers u [] (a ∷ answers) v = ⊥
AreAnswers u (q ∷ questions) [] v = ⊥
AreAnswers u (q ∷ questions) (a ∷ answers) v =
    (m : Unread) × (Answers u q a m × AreAnswers m questions answers v)

-- two new readers of equal flat bytes answer every list of questions alike, however the bytes are
-- cut
abbrev pub AnswerAlike : Type 0
AnswerAlike =
    (first second : List (List ℕ)) → flat_bytes first ≡ flat_bytes second →
    (u t : Unread) → IsUnread (flat_bytes first) u → IsUnread (flat_bytes second) t →
    (questions : List Question) (answers others : List ReaderAnswer) (v w : Unread) →
    AreAnswers u questions answers v → AreAnswers t questions others w →
    (answers ≡ others) × AreAlike v w

-- every list of questions has answers
abbrev pub AnswerAll : Type 0
AnswerAll =
    (u : Unread) (questions : List Question) →
    (answers : List ReaderAnswer) × ((v : Unread) × AreAnswers u questions answers v)
