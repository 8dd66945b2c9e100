-- A READDIR of one item whose record has room.
use Rattle.std.proofs.Common.{◌≡◌, ◌<◌, ◌≤◌, ◌+◌, ◌-◌, ◌^◌, ℕ, pos, false, nat_lt, List, [], ◌∷◌, length, Option, Some, None, MatchOption, Result, Ok, inl, inr, refl, sym, ap, subst, ◌∙◌, arith, sum_by}
use Rattle.std.proofs.lemmas.Bool.Decides.{nat_tests}
use Rattle.std.proofs.lemmas.List.Sums.{sum_by-cons}
use Rattle.vfs_segments.specs.Written.{Written}
use Rattle.vfs_files.specs.Calls.{Data, read_answer}
use Rattle.vfs_files.specs.Values.{Item, name_of}
use Rattle.vfs_files.specs.Runs.{Event}
use Rattle.vfs_messages.specs.Rooms.{Replies}
use Rattle.vfs_grammar.specs.Listing.{Fits, Line, Stop, End, At, Got, len_of, line_len, answer_of, AreWritten, Stops, verdict, Listing}
use Rattle.vfs_grammar.specs.Reply.{Echo, reply_of}
use Rattle.vfs_grammar.specs.Words.{IsRead}
use Rattle.vfs_grammar.specs.declared.limits.Limits.{Limits}
use Rattle.vfs_grammar.proofs.Listings.{length-listing}
use Rattle.vfs_grammar.proofs.Rooms.{length-body_reply}
use Rattle.codec_calls.specs.declared.data.AnswerData.{AnswerData}
use Rattle.codec_calls.specs.declared.data.ItemData.{ItemData}
use Rattle.codec_encode.specs.Offered.{AreOffered, IsLine, taken_by}
use Rattle.codec_encode.specs.Listing.{IsOfferedBy}
use Rattle.codec_encode.specs.Told.{IsUnlisted, ListingIsAnswered}
use Rattle.codec_encode.specs.declared.answered.Answered.{Answered}

-- the record of a name of one byte, without an entry, has 32 bytes
one_len : (got : Got) (i : Item) → got ≡ Ok None → length i.name ≡ 1 → len_of got i ≡ 32
one_len got i g e = rw (g, e) refl

-- it fits
one_fits : (max space : ℕ) (got : Got) (i : Item) → got ≡ Ok None → length i.name ≡ 1 → 32 ≤ max → 32 ≤ space → verdict max space got i ≡ Fits
one_fits max space got i g e m s =
    let a : nat_lt max 32 ≡ false = grind (arith, nat_tests) in
    let b : nat_lt space 32 ≡ false = grind (arith, nat_tests) in
    rw (g, e, a, b) refl

module _ (i : ItemData) (name : List ℕ) (named : name_of i.name.now ≡ Some name) (one : length name ≡ 1) (size space : ℕ) (large : 32 ≤ size) (room : 32 ≤ space) where
  its_name : (l : Line) → IsLine false i l → length l.item.name ≡ 1
  its_name l h =
      let same : h.name ≡ name = (let e = h.named in cc) in
      ap (λ (x : Item). length x.name) h.item ∙ ap length same ∙ one

  -- it is the one line, and then the items end
  by_lines : (lines : List Line) (stop : Stop) (answer : Result ℕ (Option ℕ)) → AreWritten false size space 0 lines
      → Stops false size space (sum_by line_len lines) stop → answer ≡ answer_of false size space (sum_by line_len lines) stop
      → AreOffered false (i ∷ []) lines stop → (length lines ≡ 1) × (answer ≡ Ok 32)
  by_lines [] End answer w s e o = cc
  by_lines [] (At l) answer w s e o =
      absurd (s.1 (one_fits (size - sum_by line_len []) (space - sum_by line_len []) l.got l.item s.0 (its_name l o) (omega arith) (omega arith)))
  by_lines (l ∷ []) End answer w s e o =
      let long : line_len l ≡ 32 = one_len l.got l.item w.1 (its_name l o.0) in
      (refl, e ∙ ap Ok (omega (arith, long, sum_by-cons line_len l [])))
  by_lines (l ∷ []) (At m) answer w s e o = absurd o.1
  by_lines (l ∷ (m ∷ ls)) stop answer w s e o = absurd o.1

by_read : (i : ItemData) (name : List ℕ) → name_of i.name.now ≡ Some name → length name ≡ 1 → (a : AnswerData) (l : Listing) → l.plus ≡ false → 32 ≤ l.size → 32 ≤ l.space
    → (events : List Event) (records : List ℕ) (answer : Result ℕ (Option ℕ)) (read : IsRead l events records answer) (taken : ℕ)
    → a.error ≡ pos 0 → IsOfferedBy a (i ∷ []) l events records answer read taken → (taken ≡ 1) × (answer ≡ Ok 32) × (length records ≡ 32)
by_read i name named one a l plain large room events records answer (inl u) taken none o = absurd (o.0.0 none)
by_read i name named one a l plain large room events records answer (inr r) taken none o =
    let h = r.2 in
    let lines = by_lines i name named one l.size l.space large room h.lines h.stop answer
    (rw plain at h.written) (rw plain at h.stops) (rw plain at h.answer_is) (rw plain at o.1) in
    let long : 32 ≡ length records = length-listing h 32 lines.1 in
    (o.2 ∙ ap (λ (r : Result ℕ (Option ℕ)). taken_by r (length h.lines)) lines.1 ∙ lines.0, lines.1, sym long)

pub one_listed : (i : ItemData) (name : List ℕ) → name_of i.name.now ≡ Some name → length name ≡ 1
    → (limits : Limits) (echo : Echo) (l : Listing) (options : ℕ) (a : AnswerData) (old new : Written) (came : Answered)
    → l.plus ≡ false → 32 ≤ l.size → 32 ≤ l.space → a.error ≡ pos 0 → ListingIsAnswered limits echo l options a (i ∷ []) old came new
    → (came.taken ≡ 1) × (came.given ≡ 0) × (came.outcome ≡ Ok 48)
one_listed i name named one limits echo l options a old new came plain large room none h =
    let r = by_read i name named one a l plain large room h.events h.records h.answer h.read came.taken none h.offered in
    let replied : Replies (reply_of limits echo came.options (Data l.size) (read_answer (Ok 32) h.records)) old came.outcome new =
    subst (λ (x : Result ℕ (Option ℕ)). Replies (reply_of limits echo came.options (Data l.size) (read_answer x h.records)) old came.outcome new) r.1 h.replied in
    (r.0, h.none_given, replied.says.says ∙ ap Ok (length-body_reply h.records echo.unique ∙ ap (λ n. 16 + n) r.2))

-- where a listing is answered, it is so
pub listed_so : (result : Option Answered) (space : ℕ) (l : Listing) (P Q : Answered → Type 0) → 16 ≤ space → l.size < 2 ^ 32 - 16
    → ((came : Answered) → P came → Q came) → MatchOption result (IsUnlisted space l) P → MatchOption result ⊥ Q
listed_so None space l P Q enough short f (inl h) = omega (arith, enough, h)
listed_so None space l P Q enough short f (inr h) = omega (arith, short, h)
listed_so (Some came) space l P Q enough short f h = f came h
