-- What holds of every turn that reads a directory.
use Rattle.std.proofs.Common.{◌≡◌, ℕ, List, length, Option, Result, Ok, Err, sym, ◌∙◌, inl, inr, arith, subst}
use Rattle.vfs_files.specs.Calls.{Data, read_answer}
use Rattle.vfs_grammar.specs.Directories.{IsWhole, listing_reply, StopsForACause, ComesWhole, TakesFew}
use Rattle.vfs_grammar.specs.Listing.{IsListing, Listing}
use Rattle.laws_turns.proofs.Takings.{listing_whole, takings_bounded}
use Rattle.vfs_grammar.specs.Ask.{ask}
use Rattle.vfs_grammar.specs.Forms.{Lists}
use Rattle.vfs_grammar.specs.Reply.{Echo}
use Rattle.vfs_grammar.specs.Words.{reply_to, IsRead}
use Rattle.vfs_grammar.specs.Room.{IsReplied, IsPutOpen}
use Rattle.vfs_grammar.specs.Turn.{Turn, Follows, IsTurn}
use Rattle.vfs_grammar.specs.declared.limits.Limits.{Limits}
use Rattle.vfs_grammar.specs.declared.error.Error.{Error}

replied_so : (unique size : ℕ) (answer : Result ℕ (Option ℕ)) (records room : List ℕ) (outcome : Result ℕ Error) (room_after : List ℕ)
    → IsReplied (reply_to unique (Data size) (read_answer answer records)) room outcome room_after
    → IsPutOpen (listing_reply answer records unique) room outcome room_after
replied_so unique size (Ok count) records room outcome room_after p = p
replied_so unique size (Err fault) records room outcome room_after p = p

module _ (limits : Limits) (options after : ℕ) (t : Turn) (echo : Echo) (l : Listing)
    (turn : IsTurn limits options t after) (lists : ask limits options (length t.room) t.request ≡ Lists echo l) where
  pub stops : StopsForACause l echo.unique t
  stops =
      let f : Follows t limits options (Lists echo l) after = subst (λ a. Follows t limits options a after) lists turn in
      record {
        records = f.0;
        answer = f.1;
        stops = f.2;
        replied = replied_so echo.unique l.size f.1 f.0 t.room t.outcome t.room_after f.4;
      }

  few_by : (records : List ℕ) (answer : Result ℕ (Option ℕ)) → IsRead l t.events records answer → TakesFew l t
  few_by records answer (inl u) = rw u.1 (omega arith)
  few_by records answer (inr o) = rw o.1 (takings_bounded l.plus l.ctx l.parent l.size l.space o.0 records answer o.2)

  pub few : TakesFew l t
  few = let s = stops in few_by s.records s.answer s.stops

  whole_by : (s : StopsForACause l echo.unique t) → IsRead l t.events s.records s.answer → ComesWhole l echo.unique t
  whole_by s (inl u) taken opened room goes = absurd (let a = sym u.1 ∙ opened in cc)
  whole_by s (inr o) taken opened room goes =
      let same : o.0 ≡ taken = (let a = sym o.1 ∙ opened in cc) in
      let is : IsListing l.plus l.ctx l.parent l.size l.space taken s.records s.answer = subst (λ es. IsListing l.plus l.ctx l.parent l.size l.space es s.records s.answer) same o.2 in
      let whole = listing_whole l.plus l.ctx l.parent l.size l.space taken s.records s.answer is room goes in
      record {
        records = s.records;
        whole = subst (λ r. IsWhole l.plus l.ctx l.parent l.size taken s.records r) whole.answer_is whole;
        replied = subst (λ r. IsPutOpen (listing_reply r s.records echo.unique) t.room t.outcome t.room_after) whole.answer_is s.replied;
      }

  pub whole : ComesWhole l echo.unique t
  whole = let s = stops in whole_by s s.stops
