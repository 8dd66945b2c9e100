-- What came of an answer, in the room that was told at the call.
use Rattle.std.proofs.Common.{◌≡◌, ◌≤◌, ◌+◌, ◌∙◌, ℕ, List, ◌++◌, true, length, take, drop, Option, Some, Result, Ok, Err, IfOk, MatchResult, ap, sym, subst, arith, length-append, length-take, length-drop}
use Rattle.vfs_wire.specs.Fields.{bytes_of}
use Rattle.vfs_wire.specs.Records.{out_header}
use Rattle.vfs_segments.specs.Written.{Written, wrote}
use Rattle.vfs_files.specs.Calls.{Kind, Data, Answer, IsFault, read_answer}
use Rattle.vfs_messages.specs.Rooms.{data_header, Replies, with_after}
use Rattle.vfs_grammar.specs.Reply.{Bytes, fault_reply}
use Rattle.vfs_grammar.specs.declared.limits.Limits.{Limits}
use Rattle.codec_calls.specs.declared.call.CallData.{CallData}
use Rattle.codec_calls.specs.declared.data.AnswerData.{AnswerData}
use Rattle.codec_encode.specs.Said.{CanBeRead, IsSaid}
use Rattle.codec_encode.specs.Kinds.{kind_told}
use Rattle.codec_encode.specs.Answering.{can_answer, AnswersCall, Comes, KeepsData, IsAnswered}
use Rattle.codec_encode.specs.declared.answered.Answered.{Answered}
use Rattle.vfs_messages.proofs.Rooms.{with_none_after}
use Rattle.codec_encode.proofs.Following.{data_replied, data_kept, fault_replied, fault_kept}

-- in all the room that was told, nothing comes after
pub answered : (limits : Limits) (call : CallData) (kind : Kind) (a : AnswerData) (text : List ℕ) (old : Written) (came : Answered) (new : Written) (answer : Answer)
    → kind_told call.answer call.size ≡ Some kind → length old.left ≡ call.room → can_answer (Some kind) call (length old.left) ≡ true
    → IsSaid a text old.left kind answer → Comes limits call kind answer old came new → KeepsData kind old new
    → AnswersCall limits (kind_told call.answer call.size) call a text old (Some came) new
answered limits call kind a text old came new answer told room can said comes kept =
    subst (λ (k : Option Kind). AnswersCall limits k call a text old (Some came) new) (sym told) (
      can,
      λ following all.
          let none : length following ≡ 0 = omega (arith, room, all) in
          rw (with_none_after old following none, with_none_after new following none)
          (record { answer = answer; said = said; comes = comes; kept = kept }),
    )

-- a READ
pub read_answered : (limits : Limits) (call : CallData) (a : AnswerData) (text : List ℕ) (old new : Written) (came : Answered) (said : Result ℕ (Option ℕ))
    → 16 ≤ length old.left
    → IfOk said (λ count. (count ≡ a.count) × CanBeRead call.size call.room a.count)
    → ((text room : List ℕ) → length room ≡ call.room → IsSaid a text room (Data call.size) (read_answer said (take a.count (drop 16 room))))
    → came ≡ record { outcome = came.outcome; options = call.options; given = 0; taken = 0 }
    → MatchResult said
    (λ count. (came.outcome ≡ Ok (16 + count)) × (new ≡ wrote old (bytes_of out_header (data_header (Ok count) call.unique))))
    (λ fault. IsFault fault × Replies (Bytes (fault_reply fault call.unique)) old came.outcome new)
    → (following : List ℕ) → length old.left + length following ≡ call.room
    → IsAnswered limits call (Data call.size) a text (with_after old following) came (with_after new following)
read_answered limits call a text old new came (Ok count) room fits said plain put following all =
    let whole : length (old.left ++ following) ≡ call.room = length-append old.left following ∙ all in
    let bytes = take a.count (drop 16 (old.left ++ following)) in
    let within : 16 + count ≤ length (old.left ++ following) = omega (arith, whole, fits.0, fits.1.room_for) in
    let long : length bytes ≡ a.count = omega (arith, within, fits.0, length-take a.count (drop 16 (old.left ++ following)), length-drop 16 (old.left ++ following)) in
    let replied = data_replied old new following count call.unique room within put.1 in
    record {
      answer = read_answer (Ok count) bytes;
      said = said text (old.left ++ following) whole;
      comes = (
        (omega (arith, long, fits.1.asked_for), omega (arith, long, fits.1.short)),
        rw (put.0, ← fits.0) replied,
        ap (λ (x : Answered). x.options) plain,
        ap (λ (x : Answered). x.given) plain,
        ap (λ (x : Answered). x.taken) plain,
      );
      kept = data_kept old new following count call.unique room put.1;
    }
read_answered limits call a text old new came (Err fault) room fits said plain put following all =
    let whole : length (old.left ++ following) ≡ call.room = length-append old.left following ∙ all in
    record {
      answer = read_answer (Err fault) (take a.count (drop 16 (old.left ++ following)));
      said = said text (old.left ++ following) whole;
      comes = (
        put.0,
        fault_replied old new following fault call.unique came.outcome room put.1,
        ap (λ (x : Answered). x.options) plain,
        ap (λ (x : Answered). x.given) plain,
        ap (λ (x : Answered). x.taken) plain,
      );
      kept = fault_kept old new following fault call.unique came.outcome room put.1;
    }
