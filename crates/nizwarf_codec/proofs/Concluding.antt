-- What both promises conclude of a request that was asked and then answered.
use Rattle.std.proofs.Common.{◌≡◌, ◌≢◌, ◌≤◌, ◌+◌, ◌-◌, ◌++◌, ◌∙◌, ◌==◌, ◌⊎◌, ℕ, ℤ, List, length, replicate, refl, sym, subst, inl, inr, arith, length-append}
use Rattle.std.proofs.lemmas.List.{length-replicate}
use Rattle.vfs_grammar.specs.Ask.{ask}
use Rattle.vfs_grammar.specs.Turn.{Turn, IsTurn}
use Rattle.vfs_grammar.specs.declared.limits.Limits.{Limits}
use Rattle.codec_calls.specs.declared.call.CallData.{CallData}
use Rattle.codec_calls.specs.declared.call.kind.TheConstants as kind
use Rattle.codec_calls.specs.declared.data.AnswerData.{AnswerData}
use Rattle.codec_calls.specs.declared.data.ItemData.{ItemData}
use Rattle.c_rooms.specs.Codes.{is_asked, no_memory, not_asked, too_long}
use Rattle.nizwarf_codec.specs.Kept.{put_of}
use Rattle.nizwarf_codec.specs.Turns.{AnswersCall, Happened, IsAnsweredOrNot, IsAskedOrNot, TellsItsCall}
use Rattle.nizwarf_codec.specs.Uses.{IsTurnInC}
use Rattle.nizwarf_codec.specs.declared.data.ToldData.{ToldData}
use Rattle.nizwarf_codec.proofs.Asking.{no_call, put_within}

neither : (P Q : Type 0) → P ⊎ Q → (P → ⊥) → (Q → ⊥) → ⊥
neither P Q (inl p) f g = f p
neither P Q (inr q) f g = g q

pub none_asked : (code : ℤ) → code ≡ is_asked → code ≡ no_memory → ⊥
none_asked code is none = let e = sym is ∙ none in cc

pub long_asked : (code : ℤ) → code ≡ is_asked → code ≡ too_long → ⊥
long_asked code is long = let e = sym is ∙ long in cc

module _ (limits : Limits) (options : ℕ) (request : List ℕ) (room : ℕ) (asked answered code : ℤ) (c : CallData)
    (a : AnswerData) (text : List ℕ) (items : List ItemData) (told mid told_after : ToldData)
    (shown_asked shown : List ℕ) (asked_is : asked ≡ is_asked) (same : answered ≡ code) where
  -- the call was told, and answered
  both : TellsItsCall limits options request room asked c told mid shown_asked
      → AnswersCall limits c a text items answered mid told_after shown
      → IsTurnInC limits options request room a text items code told_after
  both t s =
      let n : ℕ = c.room - length s.room in
      let following : List ℕ = replicate n 0 in
      let within : put_of c c.room ≤ c.room = put_within c c.room (c.answer == kind.DATA) refl in
      let some : length following ≡ n = length-replicate n 0 in
      let sum : length (s.room ++ following) ≡ length s.room + length following = length-append s.room following in
      let all : length (s.room ++ following) ≡ c.room = omega (arith, some, sum, within, s.length_is) in
      let it = s.turn request following (c, t.is_of, refl, λ is. refl) all in
      let turn : Turn = record {
        request = request;
        room = s.room ++ following;
        events = it.0;
        outcome = s.outcome;
        room_after = s.room_after ++ following;
      } in
      record {
        turn = turn;
        of_request = refl;
        in_room = all ∙ t.same_room;
        happened =
            subst (λ (n : ℕ). Happened a text items (ask limits options n request) (s.room ++ following) told_after it.0) t.same_room
            (subst (λ (o : ℕ). Happened a text items (ask limits o c.room request) (s.room ++ following) told_after it.0) t.same_options
            it.1);
        is_turn = subst (λ (o : ℕ). IsTurn limits o turn told_after.options) t.same_options it.2;
        code_is = sym same ∙ s.code_is;
        len = s.len;
      }

  pub concluded : answered ≢ no_memory → answered ≢ not_asked
      → IsAskedOrNot limits options request room asked c told mid shown_asked
      → IsAnsweredOrNot limits c a text items answered mid told_after shown
      → IsTurnInC limits options request room a text items code told_after
  concluded has other (inl t) (inl s) = both t s
  concluded has other (inl t) (inr u) = absurd (neither _ _ u.why (λ n. has n.0) (λ n. other n.0))
  concluded has other (inr (inl f)) s = absurd (no_call f.turn.outcome (sym f.code_is ∙ asked_is))
  concluded has other (inr (inr n)) s = absurd (neither _ _ n.why (none_asked asked asked_is) (λ e. long_asked asked asked_is e.0))
