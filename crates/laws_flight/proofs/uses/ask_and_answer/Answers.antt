use Rattle.std.proofs.Common.{◌≡◌, ◌≤◌, ◌+◌, ◌-◌, ◌∙◌, ℕ, List, length, replicate, inl, inr, arith, sym, subst, length-append}
use Rattle.std.proofs.lemmas.List.{length-replicate}
use Rattle.vfs_flags.specs.Flags.{fs_options_bits}
use Rattle.vfs_messages.specs.Rooms.{with_after}
use Rattle.codec_decode.specs.Asked.{IsAsked, IsEnough}
use Rattle.codec_decode.specs.declared.asked.Asked.{Asked}
use Rattle.laws_flight.proofs.OneTurn.{answered_turn}
use Rattle.laws_flight.proofs.uses.ask_and_answer.Goals as goal

not_more : (left room : ℕ) → IsEnough left room → left ≤ room
not_more left room (inl all) = omega (arith, all)
not_more left room (inr enough) = enough.1

pub returns-in-Call : goal.returns-in-Call
returns-in-Call c =
    let left = c.args.w.now.left in
    let zeros : List ℕ = replicate (c.args.room - length left) 0 in
    let n : length zeros ≡ c.args.room - length left = length-replicate (c.args.room - length left) 0 in
    let all : length left + length zeros ≡ c.args.room =
    omega (arith, n, not_more (length left) c.args.room c.requires.enough) in
    answered_turn c.asked_and_answered_is_one_turn.ensures _ _ _ (with_after c.args.w.now zeros) (with_after c.ask.new.w zeros)
    _ _ _ _ _ _ _
    (subst (λ (r : Asked). IsAsked c.args.limits (fs_options_bits c.args.options) c.args.r.left (with_after c.args.w.now zeros) r
    (with_after c.ask.new.w zeros) c.ask.new.call) c.in-Call.is (c.ask.ensures.asked zeros all))
    (c.requires.room ∙ sym all ∙ sym (length-append left zeros)) c.answer.ensures.calls c.answer.ensures.listings
