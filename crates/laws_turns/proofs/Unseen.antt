-- Which entry a client doesn't get to see, by what came of its reply.
use Rattle.std.proofs.Common.{◌≡◌, ℕ, Bool, true, false, List, length, nat_le, if◌then◌else◌, Option, Some, None, Result, Ok, Err, refl, sym, ◌∙◌}
use Rattle.vfs_grammar.specs.Reply.{Reply, Refusal, NoReply, Bytes, OpenAfter, Echo, reply_of}
use Rattle.vfs_grammar.specs.Room.{IsReplied, unseen}
use Rattle.vfs_files.specs.Calls.{Kind, Answer, IsAnswer}
use Rattle.vfs_grammar.specs.declared.limits.Limits.{Limits}
use Rattle.vfs_grammar.specs.declared.error.Error.{Error}
use Rattle.vfs_grammar.specs.declared.error.Error.TheVariants.{EncodeMessage}
use Rattle.laws_turns.proofs.Bodies.{replies_hold}

by_whole : (fits : Bool) (len n node : ℕ) → (if fits then Ok len else Err EncodeMessage) ≡ Ok n
    → (if fits then None else Some node) ≡ None
by_whole true len n node o = refl
by_whole false len n node o = absurd (let e = o in cc)

by_unfit : (fits : Bool) (len node : ℕ) {e : Error} → (if fits then Ok len else Err EncodeMessage) ≡ Err e
    → (if fits then None else Some node) ≡ Some node
by_unfit true len node o = absurd (let f = o in cc)
by_unfit false len node o = refl

-- of a reply that came back whole nothing is unseen
pub unseen-whole : (reply : Reply) (room : List ℕ) (outcome : Result ℕ Error) (room_after : List ℕ) (n : ℕ) (back : Option ℕ)
    → IsReplied reply room outcome room_after → outcome ≡ Ok n → unseen (length room) reply back ≡ None
unseen-whole reply room outcome room_after n None r o = refl
unseen-whole (Refusal error) room outcome room_after n (Some node) r o = refl
unseen-whole NoReply room outcome room_after n (Some node) r o = refl
unseen-whole (Bytes reply) room outcome room_after n (Some node) r o =
    by_whole (nat_le (length reply) (length room)) (length reply) n node (sym r.says ∙ o)
unseen-whole (OpenAfter reply) room outcome room_after n (Some node) r o = refl

bytes_unfit : (reply room : List ℕ) (outcome : Result ℕ Error) (room_after : List ℕ) (back : Option ℕ) {e : Error}
    → IsReplied (Bytes reply) room outcome room_after → outcome ≡ Err e → unseen (length room) (Bytes reply) back ≡ back
bytes_unfit reply room outcome room_after None r o = refl
bytes_unfit reply room outcome room_after (Some node) r o =
    by_unfit (nat_le (length reply) (length room)) (length reply) node (sym r.says ∙ o)

-- of what came back of a call and was refused, the node that was counted is unseen
pub unseen-unfit : (limits : Limits) (echo : Echo) (options : ℕ) (kind : Kind) (answer : Answer) (room : List ℕ) (outcome : Result ℕ Error) (room_after : List ℕ) (back : Option ℕ) {e : Error}
    → IsAnswer kind answer → IsReplied (reply_of limits echo options kind answer) room outcome room_after → outcome ≡ Err e
    → unseen (length room) (reply_of limits echo options kind answer) back ≡ back
unseen-unfit limits echo options kind answer room outcome room_after back a h o =
    replies_hold (λ reply. IsReplied reply room outcome room_after → unseen (length room) reply back ≡ back) limits echo options kind answer a
    (λ none. absurd (let f = sym none.0 ∙ o in cc)) (λ reply is p. bytes_unfit reply room outcome room_after back p o)
    (λ reply is p. absurd (let f = sym p.says ∙ o in cc)) h
