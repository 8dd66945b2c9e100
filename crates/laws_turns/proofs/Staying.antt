-- What stays of a room.
use Rattle.std.proofs.Common.{◌≡◌, ◌≤◌, ◌<◌, ℕ, Bool, true, false, List, ◌++◌, length, take, drop, nat_le, if◌then◌else◌, Option, Result, Ok, Err, refl, ap, sym, ◌∙◌, inl, inr, arith, length-append, length-drop, length-take}
use Rattle.std.proofs.lemmas.Bool.Decides.{nat_tests}
use Rattle.vfs_wire.specs.Fields.{bytes_of}
use Rattle.vfs_wire.specs.Records.{init_out}
use Rattle.vfs_files.specs.Calls.{Kind, Answer, IsAnswer, Data, kind_of, read_answer}
use Rattle.vfs_grammar.specs.Ask.{ask}
use Rattle.vfs_grammar.specs.Forms.{Ask, Ends, Asks, Lists, WithMemory}
use Rattle.laws_turns.specs.Turns.{unique_of}
use Rattle.vfs_grammar.specs.Reply.{Reply, Refusal, NoReply, Bytes, OpenAfter, Echo, reply_of, fault_reply, body_reply, version_out}
use Rattle.vfs_grammar.specs.Room.{IsReplied}
use Rattle.vfs_grammar.specs.Turn.{Turn, Follows, IsTurn}
use Rattle.vfs_grammar.specs.declared.limits.Limits.{Limits}
use Rattle.vfs_grammar.specs.declared.error.Error.{Error}
use Rattle.vfs_grammar.specs.declared.error.Error.TheVariants.{EncodeMessage, OutOfMemory}
use Rattle.laws_turns.proofs.Bodies.{replies_hold}
use Rattle.laws_turns.proofs.Asking.{ask_cases}
use Rattle.vfs_grammar.proofs.Rooms.{length-body_reply, length-fault_reply}

put_length : (fits : Bool) (reply room : List ℕ) → nat_le (length reply) (length room) ≡ fits
    → length (if fits then reply ++ drop (length reply) room else take (length room) reply) ≡ length room
put_length true reply room test =
    let h : length reply ≤ length room = grind (arith, nat_tests) in
    omega (arith, h, length-append reply (drop (length reply) room), length-drop (length reply) room)
put_length false reply room test =
    let h : length room < length reply = grind (arith, nat_tests) in
    omega (arith, h, length-take (length room) reply)

replied_length : (reply : Reply) (room : List ℕ) (outcome : Result ℕ Error) (room_after : List ℕ) → IsReplied reply room outcome room_after
    → length room_after ≡ length room
replied_length (Refusal error) room outcome room_after h = ap length h.1
replied_length NoReply room outcome room_after h = ap length h.1
replied_length (Bytes reply) room outcome room_after h = ap length h.leaves ∙ put_length (nat_le (length reply) (length room)) reply room refl
replied_length (OpenAfter reply) room outcome room_after h = h.same_length

length_follows : (limits : Limits) (options : ℕ) (a : Ask) (t : Turn) (after : ℕ) → Follows t limits options a after → length t.room_after ≡ length t.room
length_follows limits options (Ends reply) t after f = replied_length reply t.room t.outcome t.room_after f.1
length_follows limits options (Asks echo call) t after f =
    replied_length (reply_of limits echo after (kind_of call) f.0) t.room t.outcome t.room_after f.3
length_follows limits options (Lists echo l) t after f =
    replied_length (reply_of limits echo after (Data l.size) (read_answer f.1 f.0)) t.room t.outcome t.room_after f.4
length_follows limits options (WithMemory rest) t after (inl f) = length_follows limits options rest t after f
length_follows limits options (WithMemory rest) t after (inr f) = replied_length (Refusal OutOfMemory) t.room t.outcome t.room_after f.1

pub same_length : (limits : Limits) (options after : ℕ) (t : Turn) → IsTurn limits options t after → length t.room_after ≡ length t.room
same_length limits options after t f = length_follows limits options (ask limits options (length t.room) t.request) t after f

-- ---- an answer of 0

put_some : (fits : Bool) (size : ℕ) → (if fits then Ok size else Err EncodeMessage) ≡ Ok 0 → size ≡ 0
put_some true size o = cc
put_some false size o = absurd (let e = o in cc)

-- bytes are answered by their number
bytes_none : (reply room : List ℕ) (outcome : Result ℕ Error) (room_after : List ℕ) → IsReplied (Bytes reply) room outcome room_after → outcome ≡ Ok 0 → length reply ≡ 0
bytes_none reply room outcome room_after h o = put_some (nat_le (length reply) (length room)) (length reply) (sym h.says ∙ o)

fault_some : (fault : Option ℕ) (unique : ℕ) (room : List ℕ) (outcome : Result ℕ Error) (room_after : List ℕ)
    → IsReplied (Bytes (fault_reply fault unique)) room outcome room_after → outcome ≡ Ok 0 → ⊥
fault_some fault unique room outcome room_after h o =
    let none = bytes_none (fault_reply fault unique) room outcome room_after h o in
    absurd (omega (arith, none, length-fault_reply fault unique))

body_some : (body : List ℕ) (unique : ℕ) (room : List ℕ) (outcome : Result ℕ Error) (room_after : List ℕ)
    → IsReplied (Bytes (body_reply body unique)) room outcome room_after → outcome ≡ Ok 0 → ⊥
body_some body unique room outcome room_after h o =
    let none = bytes_none (body_reply body unique) room outcome room_after h o in
    absurd (omega (arith, none, length-body_reply body unique))

answer_silent : (limits : Limits) (echo : Echo) (options : ℕ) (kind : Kind) (answer : Answer) (room : List ℕ) (outcome : Result ℕ Error) (room_after : List ℕ)
    → IsAnswer kind answer → IsReplied (reply_of limits echo options kind answer) room outcome room_after → outcome ≡ Ok 0 → room_after ≡ room
answer_silent limits echo options kind answer room outcome room_after a h o =
    replies_hold (λ reply. IsReplied reply room outcome room_after → room_after ≡ room) limits echo options kind answer a
    (λ none. none.1)
    (λ reply is p. let none = bytes_none reply room outcome room_after p o in absurd (omega (arith, none, is.long)))
    (λ reply is p. let none : length reply ≡ 0 = (let e = sym p.says ∙ o in cc) in absurd (omega (arith, none, is.long))) h

pub same_room : (limits : Limits) (options after : ℕ) (t : Turn) → IsTurn limits options t after → t.outcome ≡ Ok 0 → t.room_after ≡ t.room
same_room limits options after t f o =
    let P : Ask → Type 0 = λ a. Follows t limits options a after → t.room_after ≡ t.room in
    let u = unique_of t.request in
    ask_cases P u
    (record {
      refusal = λ x m f. absurd (let a = sym f.1.0 ∙ o in cc);
      fault = λ x f. absurd (fault_some x u t.room t.outcome t.room_after f.1 o);
      version = λ f. absurd (body_some (bytes_of init_out version_out) u t.room t.outcome t.room_after f.1 o);
      nothing = λ f. f.1.1;
      asks = λ echo c same f. answer_silent limits echo after (kind_of c) f.0 t.room t.outcome t.room_after f.2 f.3 o;
      lists = λ echo l same f. answer_silent limits echo after (Data l.size) (read_answer f.1 f.0) t.room t.outcome t.room_after f.3 f.4 o;
    })
    (λ a p f. elim f as (λ x. t.room_after ≡ t.room) [ inl g ↦ p g | inr g ↦ g.1.1 ])
    limits options (length t.room) t.request refl (λ small f. f.1.1) f
