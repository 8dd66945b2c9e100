-- Replies that don't fit: the room holds the beginning of what the grammar gives.
use Rattle.std.proofs.Common.{◌≡◌, ◌<◌, ℕ, Bool, true, false, List, [], ◌++◌, length, take, drop, nat_le, if◌then◌else◌, Option, Some, None, Result, Ok, Err, refl, sym, ◌∙◌, inl, inr, ◌⊎◌, arith, subst}
use Rattle.std.proofs.lemmas.Bool.Decides.{nat_tests}
use Rattle.vfs_flags.specs.declared.opcode.Opcode.{Opcode}
use Rattle.vfs_flags.specs.declared.opcode.Opcode.TheVariants.{Read, Readdir, Readdirplus}
use Rattle.vfs_wire.specs.Fields.{bytes_of}
use Rattle.vfs_wire.specs.Records.{out_header, init_out}
use Rattle.vfs_wire.specs.declared.headers.InHeader.{InHeader}
use Rattle.vfs_files.specs.Calls.{Kind, Answer, IsAnswer, Data, kind_of, read_answer}
use Rattle.vfs_grammar.specs.Ask.{form_of, ask}
use Rattle.vfs_grammar.specs.Memory.{header_of}
use Rattle.vfs_grammar.specs.Forms.{Ask}
use Rattle.laws_turns.specs.Turns.{unique_of, CarriesData, IsCutOff, CutsOff, cut_turn_tells, LacksRoomForHeader}
use Rattle.vfs_grammar.specs.Books.{opcode_in}
use Rattle.vfs_grammar.specs.Records.{size_of}
use Rattle.vfs_grammar.specs.Reply.{Bytes, Refusal, Echo, fault_reply, body_reply, reply_of, version_out}
use Rattle.vfs_grammar.specs.Room.{IsReplied}
use Rattle.vfs_grammar.specs.Turn.{Turn, Follows, IsTurn}
use Rattle.vfs_grammar.specs.Witnesses.{FollowsFor}
use Rattle.vfs_grammar.specs.declared.limits.Limits.{Limits}
use Rattle.vfs_grammar.specs.declared.error.Error.{Error}
use Rattle.vfs_grammar.specs.declared.error.Error.TheVariants.{EncodeMessage, OutOfMemory}
use Rattle.laws_turns.proofs.Bodies.{replies_hold}
use Rattle.laws_turns.proofs.Asking.{IsCramped, IsCrampedBy, ask_cases}
use Rattle.vfs_grammar.proofs.Refusing.{MayRefuse}

put_cut : (fits : Bool) (reply room room_after : List ℕ) → nat_le (length reply) (length room) ≡ fits
    → (if fits then Ok (length reply) else Err EncodeMessage) ≡ Err EncodeMessage
    → room_after ≡ (if fits then reply ++ drop (length reply) room else take (length room) reply) → IsCutOff reply room room_after
put_cut true reply room room_after test o left = absurd cc
put_cut false reply room room_after test o left = record { longer = grind (arith, nat_tests); holds = left }

-- bytes that are refused are longer than the room, which holds their beginning
bytes_cut : (reply room : List ℕ) (outcome : Result ℕ Error) (room_after : List ℕ) → IsReplied (Bytes reply) room outcome room_after
    → outcome ≡ Err EncodeMessage → IsCutOff reply room room_after
bytes_cut reply room outcome room_after h o =
    put_cut (nat_le (length reply) (length room)) reply room room_after refl (sym h.says ∙ o) h.leaves

-- what comes back of a call and is refused is cut off
answer_cut : (limits : Limits) (echo : Echo) (options : ℕ) (kind : Kind) (answer : Answer) (room : List ℕ) (outcome : Result ℕ Error) (room_after : List ℕ)
    → IsAnswer kind answer → IsReplied (reply_of limits echo options kind answer) room outcome room_after → outcome ≡ Err EncodeMessage
    → CutsOff (reply_of limits echo options kind answer) room room_after
answer_cut limits echo options kind answer room outcome room_after a h o =
    replies_hold (λ reply. IsReplied reply room outcome room_after → CutsOff reply room room_after) limits echo options kind answer a
    (λ none. absurd (let a = sym none.0 ∙ o in cc)) (λ reply is p. bytes_cut reply room outcome room_after p o)
    (λ reply is p. absurd (let a = sym p.says ∙ o in cc)) h

-- only the forms of READ, READDIR and READDIRPLUS need room for a header before their call
cramped_form : (limits : Limits) (options room : ℕ) (h : InHeader) (opcode : Opcode) → IsCramped (form_of limits options room h opcode)
    → CarriesData (Some opcode) × (room < size_of out_header)
cramped_form limits options room h Read small = (tt, small)
cramped_form limits options room h Readdir small = (tt, small)
cramped_form limits options room h Readdirplus small = (tt, small)
cramped_form limits options room h _ small = absurd small

cramped_by : (limits : Limits) (options room : ℕ) (opcode : Option Opcode) (h : InHeader) → IsCrampedBy limits options room opcode h
    → CarriesData opcode × (room < size_of out_header)
cramped_by limits options room None h small = absurd small
cramped_by limits options room (Some opcode) h small = cramped_form limits options room h opcode small

pub cut_off : (limits : Limits) (options after : ℕ) (t : Turn) → IsTurn limits options t after → t.outcome ≡ Err EncodeMessage
    → FollowsFor (cut_turn_tells t) limits options (ask limits options (length t.room) t.request) after ⊎ LacksRoomForHeader options after t
cut_off limits options after t f o =
    let Lacks = LacksRoomForHeader options after t in
    let P : Ask → Type 0 = λ a. Follows t limits options a after → FollowsFor (cut_turn_tells t) limits options a after ⊎ Lacks in
    let u = unique_of t.request in
    ask_cases P u
    (record {
      refusal = λ x m f. let same : x ≡ EncodeMessage = (let a = sym f.1.0 ∙ o in cc) in absurd (subst MayRefuse same m);
      fault = λ x f. inl (f.0, bytes_cut (fault_reply x u) t.room t.outcome t.room_after f.1 o, f.2);
      version = λ f. inl (f.0, bytes_cut (body_reply (bytes_of init_out version_out) u) t.room t.outcome t.room_after f.1 o, f.2);
      nothing = λ f. absurd (let a = sym f.1.0 ∙ o in cc);
      asks = λ echo c same f. inl (
        f.0,
        f.1,
        f.2,
        answer_cut limits echo after (kind_of c) f.0 t.room t.outcome t.room_after f.2 f.3 o,
        f.4,
      );
      lists = λ echo l same f. inl (
        f.0,
        f.1,
        f.2,
        f.3,
        answer_cut limits echo after (Data l.size) (read_answer f.1 f.0) t.room t.outcome t.room_after f.3 f.4 o,
        f.5,
      );
    })
    (λ a p f. elim f as (λ x. (FollowsFor (cut_turn_tells t) limits options a after ⊎ ((t.events ≡ []) × CutsOff (Refusal OutOfMemory) t.room t.room_after × (after ≡ options))) ⊎ Lacks) [
      | inl g ↦ elim (p g) [ inl cut ↦ inl (inl cut) | inr lacks ↦ inr lacks ]
      | inr g ↦ absurd (let a = sym g.1.0 ∙ o in cc)
    ])
    limits options (length t.room) t.request refl
    (λ small f.
    let so = cramped_by limits options (length t.room) (opcode_in t.request) (header_of t.request) small in
    inr (record { carries = so.0; small = so.1; no_call = f.0; same_room = f.1.1; same_options = f.2 }))
    f
