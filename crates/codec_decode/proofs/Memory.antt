-- Where no memory is wanted, no request is refused for want of it.
use Rattle.std.proofs.Common.{◌≡◌, ◌≢◌, ◌≤◌, ◌+◌, ◌-◌, ◌∙◌, ℕ, Bool, true, false, List, [], length, replicate, if◌then◌else◌, Result, Ok, Err, refl, subst, sym, inl, inr, arith, length-append}
use Rattle.std.proofs.lemmas.List.{length-replicate}
use Rattle.vfs_wire.specs.Records.{in_header}
use Rattle.vfs_wire.specs.declared.headers.InHeader.{InHeader}
use Rattle.vfs_segments.specs.Written.{Written}
use Rattle.vfs_grammar.specs.Ask.{ask}
use Rattle.vfs_grammar.specs.Memory.{header_of}
use Rattle.vfs_grammar.specs.Forms.{Ask, Ends, Asks, Lists, WithMemory}
use Rattle.vfs_grammar.specs.Records.{record_of}
use Rattle.vfs_grammar.specs.Reply.{Reply, Refusal, NoReply, Bytes, OpenAfter}
use Rattle.vfs_grammar.specs.Room.{IsReplied}
use Rattle.vfs_grammar.specs.Turn.{Turn}
use Rattle.vfs_grammar.specs.Witnesses.{turn_with_memory_tells, FollowsFor}
use Rattle.vfs_grammar.specs.declared.limits.Limits.{Limits}
use Rattle.vfs_grammar.specs.declared.error.Error.{Error}
use Rattle.vfs_grammar.specs.declared.error.Error.TheVariants.{DecodeMessage, OutOfMemory}
use Rattle.laws_turns.proofs.EachTurn.{enough_memory}
use Rattle.vfs_messages.specs.Rooms.{Replies, with_after}
use Rattle.codec_calls.specs.declared.call.CallData.{CallData}
use Rattle.codec_decode.specs.Asked.{IsEnough, IsFinished, Tells}
use Rattle.codec_decode.specs.Memory.{LacksNoMemory}
use Rattle.codec_decode.specs.declared.asked.Asked.{Asked}
use Rattle.codec_decode.specs.declared.asked.Asked.TheVariants as asked
use Rattle.codec_decode.proofs.Short.{told_in_room}

-- what is told where memory is wanted for one cause is told where it is wanted for another that follows
pub tells_less : (A B : Type 0) → (A → B) → (q : List ℕ) (options interrupts room : ℕ) (a : Ask) (writer writer_after : Written) (told : CallData) (result : Asked)
    → Tells A q options interrupts room a writer result writer_after told → Tells B q options interrupts room a writer result writer_after told
tells_less A B less q o n room (Ends reply) writer writer_after told result t = t
tells_less A B less q o n room (Asks echo call) writer writer_after told result t = t
tells_less A B less q o n room (Lists echo l) writer writer_after told result t = t
tells_less A B less q o n room (WithMemory rest) writer writer_after told result (inl t) = inl (tells_less A B less q o n room rest writer writer_after told result t)
tells_less A B less q o n room (WithMemory rest) writer writer_after told result (inr t) = inr (less t.0, t.1)

-- the header that a request begins with, where it is whole
header_is : (short : Bool) (v h : InHeader) → (if short then Err DecodeMessage else Ok v) ≡ Ok h → h ≡ v
header_is true v h e = absurd (let a = e in cc)
header_is false v h e = cc

pub read_header_is : (q : List ℕ) (h : InHeader) → record_of in_header q ≡ Ok h → h ≡ header_of q
read_header_is q h e = header_is _ (header_of q) h e

-- what came back through a writer, as a reader of the room's bytes sees it
record Came (reply : Reply) (room : List ℕ) (outcome : Result ℕ Error) : Type 0 where
  room_after : List ℕ
  says : IsReplied reply room outcome room_after

came : (reply : Reply) (old new : Written) (outcome : Result ℕ Error) → Replies reply old outcome new → Came reply old.left outcome
came (Refusal error) old new outcome h = record { room_after = old.left; says = (h.0, refl) }
came NoReply old new outcome h = record { room_after = old.left; says = (h.0, refl) }
came (Bytes reply) old new outcome h = record { room_after = h.room_after; says = h.says }
came (OpenAfter reply) old new outcome h = record { room_after = h.room_after; says = h.says }

module _ (wanted : Type 0) (none : ¬ wanted) (q : List ℕ) (limits : Limits) (options interrupts room : ℕ) (writer writer_after : Written) (told : CallData)
    (outcome : Result ℕ Error) (interrupted : ℕ) where
  -- a finished request is a turn without events
  abbrev turn_of : (room_after : List ℕ) → Turn
  turn_of room_after = record { request = q; room = writer.left; events = []; outcome = outcome; room_after = room_after }

  record Turned (a : Ask) : Type 0 where
    room_after : List ℕ
    follows : FollowsFor (turn_with_memory_tells (turn_of room_after)) limits options a options

  turned : (a : Ask) → Tells wanted q options interrupts room a writer (asked.Finished outcome interrupted) writer_after told → Turned a
  turned (Ends reply) t = let b = came reply writer writer_after outcome t.0 in record { room_after = b.room_after; follows = (refl, b.says, refl) }
  turned (Asks echo call) t = absurd (let e = t.0 in cc)
  turned (Lists echo l) t = absurd (let e = t.0 in cc)
  turned (WithMemory rest) (inl t) = let b = turned rest t in record { room_after = b.room_after; follows = inl b.follows }
  turned (WithMemory rest) (inr t) = absurd (none t.0)

  finished_lacks_no_memory : length writer.left ≡ room
      → Tells wanted q options interrupts room (ask limits options room q) writer (asked.Finished outcome interrupted) writer_after told
      → outcome ≢ Err OutOfMemory
  finished_lacks_no_memory all t =
      let b = turned (ask limits options room q) t in
      enough_memory limits options options (turn_of b.room_after)
      (subst (λ (n : ℕ). FollowsFor (turn_with_memory_tells (turn_of b.room_after)) limits options (ask limits options n q) options) (sym all) b.follows)

lacks_no_memory_of : (wanted : Type 0) → ¬ wanted → (q : List ℕ) (limits : Limits) (options interrupts room : ℕ) (writer writer_after : Written) (told : CallData) (result : Asked)
    → length writer.left ≡ room
    → Tells wanted q options interrupts room (ask limits options room q) writer result writer_after told → LacksNoMemory result
lacks_no_memory_of wanted none q limits options interrupts room writer writer_after told asked.Call all t = tt {0}
lacks_no_memory_of wanted none q limits options interrupts room writer writer_after told (asked.Finished outcome n) all t =
    finished_lacks_no_memory wanted none q limits options interrupts room writer writer_after told outcome n all t

not_more : (left room : ℕ) → IsEnough left room → left ≤ room
not_more left room (inl all) = omega (arith, all)
not_more left room (inr enough) = enough.1

-- a request that is not refused for want of memory is not finished so
pub not_refused : (interrupts : ℕ) (writer writer_after : Written) (told : CallData) (result : Asked) → LacksNoMemory result
    → IsFinished (Refusal OutOfMemory) interrupts writer result writer_after told → ⊥
not_refused n writer writer_after told asked.Call has f = f
not_refused n writer writer_after told (asked.Finished outcome m) has f = has f.0.0

-- zeros stand for the room that the writer hasn't
pub lacks_no_memory : (wanted : Type 0) → ¬ wanted → (q : List ℕ) (limits : Limits) (options interrupts room : ℕ) (writer writer_after : Written) (told : CallData) (result : Asked)
    → IsEnough (length writer.left) room
    → Tells wanted q options interrupts room (ask limits options room q) writer result writer_after told → LacksNoMemory result
lacks_no_memory wanted none q limits options interrupts room writer writer_after told result enough t =
    let zeros : List ℕ = replicate (room - length writer.left) 0 in
    let n : length zeros ≡ room - length writer.left = length-replicate (room - length writer.left) 0 in
    let sum : length writer.left + length zeros ≡ room = omega (arith, n, not_more (length writer.left) room enough) in
    lacks_no_memory_of wanted none q limits options interrupts room (with_after writer zeros) (with_after writer_after zeros) told result
    (length-append writer.left zeros ∙ sum)
    (told_in_room wanted q limits options interrupts room writer writer_after told zeros result sum enough t)
