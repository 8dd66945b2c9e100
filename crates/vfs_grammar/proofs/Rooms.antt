-- How long replies are, and what comes of those that fit their room and of others.
use Rattle.std.proofs.Common.{◌≡◌, ◌≤◌, ◌+◌, ◌<◌, ℕ, true, false, List, ◌++◌, length, take, drop, nat_le, if◌then◌else◌, Option, Ok, Err, refl, ap, ◌∙◌, arith, ◌-ℤ◌, pos, length-append}
use Rattle.std.proofs.lemmas.Bool.Decides.{nat_tests}
use Rattle.vfs_wire.specs.Fields.{bytes_of}
use Rattle.vfs_wire.specs.FieldLaws.{length-little}
use Rattle.vfs_wire.specs.Records.{out_header}
use Rattle.vfs_wire.specs.declared.headers.OutHeader.{OutHeader}
use Rattle.vfs_grammar.specs.Words.{put_outcome, put_room, fault_number}
use Rattle.vfs_grammar.specs.Reply.{body_reply, fault_reply}
use Rattle.vfs_grammar.specs.declared.error.Error.TheVariants.{EncodeMessage}

-- the header of a reply has 16 bytes
pub length-header : (h : OutHeader) → length (bytes_of out_header h) ≡ 16
length-header h = simp (length-append, length-little)

pub length-body_reply : (body : List ℕ) (unique : ℕ) → length (body_reply body unique) ≡ 16 + length body
length-body_reply body unique =
    let h : OutHeader = record { len = 16 + length body; error = pos 0; unique = unique } in
    length-append (bytes_of out_header h) body ∙ ap (λ (n : ℕ). n + length body) (length-header h)

pub length-fault_reply : (fault : Option ℕ) (unique : ℕ) → length (fault_reply fault unique) ≡ 16
length-fault_reply fault unique = length-header (record { len = 16; error = pos 0 -ℤ pos (fault_number fault); unique = unique })

-- the outcome by two lengths that are those of a reply and a room
pub put_outcome-lengths : (reply room : List ℕ) (n m : ℕ) → n ≡ length reply → m ≡ length room
    → (if nat_le n m then Ok n else Err EncodeMessage) ≡ put_outcome reply room
put_outcome-lengths reply room n m e f = rw (e, f) refl

-- the outcome and the room of a reply that fits
pub put_outcome-fits : (reply room : List ℕ) → length reply ≤ length room → put_outcome reply room ≡ Ok (length reply)
put_outcome-fits reply room h =
    let test : nat_le (length reply) (length room) ≡ true = grind (arith, nat_tests) in
    rw test refl

pub put_room-fits : (reply room : List ℕ) → length reply ≤ length room → put_room reply room ≡ reply ++ drop (length reply) room
put_room-fits reply room h =
    let test : nat_le (length reply) (length room) ≡ true = grind (arith, nat_tests) in
    rw test refl

-- and of one that doesn't
pub put_outcome-full : (reply room : List ℕ) → length room < length reply → put_outcome reply room ≡ Err EncodeMessage
put_outcome-full reply room h =
    let test : nat_le (length reply) (length room) ≡ false = grind (arith, nat_tests) in
    rw test refl

pub put_room-full : (reply room : List ℕ) → length room < length reply → put_room reply room ≡ take (length room) reply
put_room-full reply room h =
    let test : nat_le (length reply) (length room) ≡ false = grind (arith, nat_tests) in
    rw test refl
