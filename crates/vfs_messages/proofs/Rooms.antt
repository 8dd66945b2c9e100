-- Parts of a reply that are put one after another into a room.
use Rattle.std.proofs.Common.{◌≡◌, ◌⊎◌, inl, inr, ◌≤◌, ◌<◌, ℕ, Bool, true, false, List, [], ◌++◌, length, take, drop, nat_le, Option, Some, None, IfSome, Result, refl, ap, sym, ◌∙◌, arith, append_assoc, append-nil, length-append, length-take, length-drop}
use Rattle.std.proofs.lemmas.List.{take_all, drop_all, nil_from_length, drop-append-le}
use Rattle.std.proofs.lemmas.Bool.Decides.{nat_tests}
use Rattle.vfs_wire.specs.Fields.{Table, Fit}
use Rattle.vfs_wire.specs.FieldLaws.{length-bytes_of}
use Rattle.vfs_segments.specs.Written.{Written, whole, wrote, Leaves}
use Rattle.vfs_segments.specs.WrittenLaws.{wrote_both}
use Rattle.vfs_grammar.specs.Words.{put_outcome, put_room}
use Rattle.vfs_grammar.specs.Reply.{Reply, Refusal, NoReply, Bytes, OpenAfter}
use Rattle.vfs_grammar.proofs.Rooms.{put_outcome-fits, put_room-fits}
use Rattle.vfs_grammar.specs.declared.error.Error.{Error}
use Rattle.vfs_messages.specs.Rooms.{bytes_of_option, size_of_option, Replies, IsShortReply, with_after}

-- the bytes of a writer into which as much of a reply was written as there is room for
written_room : (old : Written) (reply : List ℕ) (fits : Bool) → nat_le (length reply) (length old.left) ≡ fits → Leaves old (put_room reply old.left) (wrote old (take (length old.left) reply))
written_room old reply true test =
    let h : length reply ≤ length old.left = grind (arith, nat_tests) in
    rw (test, take_all (length old.left) reply h)
    (record { kept = simp append_assoc; same_length = omega (arith, length-append reply (drop (length reply) old.left), length-drop (length reply) old.left); same_segments = refl })
written_room old reply false test =
    let h : length old.left < length reply = grind (arith, nat_tests) in
    let size : length (take (length old.left) reply) ≡ length old.left = omega (arith, length-take (length old.left) reply) in
    rw (test, size, drop_all (length old.left) old.left (omega arith)) (record { kept = simp append-nil; same_length = size; same_segments = refl })

-- a writer into which as much of a reply was written as there is room for
pub replied : (old new : Written) (reply : List ℕ) (outcome : Result ℕ Error) → new ≡ wrote old (take (length old.left) reply) → outcome ≡ put_outcome reply old.left → Replies (Bytes reply) old outcome new
replied old new reply outcome e o = record {
  room_after = put_room reply old.left;
  leaves = rw e (written_room old reply (nat_le (length reply) (length old.left)) refl);
  says = record { says = o; leaves = refl };
  no_hold = λ h. ap (λ (w : Written). w.held) e ∙ h;
}

-- as much of three parts as there is room for, of which two were written as one
pub wrote_three : (old mid new : Written) (a b c : List ℕ) → mid ≡ wrote old (take (length old.left) (a ++ b))
    → new ≡ wrote mid (take (length mid.left) c) → new ≡ wrote old (take (length old.left) (a ++ (b ++ c)))
wrote_three old mid new a b c m n =
    wrote_both old mid new (a ++ b) c m n
    ∙ ap (λ (l : List ℕ). wrote old (take (length old.left) l)) (append_assoc a b c)

-- the bytes of a record that may be there, by its size
pub length-bytes_of_option : {R : Type 0} (t : Table R) (o : Option R) → IfSome o (λ r. Fit t.widths (t.fields r))
    → length (bytes_of_option t o) ≡ size_of_option t o
length-bytes_of_option t None h = refl
length-bytes_of_option t (Some r) h = length-bytes_of t r h

-- no byte
pub wrote_none : (w : Written) (body : List ℕ) → length body ≡ 0 → w ≡ wrote w (take (length w.left) body)
wrote_none w body e =
    let none : take (length w.left) body ≡ [] = nil_from_length _ (omega (arith, e, length-take (length w.left) body)) in
    rw none (rw (append-nil w.passed) refl)

-- ---- a room that goes on after what a writer has left

-- where none is after
pub with_none_after : (w : Written) (following : List ℕ) → length following ≡ 0 → with_after w following ≡ w
with_none_after w following e = rw (nil_from_length following e, append-nil w.left) refl

-- all bytes of the writer, and those after
pub whole_after : (w : Written) (following : List ℕ) → whole (with_after w following) ≡ whole w ++ following
whole_after w following = sym (append_assoc w.passed w.left following)

-- a reply that fits before it
fits_before : (reply : List ℕ) (old new : Written) (outcome : Result ℕ Error) (following : List ℕ) → length reply ≤ length old.left
    → Replies (Bytes reply) old outcome new → Replies (Bytes reply) (with_after old following) outcome (with_after new following)
fits_before reply old new outcome following fits w =
    let more : length reply ≤ length (old.left ++ following) = omega (arith, fits, length-append old.left following) in
    let here = w.says.leaves ∙ put_room-fits reply old.left fits in
    let there : w.room_after ++ following ≡ put_room reply (old.left ++ following) =
    ap (λ (x : List ℕ). x ++ following) here ∙ append_assoc reply (drop (length reply) old.left) following
    ∙ ap (λ (x : List ℕ). reply ++ x) (sym (drop-append-le (length reply) old.left following fits))
    ∙ sym (put_room-fits reply (old.left ++ following) more) in
    record {
      room_after = w.room_after ++ following;
      leaves = record {
        kept = whole_after new following ∙ ap (λ (x : List ℕ). x ++ following) w.leaves.kept ∙ append_assoc old.passed w.room_after following;
        same_length = omega (arith, w.leaves.same_length, length-append w.room_after following, length-append old.left following);
        same_segments = w.leaves.same_segments;
      };
      says = record {
        says = w.says.says ∙ put_outcome-fits reply old.left fits ∙ sym (put_outcome-fits reply (old.left ++ following) more);
        leaves = there;
      };
      no_hold = w.no_hold;
    }

-- a short reply, of which the room that is left is all there is, or enough
pub replies_after : (most : ℕ) (reply : Reply) (old new : Written) (outcome : Result ℕ Error) (following : List ℕ)
    → (length following ≡ 0) ⊎ (most ≤ length old.left) → IsShortReply most reply
    → Replies reply old outcome new → Replies reply (with_after old following) outcome (with_after new following)
replies_after most reply old new outcome following (inl none) short w =
    rw (with_none_after old following none, with_none_after new following none) w
replies_after most (Refusal error) old new outcome following (inr enough) short w = (w.0, ap (λ (x : Written). with_after x following) w.1)
replies_after most NoReply old new outcome following (inr enough) short w = (w.0, ap (λ (x : Written). with_after x following) w.1)
replies_after most (Bytes reply) old new outcome following (inr enough) short w =
    fits_before reply old new outcome following (omega (arith, enough, short)) w
replies_after most (OpenAfter reply) old new outcome following (inr enough) short w = absurd short
