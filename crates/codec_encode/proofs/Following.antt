-- A reply whose header alone is put: its data come after the header already, in the writer's room or further
-- after.
use Rattle.std.proofs.Common.{◌≡◌, ◌≤◌, ◌+◌, ◌∙◌, ℕ, List, ◌++◌, length, take, drop, Option, Result, Ok, refl, ap, sym, arith, append_assoc, length-append, length-take, length-drop}
use Rattle.std.proofs.lemmas.List.{take_at, drop-append-le, take-append-drop}
use Rattle.vfs_wire.specs.Fields.{bytes_of}
use Rattle.vfs_wire.specs.Records.{out_header}
use Rattle.vfs_segments.specs.Written.{Written, whole, wrote}
use Rattle.vfs_messages.specs.Rooms.{data_header, Replies, with_after}
use Rattle.vfs_messages.proofs.Rooms.{whole_after}
use Rattle.vfs_grammar.specs.Reply.{Bytes, OpenAfter, body_reply, fault_reply}
use Rattle.vfs_grammar.specs.declared.error.Error.{Error}
use Rattle.vfs_grammar.proofs.Rooms.{length-header, length-body_reply, length-fault_reply, put_outcome-fits, put_room-fits}

abbrev header : (count unique : ℕ) → List ℕ
header count unique = bytes_of out_header (data_header (Ok count) unique)

-- all bytes of a writer into which a header was written, with more room after
header_whole : (old : Written) (head following : List ℕ) → length head ≡ 16 → 16 ≤ length old.left
    → whole (with_after (wrote old head) following) ≡ old.passed ++ (head ++ drop 16 (old.left ++ following))
header_whole old head following n h = rw (n, drop-append-le 16 old.left following h) (append_assoc old.passed head (drop 16 old.left ++ following))

-- the data after a header, and what comes after them
data_stand : (count unique : ℕ) (rest : List ℕ) → count ≤ length rest
    → header count unique ++ rest ≡ body_reply (take count rest) unique ++ drop count rest
data_stand count unique rest h =
    let long : length (take count rest) ≡ count = omega (arith, length-take count rest, h) in
    rw long (ap (λ (x : List ℕ). header count unique ++ x) (sym (take-append-drop count rest)) ∙ sym (append_assoc (header count unique) (take count rest) (drop count rest)))

pub data_replied : (old new : Written) (following : List ℕ) (count unique : ℕ) → 16 ≤ length old.left
    → 16 + count ≤ length (old.left ++ following) → new ≡ wrote old (header count unique)
    → Replies (OpenAfter (body_reply (take count (drop 16 (old.left ++ following))) unique)) (with_after old following) (Ok (16 + count)) (with_after new following)
data_replied old new following count unique room fits e =
    let rest = drop 16 (old.left ++ following) in
    let h = header count unique in
    let enough : count ≤ length rest = omega (arith, fits, length-drop 16 (old.left ++ following)) in
    let n : length h ≡ 16 = length-header (data_header (Ok count) unique) in
    let long : length (take count rest) ≡ count = omega (arith, length-take count rest, enough) in
    let same : length (h ++ rest) ≡ length (old.left ++ following) = omega (arith, n, fits, length-append h rest, length-drop 16 (old.left ++ following)) in
    let stand = data_stand count unique rest enough in
    record {
      room_after = h ++ rest;
      leaves = record {
        kept = ap (λ (w : Written). whole (with_after w following)) e ∙ header_whole old h following n room;
        same_length = same;
        same_segments = ap (λ (w : Written). w.lengths) e;
      };
      says = record {
        says = ap Ok (omega (arith, long, length-body_reply (take count rest) unique));
        begins = rw stand (take_at (body_reply (take count rest) unique) (drop count rest) (length (body_reply (take count rest) unique)) refl);
        same_length = same;
      };
      no_hold = λ z. ap (λ (w : Written). w.held) e ∙ z;
    }

pub data_kept : (old new : Written) (following : List ℕ) (count unique : ℕ) → 16 ≤ length old.left → new ≡ wrote old (header count unique)
    → (head : List ℕ) × (length head ≡ 16) × (whole (with_after new following) ≡ old.passed ++ (head ++ drop 16 (old.left ++ following)))
data_kept old new following count unique room e =
    let n = length-header (data_header (Ok count) unique) in
    (header count unique, n, ap (λ (w : Written). whole (with_after w following)) e ∙ header_whole old (header count unique) following n room)

-- a reply that fits, with what comes after it and further after
fault_whole : (old new : Written) (following reply : List ℕ) (outcome : Result ℕ Error) → length reply ≡ 16 → 16 ≤ length old.left
    → Replies (Bytes reply) old outcome new → whole (with_after new following) ≡ old.passed ++ (reply ++ drop 16 (old.left ++ following))
fault_whole old new following reply outcome n room w =
    let put : w.room_after ≡ reply ++ drop 16 old.left = rw (← n) (w.says.leaves ∙ put_room-fits reply old.left (omega (arith, n, room))) in
    whole_after new following
    ∙ ap (λ (x : List ℕ). x ++ following) (w.leaves.kept ∙ ap (λ (x : List ℕ). old.passed ++ x) put)
    ∙ append_assoc old.passed (reply ++ drop 16 old.left) following
    ∙ ap (λ (x : List ℕ). old.passed ++ x) (append_assoc reply (drop 16 old.left) following ∙ ap (λ (x : List ℕ). reply ++ x) (sym (drop-append-le 16 old.left following room)))

pub fault_replied : (old new : Written) (following : List ℕ) (fault : Option ℕ) (unique : ℕ) (outcome : Result ℕ Error) → 16 ≤ length old.left
    → Replies (Bytes (fault_reply fault unique)) old outcome new
    → Replies (OpenAfter (fault_reply fault unique)) (with_after old following) outcome (with_after new following)
fault_replied old new following fault unique outcome room w =
    let reply = fault_reply fault unique in
    let n : length reply ≡ 16 = length-fault_reply fault unique in
    let rest = drop 16 (old.left ++ following) in
    let same : length (reply ++ rest) ≡ length (old.left ++ following) = omega (arith, n, room, length-append reply rest, length-append old.left following, length-drop 16 (old.left ++ following)) in
    record {
      room_after = reply ++ rest;
      leaves = record {
        kept = fault_whole old new following reply outcome n room w;
        same_length = same;
        same_segments = w.leaves.same_segments;
      };
      says = record {
        says = w.says.says ∙ put_outcome-fits reply old.left (omega (arith, n, room));
        begins = take_at reply rest (length reply) refl;
        same_length = same;
      };
      no_hold = w.no_hold;
    }

pub fault_kept : (old new : Written) (following : List ℕ) (fault : Option ℕ) (unique : ℕ) (outcome : Result ℕ Error) → 16 ≤ length old.left
    → Replies (Bytes (fault_reply fault unique)) old outcome new
    → (head : List ℕ) × (length head ≡ 16) × (whole (with_after new following) ≡ old.passed ++ (head ++ drop 16 (old.left ++ following)))
fault_kept old new following fault unique outcome room w =
    let n = length-fault_reply fault unique in
    (fault_reply fault unique, n, fault_whole old new following (fault_reply fault unique) outcome n room w)
