-- A reply whose data were put before its header: the place of the header is filled in last.
use Rattle.std.proofs.Common.{◌≡◌, ◌+◌, ℕ, List, ◌++◌, length, take, Option, Result, Ok, Err, refl, ap, sym, ◌∙◌, arith, append_assoc, length-append, length-take, length-drop}
use Rattle.std.proofs.lemmas.List.{take_at}
use Rattle.vfs_wire.specs.Fields.{bytes_of}
use Rattle.vfs_wire.specs.Records.{out_header}
use Rattle.vfs_wire.specs.declared.headers.OutHeader.{OutHeader}
use Rattle.vfs_segments.specs.SegmentLaws.{with_bytes_at-append}
use Rattle.vfs_segments.specs.Written.{Written, whole, held_filled}
use Rattle.vfs_files.specs.Answers.{Counts, Data, read_answer}
use Rattle.vfs_grammar.specs.Reply.{OpenAfter, body_reply, fault_reply}
use Rattle.vfs_grammar.specs.Words.{reply_to}
use Rattle.vfs_messages.specs.Rooms.{data_header, Replies, PutsAfterHeader}
use Rattle.vfs_grammar.proofs.Rooms.{length-header, length-body_reply, length-fault_reply}

-- all bytes of a writer whose held place was filled
whole-filled : (old mid : Written) (bytes head : List ℕ) → length head ≡ 16
    → (h : PutsAfterHeader old bytes mid) → whole (held_filled mid head) ≡ old.passed ++ (head ++ (bytes ++ (h.beyond ++ mid.left)))
whole-filled old mid bytes head n h =
    let place = take 16 old.left in
    let same : length head ≡ length place = omega (arith, n, h.enough, length-take 16 old.left) in
    rw (h.moves.passed, h.moves.held_at, with_bytes_at-append old.passed place (bytes ++ h.beyond) head same) (simp append_assoc)

-- a reply that the header begins, with the bytes or without them, and what comes after it
replied_by : (old mid new : Written) (bytes head reply following : List ℕ) (len : ℕ) → length head ≡ 16
    → (h : PutsAfterHeader old bytes mid) → new ≡ held_filled mid head
    → head ++ (bytes ++ (h.beyond ++ mid.left)) ≡ reply ++ following → len ≡ length reply → Replies (OpenAfter reply) old (Ok len) new
replied_by old mid new bytes head reply following len n h e same l =
    let long : length (reply ++ following) ≡ length old.left =
    ap length (sym same) ∙ omega (arith, n, length-append head (bytes ++ (h.beyond ++ mid.left)), length-append bytes (h.beyond ++ mid.left), length-append h.beyond mid.left, length-append bytes h.beyond, h.enough, h.moves.left, length-drop 16 old.left) in
    record {
      room_after = reply ++ following;
      leaves = record {
        kept = ap whole e ∙ whole-filled old mid bytes head n h ∙ ap (λ (x : List ℕ). old.passed ++ x) same;
        same_length = long;
        same_segments = ap (λ (w : Written). w.lengths) e ∙ h.moves.lengths;
      };
      says = record { says = ap (λ (k : ℕ). Ok k) l; begins = take_at reply following (length reply) refl; same_length = long };
      no_hold = λ z. ap (λ (w : Written). w.held) e;
    }

-- the data are replied, or the fault, where their header is filled in
pub data_replied : (old mid new : Written) (bytes : List ℕ) (answer : Result ℕ (Option ℕ)) (unique size : ℕ) → PutsAfterHeader old bytes mid
    → Counts answer bytes size → new ≡ held_filled mid (bytes_of out_header (data_header answer unique))
    → Replies (reply_to unique (Data size) (read_answer answer bytes)) old (Ok (data_header answer unique).len) new
data_replied old mid new bytes (Ok count) unique size h counts e =
    let head : OutHeader = data_header (Ok (length bytes)) unique in
    let is : new ≡ held_filled mid (bytes_of out_header head) =
    e ∙ ap (λ (k : ℕ). held_filled mid (bytes_of out_header (data_header (Ok k) unique))) counts.0 in
    replied_by old mid new bytes (bytes_of out_header head) (body_reply bytes unique) (h.beyond ++ mid.left) (16 + count) (length-header head) h is
    (sym (append_assoc (bytes_of out_header head) bytes (h.beyond ++ mid.left))) (omega (arith, counts.0, length-body_reply bytes unique))
data_replied old mid new bytes (Err fault) unique size h counts e =
    let head : OutHeader = data_header (Err fault) unique in
    replied_by old mid new bytes (bytes_of out_header head) (fault_reply fault unique) (bytes ++ (h.beyond ++ mid.left)) 16 (length-header head) h e refl
    (sym (length-fault_reply fault unique))
