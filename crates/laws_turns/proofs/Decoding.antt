-- What the bytes of replies and of forgets decode to.
use Rattle.std.proofs.Common.{◌≡◌, ◌≢◌, ◌<◌, ◌+◌, ◌^◌, ℕ, ℤ, zero, suc, pos, negsuc, ◌-ℤ◌, nat_eq, List, [], ◌∷◌, ◌++◌, Option, false, length, drop, refl, ap, sym, ◌∙◌, arith, append_assoc, append-nil}
use Rattle.std.proofs.lemmas.Bool.Decides.{nat_tests}
use Rattle.std.proofs.lemmas.List.{drop_at}
use Rattle.std.proofs.lemmas.Int.{to_z-of_z}
use Rattle.std.proofs.Math.Facts.{Fits-of_z}
use Rattle.std.proofs.Math.IntN.{+ℤ_idl, pos-ne-negsuc}
use mir.Val.{SFits}
use Rattle.std.specs.Int.{w32, cast_signed, cast_unsigned}
use Rattle.vfs_flags.specs.declared.opcode.Opcode.{Opcode}
use Rattle.vfs_wire.specs.Fields.{little, number, bytes_of}
use Rattle.vfs_wire.specs.FieldLaws.{length-little, number-little}
use Rattle.vfs_wire.specs.Records.{out_header}
use Rattle.vfs_wire.specs.declared.headers.OutHeader.{OutHeader}
use Rattle.vfs_grammar.specs.Forms.{pairs_of}
use Rattle.vfs_grammar.specs.Reply.{body_reply, fault_reply}
use Rattle.vfs_grammar.specs.Words.{fault_number, u32_at, u64_at, pairs_at}
use Rattle.vfs_grammar.proofs.Rooms.{length-header}
use Rattle.vfs_grammar.specs.Books.{nodes_after, delivered_nodes}

-- ---- headers

-- the error in a header's bytes
error_at : (h : OutHeader) (rest : List ℕ) → cast_unsigned w32 h.error < 2 ^ 32 → u32_at 4 (bytes_of out_header h ++ rest) ≡ cast_unsigned w32 h.error
error_at h rest small =
    let e = little 4 (cast_unsigned w32 h.error) in
    let u = little 8 h.unique ++ [] in
    let parts : bytes_of out_header h ++ rest ≡ little 4 h.len ++ (e ++ (u ++ rest)) =
    append_assoc (little 4 h.len) (e ++ u) rest ∙ ap (λ (l : List ℕ). little 4 h.len ++ l) (append_assoc e u rest) in
    ap (number 4) (ap (drop 4) parts ∙ drop_at (little 4 h.len) (e ++ (u ++ rest)) 4 (length-little 4 h.len))
    ∙ number-little 4 (cast_unsigned w32 h.error) (u ++ rest) (omega (arith, small))

error-body : (body : List ℕ) (unique : ℕ) → u32_at 4 (body_reply body unique) ≡ 0
error-body body unique = error_at (record { len = 16 + length body; error = pos 0; unique = unique }) body (omega arith)

pub following-body : (body : List ℕ) (unique : ℕ) → drop 16 (body_reply body unique) ≡ body
following-body body unique =
    let h : OutHeader = record { len = 16 + length body; error = pos 0; unique = unique } in
    drop_at (bytes_of out_header h) body 16 (length-header h)

minus : (k : ℕ) → pos 0 -ℤ pos (suc k) ≡ negsuc k
minus k = +ℤ_idl (negsuc k)

signed : (k : ℕ) → k < 2 ^ 31 → SFits w32 (negsuc k)
signed k h = omega (arith, h)

negated_some : (k : ℕ) → k < 2 ^ 31 → cast_unsigned w32 (negsuc k) ≢ 0
negated_some k h e =
    let z : cast_signed w32 0 ≡ negsuc k = sym (ap (cast_signed w32) e) ∙ to_z-of_z w32 (negsuc k) (signed k h) in
    pos-ne-negsuc 0 k z

negated_small : (k : ℕ) → k < 2 ^ 31 → cast_unsigned w32 (negsuc k) < 2 ^ 32
negated_small k h = (Fits-of_z {w = w32} {z = negsuc k} (signed k h)).fits

negated_error : (number unique : ℕ) → 0 < number → number < 2 ^ 31 → u32_at 4 (bytes_of out_header (record { len = 16; error = pos 0 -ℤ pos number; unique = unique })) ≢ 0
negated_error zero unique a b e = absurd (omega arith)
negated_error (suc k) unique a b e =
    let h : OutHeader = record { len = 16; error = negsuc k; unique = unique } in
    let at : u32_at 4 (bytes_of out_header h ++ []) ≡ cast_unsigned w32 (negsuc k) = error_at h [] (negated_small k (omega (arith, b))) in
    let same : u32_at 4 (bytes_of out_header h) ≡ 0 = ap (λ (z : ℤ). u32_at 4 (bytes_of out_header (record { len = 16; error = z; unique = unique }))) (sym (minus k)) ∙ e in
    negated_some k (omega (arith, b)) (sym at ∙ ap (u32_at 4) (append-nil (bytes_of out_header h)) ∙ same)

-- ---- replies

-- a fault delivers no node
pub delivered_nodes-fault : (opcode : Option Opcode) (fault : Option ℕ) (unique : ℕ) → 0 < fault_number fault → fault_number fault < 2 ^ 31
    → delivered_nodes opcode (fault_reply fault unique) ≡ []
delivered_nodes-fault opcode fault unique a b =
    let no = negated_error (fault_number fault) unique a b in
    let f : nat_eq (u32_at 4 (fault_reply fault unique)) 0 ≡ false = grind (arith, nat_tests) in
    rw f refl

-- a body delivers what comes after its header
pub delivered_nodes-body : (opcode : Option Opcode) (body : List ℕ) (unique : ℕ)
    → delivered_nodes opcode (body_reply body unique) ≡ nodes_after opcode (body_reply body unique)
delivered_nodes-body opcode body unique = rw (error-body body unique) refl

-- the number that a body begins with
pub u64_at-body : (body : List ℕ) (unique : ℕ) → u64_at 16 (body_reply body unique) ≡ number 8 body
u64_at-body body unique = ap (number 8) (following-body body unique)

-- ---- forgets

-- pairs by their record are pairs by their places
pub pairs_of-pairs_at : (count : ℕ) (bytes : List ℕ) → pairs_of count bytes ≡ pairs_at count bytes
pairs_of-pairs_at zero bytes = refl
pairs_of-pairs_at (suc count) bytes = ap (λ (ps : List (ℕ × ℕ)). (u64_at 0 bytes, u64_at 8 bytes) ∷ ps) (pairs_of-pairs_at count (drop 16 bytes))
