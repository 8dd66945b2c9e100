-- Blocks as they are written, and that bytes are cut into blocks in one way.
use Rattle.std.proofs.Common.{◌≡◌, ◌+◌, ◌-◌, ◌^◌, ◌<◌, ℕ, List, [], ◌++◌, length, take, drop, Bool, true, false, if◌then◌else◌, Result, Ok, Err, refl, ap, sym, ◌∙◌, arith, length-append, append_assoc, append-nil}
use Rattle.std.specs.Prelude.{nat_lt}
use Rattle.std.proofs.lemmas.Bool.{le-ltb}
use Rattle.std.proofs.lemmas.List.{drop_at, take_at}
use Rattle.vfs_wire.specs.Fields.{value_of, bytes_of}
use Rattle.vfs_wire.specs.FieldLaws.{value_of-bytes_of-then, value_of-take, length-bytes_of}
use Rattle.vfs_wire.specs.Records.{ext_header}
use Rattle.vfs_wire.specs.declared.extensions.ExtHeader.{ExtHeader}
use Rattle.vfs_grammar.specs.Extensions.{Block, block_in, error_or}
use Rattle.vfs_grammar.specs.Words.{block_size}
use Rattle.laws_turns.specs.Extensions.{IsBlock, block_bytes}
use Rattle.vfs_grammar.specs.declared.error.Error.{Error}
use Rattle.vfs_grammar.specs.declared.error.Error.TheVariants.{DecodeMessage, InvalidHeaderLength}

-- two tests of a part that let it pass
error_or-pass : {R : Type 0} (a : Bool) (b c : R → Bool) (r : R) (e f g : Error) (make : R → Block)
    → a ≡ false → b r ≡ false → c r ≡ false
    → error_or (if a then Err e else Ok r) (λ k. if b k then Err f else if c k then Err g else Ok (make k))
    ≡ Ok (make r)
error_or-pass true b c r e f g make h i j = absurd cc
error_or-pass false b c r e f g make h i j = rw (i, j) refl

-- the header of a block is read from the bytes that begin with it
head_is-read : (bytes : List ℕ) (b : Block) (following : List ℕ) (is : IsBlock bytes b following)
    → value_of ext_header bytes ≡ record { size = 8 + length b.body; ext_type = b.ext_type }
head_is-read bytes b following is =
    ap (value_of ext_header) is.parts ∙ sym (value_of-take ext_header 8 (is.head ++ (b.body ++ following)) (omega arith))
    ∙ ap (value_of ext_header) (take_at is.head (b.body ++ following) 8 is.whole_head) ∙ is.says

-- what comes after a block
pub after_block : (bytes : List ℕ) (b : Block) (following : List ℕ) → IsBlock bytes b following
    → drop (block_size bytes) bytes ≡ following
after_block bytes b following is =
    let size : block_size bytes ≡ 8 + length b.body = ap (λ (r : ExtHeader). r.size) (head_is-read bytes b following is) in
    let parts : bytes ≡ (is.head ++ b.body) ++ following = is.parts ∙ sym (append_assoc is.head b.body following) in
    ap (λ (n : ℕ). drop n bytes) size ∙ ap (drop (8 + length b.body)) parts
    ∙ drop_at (is.head ++ b.body) following (8 + length b.body)
    (omega (arith, length-append is.head b.body, is.whole_head))

-- a block that is found
abbrev ok_block : Block → Result Block Error
ok_block b = Ok b

-- blocks of the same type and body are the same
same_block : (t u : ℕ) (b d : List ℕ) → t ≡ u → b ≡ d
    → ok_block (record { ext_type = t; body = b }) ≡ ok_block (record { ext_type = u; body = d })
same_block t u b d e f = cc

-- a block is found
pub block_in-is : (bytes : List ℕ) (b : Block) (following : List ℕ) → IsBlock bytes b following → block_in bytes ≡ Ok b
block_in-is bytes b following is =
    let size : block_size bytes ≡ 8 + length b.body = ap (λ (r : ExtHeader). r.size) (head_is-read bytes b following is) in
    let kind : (value_of ext_header bytes).ext_type ≡ b.ext_type =
    ap (λ (r : ExtHeader). r.ext_type) (head_is-read bytes b following is) in
    let long : length bytes ≡ 8 + (length b.body + length following) =
    ap (λ (l : List ℕ). length l) is.parts
    ∙ omega (arith, length-append is.head (b.body ++ following), length-append b.body following, is.whole_head) in
    let body : take (block_size bytes - 8) (drop 8 bytes) ≡ b.body =
    ap (λ (l : List ℕ). take (block_size bytes - 8) (drop 8 l)) is.parts
    ∙ ap (take (block_size bytes - 8)) (drop_at is.head (b.body ++ following) 8 is.whole_head)
    ∙ take_at b.body following (block_size bytes - 8) (omega (arith, size)) in
    error_or-pass (nat_lt (length bytes) 8) (λ r. nat_lt r.size 8) (λ r. nat_lt (length bytes) r.size)
    (value_of ext_header bytes) DecodeMessage InvalidHeaderLength DecodeMessage
    (λ r. record { ext_type = r.ext_type; body = take (r.size - 8) (drop 8 bytes) })
    (le-ltb (length bytes) 8 (omega (arith, long))) (le-ltb (block_size bytes) 8 (omega (arith, size)))
    (le-ltb (length bytes) (block_size bytes) (omega (arith, size, long)))
    ∙ same_block _ _ _ _ kind body

-- a block as it is written
pub block_bytes-is : (ext_type : ℕ) (body following : List ℕ) → ext_type < 2 ^ 32 → 8 + length body < 2 ^ 32
    → IsBlock (block_bytes ext_type body ++ following) (record { ext_type = ext_type; body = body }) following
block_bytes-is ext_type body following small short =
    let h : ExtHeader = record { size = 8 + length body; ext_type = ext_type } in
    record {
      head = bytes_of ext_header h;
      whole_head = length-bytes_of ext_header h (short, (small, tt));
      says = ap (value_of ext_header) (sym (append-nil (bytes_of ext_header h)))
          ∙ value_of-bytes_of-then ext_header h [] (short, (small, tt)) refl;
      parts = append_assoc (bytes_of ext_header h) body following;
    }
