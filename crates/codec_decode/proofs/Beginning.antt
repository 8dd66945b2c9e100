-- What the first bytes of a request ask is what it asks.
use Rattle.std.proofs.Common.{◌≡◌, ◌≤◌, ◌<◌, ◌+◌, ◌++◌, ◌∙◌, ℕ, Bool, true, false, List, length, take, drop, nat_lt, Result, Ok, Err, refl, ap, sym, arith, length-drop}
use Rattle.std.proofs.lemmas.Bool.Decides.{nat_tests}
use Rattle.std.proofs.lemmas.List.{length-take-le, take_all, take_at}
use Rattle.std.specs.Prelude.{min}
use Rattle.vfs_wire.specs.Fields.{Table, numbers}
use Rattle.vfs_wire.specs.FieldLaws.{numbers_at-take}
use Rattle.vfs_wire.specs.Records.{in_header}
use Rattle.vfs_wire.specs.declared.headers.InHeader.{InHeader}
use Rattle.vfs_wire.proofs.Placed.{numbers-drop}
use Rattle.vfs_wire_more.specs.Records.{copyfilerange_in}
use Rattle.vfs_wire_more.specs.Locks.{lk_in}
use Rattle.vfs_wire_more.specs.Devices.{bmap_in, ioctl_in, poll_in, statx_in}
use Rattle.vfs_wire_more.specs.Notifications.{notify_retrieve_in}
use Rattle.vfs_grammar.specs.Records.{record_of, size_of}
use Rattle.vfs_grammar.specs.declared.error.Error.{Error}
use Rattle.vfs_grammar.specs.declared.limits.Limits.{Limits}
use Rattle.codec_calls.specs.declared.call.CallData.{CallData}
use Rattle.codec_decode.specs.Further.{What, Ordinary, Short, Row, Unnamed, Tells, row_of, what_after, what_of}
use Rattle.codec_decode.specs.declared.row.Further.{Further}
use Rattle.codec_decode.specs.declared.row.Further.TheVariants as further

module _ (q : List ℕ) (long : 96 ≤ length q) where
  -- a record that lies in the first bytes
  record_front : {R : Type 0} (t : Table R) (k : ℕ) → k + size_of t ≤ 96
      → record_of t (drop k (take 96 q)) ≡ record_of t (drop k q)
  record_front {R} t k fits =
      let all : length (take 96 q) ≡ 96 = length-take-le 96 q long in
      let n = length-drop k (take 96 q) in
      let m = length-drop k q in
      let a : nat_lt (length (drop k (take 96 q))) (size_of t) ≡ false = grind (arith, nat_tests, n, all, fits) in
      let b : nat_lt (length (drop k q)) (size_of t) ≡ false = grind (arith, nat_tests, m, long, fits) in
      let v : numbers t.widths (drop k (take 96 q)) ≡ numbers t.widths (drop k q) =
      numbers-drop k t.widths (take 96 q) ∙ numbers_at-take k 96 t.widths q fits ∙ sym (numbers-drop k t.widths q) in
      let made : List ℕ → Result R Error = λ ns. Ok (t.made ns) in
      let one : record_of t (drop k (take 96 q)) ≡ made (numbers t.widths (drop k (take 96 q))) = rw a refl in
      let other : record_of t (drop k q) ≡ made (numbers t.widths (drop k q)) = rw b refl in
      one ∙ ap made v ∙ sym other

  row_front : (offers : ℕ) (h : InHeader) (len : ℕ)
      → row_of offers h (drop 40 (take 96 q)) len ≡ row_of offers h (drop 40 q) len
  row_front offers h len =
      rw (
        record_front lk_in 40 (omega arith),
        record_front bmap_in 40 (omega arith),
        record_front ioctl_in 40 (omega arith),
        record_front poll_in 40 (omega arith),
        record_front notify_retrieve_in 40 (omega arith),
        record_front statx_in 40 (omega arith),
        record_front copyfilerange_in 40 (omega arith),
      ) refl

  what_front : (offers : ℕ) (limits : Limits) (len : ℕ)
      → what_after offers limits (record_of in_header (take 96 q)) (drop 40 (take 96 q)) len
      ≡ what_after offers limits (record_of in_header q) (drop 40 q) len
  what_front offers limits len =
      ap (λ (r : Result InHeader Error). what_after offers limits r (drop 40 (take 96 q)) len)
      (record_front in_header 0 (omega arith)) ∙ by (record_of in_header q) where
        by : (r : Result InHeader Error) → what_after offers limits r (drop 40 (take 96 q)) len
            ≡ what_after offers limits r (drop 40 q) len
        by (Err error) = refl
        by (Ok h) = rw (row_front offers h len) refl

front_by : (offers : ℕ) (limits : Limits) (q : List ℕ) (n : ℕ) (short : Bool) → nat_lt (length q) 96 ≡ short
    → n ≡ min (length q) 96
    → what_after offers limits (record_of in_header (take n q)) (drop 40 (take n q)) (length q)
    ≡ what_of offers limits q
front_by offers limits q n true short is =
    let less : length q < 96 = grind (arith, nat_tests, short) in
    let all : take n q ≡ q = take_all n q (omega (arith, is, less)) in
    rw all refl
front_by offers limits q n false short is =
    let long : 96 ≤ length q = grind (arith, nat_tests, short) in
    let n_is : n ≡ 96 = omega (arith, is, long) in
    rw n_is (what_front q long offers limits (length q))

-- the first bytes that were copied, of a request that goes on or not
pub front : (offers : ℕ) (limits : Limits) (q : List ℕ) (n : ℕ) (following : List ℕ) → n ≡ min (length q) 96
    → what_after offers limits (record_of in_header (take n (take n q ++ following)))
    (drop 40 (take n (take n q ++ following))) (length q)
    ≡ what_of offers limits q
front offers limits q n following is =
    let long : length (take n q) ≡ n = length-take-le n q (omega (arith, is)) in
    let first : take n (take n q ++ following) ≡ take n q = take_at (take n q) following n long in
    rw first (front_by offers limits q n (nat_lt (length q) 96) refl is)

-- ---- what is told

-- a call that was told is told with its options and its room
pub tells_row : (what : What) (added : CallData → CallData) (result : Further) (old new : CallData) → result ≡ further.Row
    → Tells what (λ c. c) result old new → Tells what added result old (added new)
tells_row Ordinary added result old new is t = absurd (let e = sym t.0 ∙ is in cc)
tells_row Short added result old new is t = absurd (let e = sym t.0 ∙ is in cc)
tells_row (Row told) added result old new is t = (t.0, ap added t.1)
tells_row Unnamed added result old new is t = absurd (let e = sym t.0 ∙ is in cc)

-- and else nothing is
pub tells_none : (what : What) (added : CallData → CallData) (result : Further) (old new : CallData)
    → (result ≡ further.Row → ⊥) → Tells what (λ c. c) result old new → Tells what added result old new
tells_none Ordinary added result old new other t = t
tells_none Short added result old new other t = t
tells_none (Row told) added result old new other t = absurd (other t.0)
tells_none Unnamed added result old new other t = t
