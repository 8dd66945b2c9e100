-- Where nothing is to be added, the reply to an INIT is what it was.
use Rattle.std.proofs.Common.{◌≡◌, ◌+◌, ◌≤◌, ◌++◌, ◌∷◌, [], ℕ, List, length, take, drop, min, max, sum, refl, sym, ap, ◌∙◌, arith, bit_and, Bool, true, false, ◌==◌, if◌then◌else◌}
use Rattle.std.proofs.lemmas.List.{drop-drop, length-drop, take-append-drop}
use Rattle.std.specs.Int.Bits.{and_zero_r, or_zero_r}
use Rattle.vfs_flags.specs.Flags.{init_ext}
use Rattle.vfs_flags.specs.declared.constants.TheConstants.{LEAST_MAX_BUFFER}
use Rattle.vfs_wire.specs.Fields.{AreBytes, bytes_of, row, numbers, numbers_at}
use Rattle.vfs_wire.specs.FieldLaws.{AreBytes-drop, row-numbers}
use Rattle.vfs_wire.specs.Records.{init_out}
use Rattle.vfs_wire.specs.declared.init.InitOut.{InitOut}
use Rattle.vfs_notices.specs.Init.{AddsNothing, Agrees, further_agreed, reply_with_more, said_in, with_more}
use Rattle.vfs_notices.specs.declared.init.InitMore.{InitMore}
use Rattle.vfs_notices.specs.declared.init.further.TheConstants as further

numbers_at-drop : (n i : ℕ) (ws bytes : List ℕ)
    → numbers_at i ws (drop n bytes) ≡ numbers_at (n + i) ws bytes
numbers_at-drop n i [] bytes = refl
numbers_at-drop n i (w ∷ ws) bytes =
    let place : n + (i + w) ≡ n + i + w = omega arith in
    rw (drop-drop i n bytes, numbers_at-drop n (i + w) ws bytes, place) refl

-- what is read after the first bytes is written there
pub written_again : (n : ℕ) (ws bytes : List ℕ) → AreBytes bytes → length bytes ≡ n + sum ws
    → take n bytes ++ row ws (numbers_at n ws bytes) ≡ bytes
written_again n ws bytes are whole =
    let here : n + 0 ≡ n = omega arith in
    let read : numbers ws (drop n bytes) ≡ numbers_at n ws bytes =
    numbers_at-drop n 0 ws bytes ∙ ap (λ (k : ℕ). numbers_at k ws bytes) here in
    let again : row ws (numbers ws (drop n bytes)) ≡ drop n bytes =
    row-numbers ws (drop n bytes) (AreBytes-drop n bytes are) (omega (arith, length-drop n bytes)) in
    ap (λ (back : List ℕ). take n bytes ++ back) (sym (ap (row ws) read) ∙ again)
    ∙ take-append-drop n bytes

-- the same record is said
said_again : (more : InitMore) (reply : List ℕ) → AddsNothing more
    → LEAST_MAX_BUFFER ≤ (said_in reply).max_write → with_more 0 more (said_in reply) ≡ said_in reply
said_again more reply none enough =
    let said = said_in reply in
    let ahead : min said.max_readahead said.max_readahead ≡ said.max_readahead = omega arith in
    let write : max LEAST_MAX_BUFFER (min said.max_write said.max_write) ≡ said.max_write =
    omega (arith, enough) in
    rw (
      none.max_readahead,
      none.max_background,
      none.congestion_threshold,
      none.max_write,
      none.time_gran,
      ahead,
      write,
      or_zero_r said.flags2,
    ) refl

pub same_reply : (more : InitMore) (reply : List ℕ) → AddsNothing more → Agrees reply
    → take 16 reply ++ bytes_of init_out (said_in reply) ≡ reply → reply_with_more 0 more reply ≡ reply
same_reply more reply none says written =
    ap (λ (said : InitOut). take 16 reply ++ bytes_of init_out said) (said_again more reply none says.max_write)
    ∙ written

either : (b : Bool) (n : ℕ) → n ≡ 0 → (if b then 0 else n) ≡ 0
either true n none = refl
either false n none = none

pub none_agreed : (offered flags : ℕ) → further_agreed offered 0 flags ≡ 0
none_agreed offered flags =
    either (bit_and flags init_ext == 0) (bit_and (bit_and offered 0) further.ALL) (rw (and_zero_r offered) refl)
