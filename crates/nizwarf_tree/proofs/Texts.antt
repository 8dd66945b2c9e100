-- The texts of the answers to rows.
use Rattle.std.proofs.Common.{◌≡◌, ◌≤◌, ◌+◌, ◌==◌, ◌∙◌, ℕ, Bool, true, false, List, length, take, replicate, Result, Ok, Err, IfOk, if◌then◌else◌, ap, sym, arith}
use Rattle.std.proofs.lemmas.Bool.{le-leb}
use Rattle.std.proofs.lemmas.List.{take_all}
use Rattle.vfs_wire.specs.Fields.{number as number_of}
use Rattle.vfs_files.specs.Calls.{Text}
use Rattle.codec_calls.specs.declared.call.CallData.{CallData}
use Rattle.codec_calls.specs.declared.call.number.TheConstants as number
use Rattle.codec_encode.specs.Fitting.{fits, fits_ioctl}
use Rattle.fs_tree.specs.Rows.{statx_answer}
use Rattle.nizwarf_tree.specs.Files.{State, row_answer}

-- ---- IOCTL

-- that many zeros are a record without a retry, and output
zeros_fit : (gets : Bool) (len size : ℕ) → len ≡ 16 + (if gets then 4 else 28) → len ≤ 16 + size
    → fits_ioctl size (take len (replicate 288 0)) ≡ true
unfolding number_of
zeros_fit true len size is within =
    let most : 20 ≤ 16 + size = omega (arith, is, within) in
    ap (λ (n : ℕ). fits_ioctl size (take n (replicate 288 0))) is ∙ le-leb 20 (16 + size) most
zeros_fit false len size is within =
    let most : 44 ≤ 16 + size = omega (arith, is, within) in
    ap (λ (n : ℕ). fits_ioctl size (take n (replicate 288 0))) is ∙ le-leb 44 (16 + size) most

pub flags_fit : {E : Type 0} (call : CallData) (text : List ℕ) (result : Result ℕ E) → call.call ≡ number.IOCTL
    → text ≡ replicate 288 0
    → IfOk result (λ len. len ≡ 16 + (if call.more == 0x80086601 then 4 else 28))
    → IfOk result (λ len. len ≤ 16 + call.size) → IfOk result (λ len. fits call (take len text) ≡ true)
flags_fit call text (Err e) is zeros lens within = tt
flags_fit call text (Ok len) is zeros lens within =
    ap (λ (t : List ℕ). fits call (take len t)) zeros
    ∙ by_number call.call is (take len (replicate 288 0)) (zeros_fit (call.more == 0x80086601) len call.size lens within)
  where
    by_number : (n : ℕ) → n ≡ number.IOCTL → (t : List ℕ) → fits_ioctl call.size t ≡ true
        → fits (record call { call = n }) t ≡ true
    by_number n same t fit =
        ap (λ (k : ℕ). fits (record call { call = k }) t) same ∙ fit

-- ---- STATX

pub statx_text : (files : State) (call : CallData) (text : List ℕ) → call.call ≡ number.STATX
    → statx_answer files call.node ≡ Text text → length text ≡ 288 → row_answer files call ≡ Text (take 288 text)
statx_text files call text is answer long =
    ap (λ (n : ℕ). row_answer files (record call { call = n })) is ∙ answer
    ∙ ap Text (sym (take_all 288 text (omega (arith, long))))

pub statx_fits : (call : CallData) (text : List ℕ) → call.call ≡ number.STATX → length text ≡ 288
    → fits call (take 288 text) ≡ true
statx_fits call text is long =
    ap (λ (n : ℕ). fits (record call { call = n }) (take 288 text)) is
    ∙ ap (λ (n : ℕ). n == 288) (ap length (take_all 288 text (omega (arith, long))) ∙ long)
