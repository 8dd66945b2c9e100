use Rattle.std.proofs.Common.{◌≡◌, ◌+◌, ◌-◌, ◌≤◌, ◌++◌, ℕ, List, length, min, take, replicate, is_ok, IsOk, vec_len, vec_capacity, Result, Ok, Err, if◌then◌else◌, ap, ◌∙◌, arith, append_assoc, length-append, length-take}
use Rattle.std.proofs.lemmas.List.{length-replicate, replicate-append-replicate, take-replicate}
use Rattle.vfs_files.specs.Bytes.{lengthened}
use Rattle.vfs_files.proofs.bytes_mut.fill_up.Goals as goal

both_runs : (old : List ℕ) (count more : ℕ)
    → (old ++ replicate count 0) ++ replicate more 0 ≡ old ++ replicate (count + more) 0
both_runs old count more =
    append_assoc old (replicate count 0) (replicate more 0)
    ∙ ap (λ l. old ++ l) (replicate-append-replicate count more 0)

-- some of the zeros that are wanted change nothing of what comes of it
some_first : (old : List ℕ) (end count : ℕ) → length old + count ≤ end
    → lengthened (old ++ replicate count 0) end ≡ lengthened old end
some_first old end count within =
    let sizes = length-append old (replicate count 0) in
    let left : end - length (old ++ replicate count 0) ≡ end - length old - count =
    omega (arith, sizes, length-replicate {A = ℕ} count 0) in
    let all : count + (end - length old - count) ≡ end - length old = omega (arith, within) in
    ap (λ n. (old ++ replicate count 0) ++ replicate n 0) left
    ∙ both_runs old count (end - length old - count)
    ∙ ap (λ n. old ++ replicate n 0) all

-- what is there after a block of zeros was put after it, for which there was room
appended : {T E : Type 0} (r : Result T E) (old block new : List ℕ) (count : ℕ) → IsOk r
    → new ≡ (if is_ok r then old ++ block else old) → block ≡ replicate count 0
    → new ≡ old ++ replicate count 0
appended (Ok x) old block new count done is zeros = is ∙ ap (λ l. old ++ l) zeros
appended (Err e) old block new count done is zeros = cc done

pub loop-bytes-preserved : goal.loop-bytes-preserved
loop-bytes-preserved c =
    let old = c.loop-bytes.bytes.items in
    let end = c.args.end in
    let count = c.min-count.result in
    let few : count ≡ min (end - length old) 4096 = omega (arith, c.min-count.ensures, c.len-in-loop-bytes.ensures) in
    let fits : length old + count ≤ end = omega (arith, few, c.loop-bytes-test.true, c.len.ensures) in
    let block = take count c.args.zeros.now in
    let room : vec_len c.loop-bytes.bytes + length block ≤ vec_capacity c.loop-bytes.bytes =
    omega (arith, length-take count c.args.zeros.now, c.loop-bytes.invariant.room, fits) in
    let zeros : block ≡ replicate count 0 =
    ap (take count) c.requires.zeros ∙ take-replicate count 4096 0 (omega (arith, few)) in
    let new = appended c.extend_from_slice.result old block c.extend_from_slice.new.self.items count
    (c.extend_from_slice.ensures.succeeds room) c.extend_from_slice.ensures.items zeros in
    record {
      same = ap (λ l. lengthened l end) new ∙ some_first old end count fits
          ∙ c.loop-bytes.invariant.same;
      room = omega (arith, c.extend_from_slice.ensures.capacity, c.loop-bytes.invariant.room);
    }
