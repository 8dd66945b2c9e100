-- What is known of bytes that are in place of others.
use Rattle.std.proofs.Common.{◌≡◌, ℕ, ◌+◌, ◌≤◌, List, ◌++◌, length, take, drop, ap, ◌∙◌, sym, refl, arith, append_assoc, length-append, length-drop, length-take}
use Rattle.std.proofs.lemmas.List.{take_all, take_at, drop_at}
use Rattle.vfs_segments.specs.Segments.{with_bytes_at}
use Rattle.vfs_segments.specs.Written.{Written, wrote, held_over, held_filled}

-- through their end they are what stood before them, and they
pub take-with_bytes_at : (at n : ℕ) (bs xs : List ℕ) → at ≤ length xs → n ≡ at + length bs →
    take n (with_bytes_at at bs xs) ≡ take at xs ++ bs
unfolding with_bytes_at
take-with_bytes_at at n bs xs h e =
    let first = take at xs in
    let rest = drop (at + length bs) xs in
    let front : length (first ++ bs) ≡ n = omega (arith, length-append first bs, length-take at xs) in
    ap (take n) (sym (append_assoc first bs rest)) ∙ take_at (first ++ bs) rest n front

-- bytes that are in place of as many, after xs
pub with_bytes_at-append : (xs hole ys bs : List ℕ) → length bs ≡ length hole →
    with_bytes_at (length xs) bs (xs ++ hole ++ ys) ≡ xs ++ bs ++ ys
unfolding with_bytes_at
with_bytes_at-append xs hole ys bs e =
    let k : length xs + length bs ≡ length (xs ++ hole) = omega (arith, length-append xs hole) in
    let front : take (length xs) (xs ++ hole ++ ys) ≡ xs =
    ap (take (length xs)) (append_assoc xs hole ys) ∙ take_at xs (hole ++ ys) (length xs) refl in
    let back : drop (length xs + length bs) (xs ++ hole ++ ys) ≡ ys =
    drop_at (xs ++ hole) ys (length xs + length bs) (sym k) in
    rw (front, back) (sym (append_assoc xs bs ys))

-- the list keeps its length
pub length-with_bytes_at : (at : ℕ) (bs xs : List ℕ) → at + length bs ≤ length xs →
    length (with_bytes_at at bs xs) ≡ length xs
unfolding with_bytes_at
length-with_bytes_at at bs xs h = simp (length-append, length-take, length-drop) (omega arith)

-- what a writer has passed once it held the place of a header, wrote a body and filled in the
-- header
pub passed-held_filled : (w : Written) (header body : List ℕ) →
    length header + length body ≤ length w.left →
    let v = held_over w (length header) in
    (held_filled (wrote v (take (length v.left) body)) header).passed ≡ w.passed ++ header ++ body
passed-held_filled w header body h =
    let n = length header in
    let hole : length header ≡ length (take n w.left) = omega (arith, length-take n w.left) in
    let room = length (drop n w.left) in
    let all : take room body ≡ body = take_all room body (omega (arith, length-drop n w.left)) in
    rw all (with_bytes_at-append w.passed (take n w.left) body header hole)
