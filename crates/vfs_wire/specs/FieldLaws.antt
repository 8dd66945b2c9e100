-- Numbers in their widths and lists of bytes correspond one to one.
use Rattle.std.proofs.Common.{◌≡◌, ℕ, zero, suc, ◌+◌, ◌-◌, ◌*◌, ◌^◌, ◌<◌, ◌≤◌, ◌%◌, ◌/◌, List, [], ◌∷◌, ◌++◌, drop, take, length, refl, sym, ap, ◌∙◌, arith, append_assoc, length-append, lit<}
use Rattle.std.specs.Prelude.{sum, slice_index}
use Rattle.std.proofs.Math.Nat.{pow-suc}
use Rattle.std.proofs.Math.Seq.{take-add}
use Rattle.std.proofs.lemmas.Nat.{div_below}
use Rattle.std.proofs.lemmas.List.Sums.{sum_by-cons}
use Rattle.std.proofs.lemmas.List.{drop-drop, drop-take, drop_at, get_or-drop, take_all, length-drop, append-nil}
use Rattle.vfs_wire.specs.Fields.{AreBytes, little, number, row, numbers_at, numbers, Fit, Table, bytes_of, value_of}

pub length-little : (n x : ℕ) → length (little n x) ≡ n
unfolding little
length-little zero x = refl
length-little (suc n) x = ap suc (length-little n (x / 256))

-- what is written is read, whatever follows it
pub number-little : (n x : ℕ) (rest : List ℕ) → x < 256 ^ n → number n (little n x ++ rest) ≡ x
unfolding little number
number-little zero x rest h = omega arith
number-little (suc n) x rest h =
    let below : x / 256 < 256 ^ n = div_below x 256 (256 ^ n) (lit< tt) (omega (arith, pow-suc 256 n)) in
    let again = number-little n (x / 256) rest below in
    rw again (omega arith)

AreBytes-rest : (x : ℕ) (bytes : List ℕ) → AreBytes (x ∷ bytes) → AreBytes bytes
AreBytes-rest x bytes h i = h (suc i)

-- what is read is written
pub little-number : (n : ℕ) (bytes : List ℕ) → AreBytes bytes → n ≤ length bytes → little n (number n bytes) ≡ take n bytes
unfolding little number
little-number zero bytes h long = refl
little-number (suc n) [] h long = absurd (omega arith)
little-number (suc n) (x ∷ bytes) h long =
    let small : x < 256 = h 0 in
    let low : (x + 256 * number n bytes) % 256 ≡ x = omega arith in
    let high : (x + 256 * number n bytes) / 256 ≡ number n bytes = omega arith in
    rw (low, high) (ap (λ (t : List ℕ). x ∷ t) (little-number n bytes (AreBytes-rest x bytes h) (omega arith)))

-- what n bytes stand for has n bytes
pub number-lt : (n : ℕ) (bytes : List ℕ) → AreBytes bytes → number n bytes < 256 ^ n
unfolding number
number-lt zero bytes h = omega arith
number-lt (suc n) [] h = omega (arith, pow-suc 256 n, number-lt n [] h)
number-lt (suc n) (x ∷ bytes) h = omega (arith, pow-suc 256 n, h 0, number-lt n bytes (AreBytes-rest x bytes h))

pub AreBytes-drop : (n : ℕ) (bytes : List ℕ) → AreBytes bytes → AreBytes (drop n bytes)
AreBytes-drop n bytes h i = rw get_or-drop (h (n + i))

-- what a number is written in are bytes
AreBytes-little : (n x : ℕ) → AreBytes (little n x)
unfolding little
AreBytes-little zero x i = lit< tt
AreBytes-little (suc n) x zero = omega arith
AreBytes-little (suc n) x (suc i) = AreBytes-little n (x / 256) i

AreBytes-append : (xs ys : List ℕ) → AreBytes xs → AreBytes ys → AreBytes (xs ++ ys)
AreBytes-append [] ys h k i = k i
AreBytes-append (x ∷ xs) ys h k zero = h zero
AreBytes-append (x ∷ xs) ys h k (suc i) = AreBytes-append xs ys (AreBytes-rest x xs h) k i

-- ---- rows

-- what numbers are written in are bytes
pub AreBytes-row : (ws xs : List ℕ) → AreBytes (row ws xs)
AreBytes-row [] xs i = lit< tt
AreBytes-row (w ∷ ws) [] i = lit< tt
AreBytes-row (w ∷ ws) (x ∷ xs) i = AreBytes-append (little w x) (row ws xs) (AreBytes-little w x) (AreBytes-row ws xs) i

pub length-row : (ws xs : List ℕ) → Fit ws xs → length (row ws xs) ≡ sum ws
length-row [] [] h = refl
length-row [] (x ∷ xs) h = absurd h
length-row (w ∷ ws) [] h = absurd h
length-row (w ∷ ws) (x ∷ xs) h = rw (length-append (little w x) (row ws xs), sum_by-cons (λ x. x) w ws) (omega (arith, length-little w x, length-row ws xs h.1))

numbers_at-written : (i : ℕ) (ws xs bytes rest : List ℕ) → Fit ws xs → drop i bytes ≡ row ws xs ++ rest → numbers_at i ws bytes ≡ xs
numbers_at-written i [] [] bytes rest h e = refl
numbers_at-written i [] (x ∷ xs) bytes rest h e = absurd h
numbers_at-written i (w ∷ ws) [] bytes rest h e = absurd h
numbers_at-written i (w ∷ ws) (x ∷ xs) bytes rest h e =
    let parts : drop i bytes ≡ little w x ++ (row ws xs ++ rest) = e ∙ append_assoc (little w x) (row ws xs) rest in
    let first : number w (drop i bytes) ≡ x = ap (number w) parts ∙ number-little w x (row ws xs ++ rest) h.0 in
    let others : drop (i + w) bytes ≡ row ws xs ++ rest =
    sym (drop-drop w i bytes) ∙ ap (drop w) parts ∙ drop_at (little w x) (row ws xs ++ rest) w (length-little w x) in
    rw (first, numbers_at-written (i + w) ws xs bytes rest h.1 others) refl

-- what is written is read, whatever follows it
pub numbers-row-then : (ws xs rest : List ℕ) → Fit ws xs → numbers ws (row ws xs ++ rest) ≡ xs
numbers-row-then ws xs rest h = numbers_at-written 0 ws xs (row ws xs ++ rest) rest h refl

pub numbers-row : (ws xs : List ℕ) → Fit ws xs → numbers ws (row ws xs) ≡ xs
numbers-row ws xs h = ap (numbers ws) (sym (append-nil (row ws xs))) ∙ numbers-row-then ws xs [] h

row-numbers_at : (i : ℕ) (ws bytes : List ℕ) → AreBytes bytes → i + sum ws ≤ length bytes → row ws (numbers_at i ws bytes) ≡ take (sum ws) (drop i bytes)
row-numbers_at i [] bytes h long = refl
row-numbers_at i (w ∷ ws) bytes h long =
    let total : sum (w ∷ ws) ≡ w + sum ws = sum_by-cons (λ x. x) w ws in
    let first : little w (number w (drop i bytes)) ≡ take w (drop i bytes) =
    little-number w (drop i bytes) (AreBytes-drop i bytes h) (omega (arith, length-drop i bytes)) in
    let others = row-numbers_at (i + w) ws bytes h (omega arith) in
    rw (total, first, others, ← drop-drop w i bytes) (sym (take-add w (sum ws) (drop i bytes)))

-- what is read is written
pub row-numbers : (ws bytes : List ℕ) → AreBytes bytes → length bytes ≡ sum ws → row ws (numbers ws bytes) ≡ bytes
row-numbers ws bytes h e = row-numbers_at 0 ws bytes h (omega arith) ∙ take_all (sum ws) bytes (omega arith)

numbers_at-fit : (i : ℕ) (ws bytes : List ℕ) → AreBytes bytes → Fit ws (numbers_at i ws bytes)
numbers_at-fit i [] bytes h = tt
numbers_at-fit i (w ∷ ws) bytes h = (number-lt w (drop i bytes) (AreBytes-drop i bytes h), numbers_at-fit (i + w) ws bytes h)

pub numbers-fit : (ws bytes : List ℕ) → AreBytes bytes → Fit ws (numbers ws bytes)
numbers-fit ws bytes h = numbers_at-fit 0 ws bytes h

-- ---- reading from a longer list

-- a number read in the first n bytes
number-take : (w n : ℕ) (bytes : List ℕ) → w ≤ n → number w (take n bytes) ≡ number w bytes
unfolding number
number-take zero n bytes h = refl
number-take (suc w) zero bytes h = absurd (omega arith)
number-take (suc w) (suc n) [] h = refl
number-take (suc w) (suc n) (b ∷ bytes) h = ap (λ (k : ℕ). b + 256 * k) (number-take w n bytes (omega arith))

-- numbers read in the first n bytes
pub numbers_at-take : (i n : ℕ) (ws bytes : List ℕ) → i + sum ws ≤ n → numbers_at i ws (take n bytes) ≡ numbers_at i ws bytes
numbers_at-take i n [] bytes h = refl
numbers_at-take i n (w ∷ ws) bytes h =
    let all : sum (w ∷ ws) ≡ w + sum ws = sum_by-cons (λ x. x) w ws in
    let split : n ≡ i + (n - i) = omega (arith, all) in
    let part : drop i (take n bytes) ≡ take (n - i) (drop i bytes) = ap (λ (k : ℕ). drop i (take k bytes)) split ∙ drop-take i (n - i) bytes in
    rw (part, number-take w (n - i) (drop i bytes) (omega (arith, all)), numbers_at-take (i + w) n ws bytes (omega (arith, all))) refl

-- ---- values

-- a value's bytes are as many as its widths say
pub length-bytes_of : {R : Type 0} (t : Table R) (x : R) → Fit t.widths (t.fields x) → length (bytes_of t x) ≡ sum t.widths
length-bytes_of t x fit = length-row t.widths (t.fields x) fit

-- only as many bytes are looked at as the widths say
pub value_of-take : {R : Type 0} (t : Table R) (n : ℕ) (bytes : List ℕ) → sum t.widths ≤ n → value_of t (take n bytes) ≡ value_of t bytes
value_of-take t n bytes h = ap t.made (numbers_at-take 0 n t.widths bytes (omega arith))

-- a value is read from its bytes, whatever follows them
pub value_of-bytes_of-then : {R : Type 0} (t : Table R) (x : R) (rest : List ℕ) → Fit t.widths (t.fields x) → t.made (t.fields x) ≡ x → value_of t (bytes_of t x ++ rest) ≡ x
value_of-bytes_of-then t x rest fit again = ap t.made (numbers-row-then t.widths (t.fields x) rest fit) ∙ again

-- ---- arrays

-- the first n numbers from place i on
abbrev pub cells_from : ℕ → ℕ → List ℕ → List ℕ
cells_from i zero xs = []
cells_from i (suc n) xs = slice_index xs i ∷ cells_from (suc i) n xs

cells_from-rest : (i n : ℕ) (x : ℕ) (xs : List ℕ) → cells_from (suc i) n (x ∷ xs) ≡ cells_from i n xs
cells_from-rest i zero x xs = refl
cells_from-rest i (suc n) x xs = ap (λ (t : List ℕ). slice_index xs i ∷ t) (cells_from-rest (suc i) n x xs)

-- an array is the list of its elements
pub cells-is : (n : ℕ) (xs : List ℕ) → length xs ≡ n → cells_from 0 n xs ≡ xs
cells-is zero [] h = refl
cells-is zero (x ∷ xs) h = absurd cc
cells-is (suc n) [] h = absurd cc
cells-is (suc n) (x ∷ xs) h = rw (cells_from-rest 0 n x xs, cells-is n xs (omega arith)) refl
