-- What is between quotes.
use Rattle.std.proofs.Common.{◌≡◌, ◌<◌, ◌/◌, ◌%◌, ℕ, List, [], ◌∷◌, ◌++◌, length, drop, get_or, refl, sym, ap, ◌∙◌, arith, ⊎_elim, true, false}
use Rattle.std.proofs.lemmas.List.{append_cancel_right}
use Rattle.std.proofs.lemmas.Bool.{cases_Bool}
use Rattle.std.proofs.lemmas.List.Elements.{All-nil, All-cons, All-append, All-from_recursion, All-head, All-tail}
use Rattle.std.specs.Prelude.{All, flat_map}
use Rattle.vfs_print.specs.Text.{IsPrintable, escaped, hex_digit, is_plain, quoted}

digit_printable : (n : ℕ) → n < 16 → IsPrintable (hex_digit n)
digit_printable n small = grind arith

plain_printable : (b : ℕ) → is_plain b ≡ true → IsPrintable b
plain_printable b plain = grind arith

below_16 : (b : ℕ) → b < 256 → b / 16 < 16
below_16 b small = grind arith

rest_below_16 : (b : ℕ) → b % 16 < 16
rest_below_16 b = grind arith

escaped_printable : (b : ℕ) → b < 256 → All IsPrintable (escaped b)
escaped_printable b small =
    ⊎_elim
    (λ plain. rw plain (All-from_recursion IsPrintable (b ∷ []) (plain_printable b plain, tt)))
    (λ other. rw other (All-from_recursion IsPrintable
    (92 ∷ 120 ∷ hex_digit (b / 16) ∷ hex_digit (b % 16) ∷ []) (
      (omega arith, omega arith),
      (
        (omega arith, omega arith),
        (digit_printable (b / 16) (below_16 b small), (digit_printable (b % 16) (rest_below_16 b), tt)),
      ),
    )))
    (cases_Bool (is_plain b))

bytes_printable : (bytes : List ℕ) → All (λ b. b < 256) bytes → All IsPrintable (flat_map escaped bytes)
bytes_printable [] small = All-nil IsPrintable
bytes_printable (b ∷ bytes) small =
    All-append IsPrintable (escaped b) (flat_map escaped bytes)
    (escaped_printable b (All-head (λ b. b < 256) b bytes small))
    (bytes_printable bytes (All-tail (λ b. b < 256) b bytes small))

pub quoted_printable : (bytes : List ℕ) → All (λ b. b < 256) bytes → All IsPrintable (quoted bytes)
quoted_printable bytes small =
    All-cons IsPrintable 34 (flat_map escaped bytes ++ 34 ∷ []) (omega arith, omega arith)
    (All-append IsPrintable (flat_map escaped bytes) (34 ∷ []) (bytes_printable bytes small)
    (All-from_recursion IsPrintable (34 ∷ []) ((omega arith, omega arith), tt)))

digit_once : (m n : ℕ) → m < 16 → n < 16 → hex_digit m ≡ hex_digit n → m ≡ n
digit_once m n m_small n_small same = grind arith

plain_no_backslash : (x : ℕ) → is_plain x ≡ true → x ≡ 92 → ⊥
plain_no_backslash x plain is = grind arith

-- what a byte is printed as says which it is, and what comes after it
first_once : (x y : ℕ) (r s : List ℕ) → x < 256 → y < 256 → escaped x ++ r ≡ escaped y ++ s
    → (x ≡ y) × (r ≡ s)
first_once x y r s x_small y_small same =
    ⊎_elim
    (λ (x_plain : is_plain x ≡ true). ⊎_elim
    (λ (y_plain : is_plain y ≡ true). let e : x ∷ r ≡ y ∷ s = rw (x_plain, y_plain) at same in
    (ap (λ l. get_or l 0 0) e, ap (drop 1) e))
    (λ (y_other : is_plain y ≡ false). let e : x ∷ r ≡ 92 ∷ 120 ∷ hex_digit (y / 16) ∷ hex_digit (y % 16) ∷ s =
    rw (x_plain, y_other) at same in
    elim (plain_no_backslash x x_plain (ap (λ l. get_or l 0 0) e)) [ ])
    (cases_Bool (is_plain y)))
    (λ (x_other : is_plain x ≡ false). ⊎_elim
    (λ (y_plain : is_plain y ≡ true). let e : 92 ∷ 120 ∷ hex_digit (x / 16) ∷ hex_digit (x % 16) ∷ r ≡ y ∷ s =
    rw (x_other, y_plain) at same in
    elim (plain_no_backslash y y_plain (sym (ap (λ l. get_or l 0 0) e))) [ ])
    (λ (y_other : is_plain y ≡ false). let e : 92 ∷ 120 ∷ hex_digit (x / 16) ∷ hex_digit (x % 16) ∷ r
    ≡ 92 ∷ 120 ∷ hex_digit (y / 16) ∷ hex_digit (y % 16) ∷ s = rw (x_other, y_other) at same in
    let high : x / 16 ≡ y / 16 = digit_once (x / 16) (y / 16) (below_16 x x_small) (below_16 y y_small)
    (ap (λ l. get_or l 2 0) e) in
    let low : x % 16 ≡ y % 16 = digit_once (x % 16) (y % 16) (rest_below_16 x) (rest_below_16 y)
    (ap (λ l. get_or l 3 0) e) in
    (grind arith, ap (drop 4) e))
    (cases_Bool (is_plain y)))
    (cases_Bool (is_plain x))

no_length : {n : ℕ} → 0 < n → 0 ≡ n → ⊥
no_length lt is = omega (arith, lt, is)

escaped_some : (y : ℕ) (s : List ℕ) → 0 < length (escaped y ++ s)
escaped_some y s =
    ⊎_elim
    (λ (plain : is_plain y ≡ true). rw plain (omega arith))
    (λ (other : is_plain y ≡ false). rw other (omega arith))
    (cases_Bool (is_plain y))

bytes_once : (a b : List ℕ) → All (λ x. x < 256) a → All (λ x. x < 256) b
    → flat_map escaped a ≡ flat_map escaped b → a ≡ b
bytes_once [] [] a_small b_small same = refl
bytes_once [] (y ∷ b) a_small b_small same =
    let none : 0 ≡ length (escaped y ++ flat_map escaped b) = ap length same in
    elim (no_length (escaped_some y (flat_map escaped b)) none) [ ]
bytes_once (x ∷ a) [] a_small b_small same =
    let none : 0 ≡ length (escaped x ++ flat_map escaped a) = sym (ap length same) in
    elim (no_length (escaped_some x (flat_map escaped a)) none) [ ]
bytes_once (x ∷ a) (y ∷ b) a_small b_small same =
    let first = first_once x y (flat_map escaped a) (flat_map escaped b)
    (All-head (λ x. x < 256) x a a_small) (All-head (λ x. x < 256) y b b_small) same in
    let rest = bytes_once a b (All-tail (λ x. x < 256) x a a_small) (All-tail (λ x. x < 256) y b b_small) first.1 in
    ap (λ n. n ∷ a) first.0 ∙ ap (λ l. y ∷ l) rest

pub quoted_once : (a b : List ℕ) → All (λ x. x < 256) a → All (λ x. x < 256) b
    → quoted a ≡ quoted b → a ≡ b
quoted_once a b a_small b_small same =
    bytes_once a b a_small b_small
    (append_cancel_right (flat_map escaped a) (flat_map escaped b) (34 ∷ []) (ap (drop 1) same))
