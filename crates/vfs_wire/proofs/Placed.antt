-- What a slice begins with after a part of it was written.
use Rattle.std.proofs.Common.{◌≡◌, ℕ, ◌+◌, ◌-◌, ◌≤◌, List, [], ◌∷◌, ◌++◌, take, drop, length, refl, ap, sym, ◌∙◌, arith, append_assoc, length-append}
use Rattle.std.proofs.lemmas.List.{take_at, length-take-le, drop-drop}
use Rattle.std.specs.Prelude.{sum}
use borrow.Rule.Slice.PartMut.{put_mid, post_of}
use Rattle.vfs_wire.specs.declared.bytes.Field.{Field}
use Rattle.vfs_wire.specs.FieldLaws.{numbers_at-take}
use Rattle.vfs_wire.specs.Fields.{numbers, numbers_at, little, width_of, field_number, spelled, spelled_onto, row, row_onto}

-- the part that was written, after what stood before it
pub placed : (i k : ℕ) (xs ys : List ℕ) → i + k ≤ length xs → length ys ≡ k → take (i + k) (put_mid i (i + k - i) xs ys) ≡ take i xs ++ ys
placed i k xs ys long wide =
    let front : length (take i xs) ≡ i = length-take-le i xs (omega arith) in
    let regrouped : put_mid i (i + k - i) xs ys ≡ (take i xs ++ ys) ++ post_of i (i + k - i) xs = sym (append_assoc (take i xs) ys (post_of i (i + k - i) xs)) in
    ap (take (i + k)) regrouped ∙ take_at (take i xs ++ ys) (post_of i (i + k - i) xs) (i + k) (omega (arith, length-append (take i xs) ys))

pub spelled-append : (fs : List Field) (rest : List ℕ) → spelled fs ++ rest ≡ spelled_onto fs rest
spelled-append [] rest = refl
spelled-append (f ∷ fs) rest = append_assoc (little (width_of f) (field_number f)) (spelled fs) rest ∙ ap (λ (t : List ℕ). little (width_of f) (field_number f) ++ t) (spelled-append fs rest)

-- numbers read after the first k bytes
pub numbers_at-drop : (i k : ℕ) (ws bytes : List ℕ) → numbers_at i ws (drop k bytes) ≡ numbers_at (k + i) ws bytes
numbers_at-drop i k [] bytes = refl
numbers_at-drop i k (w ∷ ws) bytes =
    let next : k + (i + w) ≡ k + i + w = omega arith in
    rw (drop-drop i k bytes, numbers_at-drop (i + w) k ws bytes, next) refl

pub ruleset spelled_front = spelled-append

pub numbers-drop : (k : ℕ) (ws bytes : List ℕ) → numbers ws (drop k bytes) ≡ numbers_at k ws bytes
numbers-drop k ws bytes = rw numbers_at-drop (ap (λ (i : ℕ). numbers_at i ws bytes) (omega arith))

pub row-append : (ws xs rest : List ℕ) → row ws xs ++ rest ≡ row_onto ws xs rest
row-append [] xs rest = refl
row-append (w ∷ ws) [] rest = refl
row-append (w ∷ ws) (x ∷ xs) rest = append_assoc (little w x) (row ws xs) rest ∙ ap (λ (t : List ℕ). little w x ++ t) (row-append ws xs rest)

-- numbers read in the n bytes from place k on
pub numbers-part : (k n : ℕ) (ws bytes : List ℕ) → sum ws ≤ n → numbers ws (take n (drop k bytes)) ≡ numbers_at k ws bytes
numbers-part k n ws bytes h = numbers_at-take 0 n ws (drop k bytes) (omega arith) ∙ numbers-drop k ws bytes
