-- A record as bytes: a list of numbers, each in its width, the lowest byte first. Begin with `Table`, `bytes_of`
-- and `value_of`. (The table of the protocol is another: `form_of` of Ask.)
use Rattle.std.specs.Prelude.{ℕ, zero, suc, ◌+◌, ◌*◌, ◌^◌, ◌<◌, ◌%◌, ◌/◌, List, [], ◌∷◌, ◌++◌, drop, slice_index, ⊤}
use Rattle.vfs_wire.specs.declared.bytes.Field.{Field}
use Rattle.vfs_wire.specs.declared.bytes.Field.TheVariants.{One, Two, Four, Eight}

-- the n bytes of a number, the lowest first
unfoldable pub little : ℕ → ℕ → List ℕ
little zero x = []
little (suc n) x = x % 256 ∷ little n (x / 256)

-- the number that the first n bytes stand for, the lowest first; bytes that are not there count 0
unfoldable pub number : ℕ → List ℕ → ℕ
number zero bytes = 0
number (suc n) [] = 0
number (suc n) (b ∷ bytes) = b + 256 * number n bytes

-- the numbers in order, each in its width
abbrev pub row : List ℕ → List ℕ → List ℕ
row [] xs = []
row (w ∷ ws) [] = []
row (w ∷ ws) (x ∷ xs) = little w x ++ row ws xs

-- the numbers of these widths that the bytes from place i on stand for
abbrev pub numbers_at : ℕ → List ℕ → List ℕ → List ℕ
numbers_at i [] bytes = []
numbers_at i (w ∷ ws) bytes = number w (drop i bytes) ∷ numbers_at (i + w) ws bytes

-- the numbers of these widths that the bytes stand for
abbrev pub numbers : List ℕ → List ℕ → List ℕ
numbers ws bytes = numbers_at 0 ws bytes

-- one number for each width, within it
abbrev pub Fit : List ℕ → List ℕ → Type 0
Fit [] [] = ⊤
Fit [] (x ∷ xs) = ⊥
Fit (w ∷ ws) [] = ⊥
Fit (w ∷ ws) (x ∷ xs) = (x < 256 ^ w) × Fit ws xs

-- how the values of a type are spelled: the widths of a value's fields in bytes, the fields as
-- numbers in order, and the value of such numbers
pub record Table (R : Type 0) : Type 0 where
  pub widths : List ℕ
  pub fields : R → List ℕ
  pub made : List ℕ → R

-- a table with these widths, fields and way to make a value
abbrev pub table : {R : Type 0} → List ℕ → (R → List ℕ) → (List ℕ → R) → Table R
table widths fields made = record { widths = widths; fields = fields; made = made }

-- the bytes that stand for a value
abbrev pub bytes_of : {R : Type 0} → Table R → R → List ℕ
bytes_of t r = row t.widths (t.fields r)

-- the value that bytes begin with
abbrev pub value_of : {R : Type 0} → Table R → List ℕ → R
value_of t bytes = t.made (numbers t.widths bytes)

-- a number of this width by itself
abbrev pub lone_number : ℕ → Table ℕ
lone_number w = table (w ∷ []) (λ x. x ∷ []) (λ xs. slice_index xs 0)

-- ---- no more is of the promise: the rest is for proofs, and for contracts of parts

-- every number of the list is a byte
abbrev pub AreBytes : List ℕ → Type 0
AreBytes bytes = (i : ℕ) → slice_index bytes i < 256

-- the same, and what comes after them
abbrev pub row_onto : List ℕ → List ℕ → List ℕ → List ℕ
row_onto [] xs rest = rest
row_onto (w ∷ ws) [] rest = rest
row_onto (w ∷ ws) (x ∷ xs) rest = little w x ++ row_onto ws xs rest

-- the bytes that a field is written in
abbrev pub width_of : Field → ℕ
width_of (One x) = 1
width_of (Two x) = 2
width_of (Four x) = 4
width_of (Eight x) = 8

-- the number of a field
abbrev pub field_number : Field → ℕ
field_number (One x) = x
field_number (Two x) = x
field_number (Four x) = x
field_number (Eight x) = x

-- the bytes of the fields, and what comes after them
abbrev pub spelled_onto : List Field → List ℕ → List ℕ
spelled_onto [] rest = rest
spelled_onto (f ∷ fs) rest = little (width_of f) (field_number f) ++ spelled_onto fs rest

-- the bytes of the fields
abbrev pub spelled : List Field → List ℕ
spelled [] = []
spelled (f ∷ fs) = little (width_of f) (field_number f) ++ spelled fs

-- how many they are
abbrev pub total : List Field → ℕ
total [] = 0
total (f ∷ fs) = width_of f + total fs

-- each number is within its width
abbrev pub AllFit : List Field → Type 0
AllFit [] = ⊤
AllFit (f ∷ fs) = (field_number f < 256 ^ width_of f) × AllFit fs
