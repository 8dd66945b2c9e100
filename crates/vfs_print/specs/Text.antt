-- Bytes as text between quotes.
use Rattle.std.specs.Prelude.{ℕ, List, [], ◌∷◌, ◌++◌, ◌+◌, ◌/◌, ◌%◌, ◌≤◌, Bool, nat_lt, not, ◌==◌, ◌&&◌, if◌then◌else◌, flat_map}

-- a digit in hex, of 0 to 15
abbrev pub hex_digit : (n : ℕ) → ℕ
hex_digit n = if nat_lt n 10 then 48 + n else 87 + n

-- whether a byte stands for itself between quotes: printable ASCII, but no quote and no backslash
abbrev pub is_plain : (byte : ℕ) → Bool
is_plain byte = nat_lt 31 byte && nat_lt byte 127 && not (byte == 34) && not (byte == 92)

-- a byte between quotes: itself, or `\x` and its two digits
abbrev pub escaped : (byte : ℕ) → List ℕ
escaped byte =
    if is_plain byte then byte ∷ []
    else 92 ∷ 120 ∷ hex_digit (byte / 16) ∷ hex_digit (byte % 16) ∷ []

-- bytes between quotes
abbrev pub quoted : (bytes : List ℕ) → List ℕ
quoted bytes = 34 ∷ (flat_map escaped bytes ++ 34 ∷ [])

-- a character that a terminal shows, and does nothing else with
abbrev pub IsPrintable : (c : ℕ) → Type 0
IsPrintable c = (32 ≤ c) × (c ≤ 126)
