-- Names by the place of their first 0: the words of `Values` for a place that is known.
use Rattle.std.specs.Prelude.{ℕ, List, Option, Some, None, ◌+◌, ◌==◌, length, take, drop, if◌then◌else◌, option_map, option_and_then}

-- the bytes before the first 0, where it is at this place and is the last byte
abbrev pub name_to : List ℕ → Option ℕ → Option (List ℕ)
name_to bytes place =
    option_and_then (λ i. if i + 1 == length bytes then Some (take i bytes) else None) place

-- what is before a place and what comes after it, where there is such a place
abbrev pub cut_at : List ℕ → Option ℕ → Option (List ℕ × List ℕ)
cut_at bytes place = option_map (λ i. (take i bytes, drop (i + 1) bytes)) place
