-- Messages byte by byte, as the protocol lays them out: what small callers read. No promise rests on them.
use Rattle.std.specs.Prelude.{ℕ, List, [], ◌∷◌, ◌++◌}

-- the number of one byte, as the four bytes of a field
abbrev pub four : ℕ → List ℕ
four n = n ∷ 0 ∷ 0 ∷ 0 ∷ []

-- the header of this request, of version 1, with that many bytes of payload
abbrev pub head_of : (request size : ℕ) → List ℕ
head_of request size = four request ++ (four 1 ++ four size)

-- queue 1 has 128 descriptors
abbrev pub num_128 : List ℕ
num_128 = four 1 ++ four 128
