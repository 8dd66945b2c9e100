-- Memory that is cut into segments, seen as one list of bytes.
use Rattle.std.specs.Prelude.{ℕ, ◌+◌, List, ◌++◌, length, take, drop, map}
use Rattle.std.specs.Borrow.{Bor}
use Rattle.std.specs.List.{concat}
use Rattle.std.specs.declared.vec.Vec.{Vec}
use Rattle.std.specs.declared.alloc.Global.{Global}

-- the bytes of each segment that a reader reads
abbrev pub segments_of : List (Bor (List ℕ)) → List (List ℕ)
segments_of segments = map (λ s. s.now) segments

-- the bytes of each segment that a writer holds
abbrev pub contents : List (Vec ℕ Global) → List (List ℕ)
contents segments = map (λ v. v.items) segments

-- the flat bytes of segments: those of one segment after another
abbrev pub flat_bytes : List (List ℕ) → List ℕ
flat_bytes segments = concat segments

-- how many bytes each segment has
abbrev pub lengths_of : List (List ℕ) → List ℕ
lengths_of segments = map length segments

-- the list with some bytes in place of as many, from place at on
unfoldable pub with_bytes_at : ℕ → List ℕ → List ℕ → List ℕ
with_bytes_at at bs xs = take at xs ++ (bs ++ drop (at + length bs) xs)
