-- What views of segments are to their users: pieces, and what is around them.
use Rattle.std.specs.Prelude.{ℕ, ◌≡◌, ◌+◌, ◌-◌, ◌==◌, ◌<◌, ◌≤◌, List, [], ◌∷◌, ◌++◌, length, take, drop, map, slice_set, slice_index_or, if◌then◌else◌, Result, Ok, Err}
use Rattle.std.specs.List.{concat}
use Rattle.std.specs.declared.vec.Vec.{Vec}
use Rattle.std.specs.declared.alloc.Global.{Global}
use Rattle.vfs_segments.specs.Memory.{contents}
use Rattle.vfs_segments.specs.declared.span.Span.{Span}

-- the bytes of segments, where one of them is beside the list
abbrev pub contents_with : List (Vec ℕ Global) → ℕ → Vec ℕ Global → List (List ℕ)
contents_with segments place lent = slice_set (contents segments) place lent.items

-- some segments, the first without its first `skip` bytes, the last up to its place `end`
abbrev pub cut : ℕ → ℕ → List (List ℕ) → List (List ℕ)
cut skip end [] = []
cut skip end (s ∷ []) = drop skip (take end s) ∷ []
cut skip end (s ∷ (t ∷ ts)) = drop skip s ∷ cut 0 end (t ∷ ts)

-- the pieces of a span of segments, one of each segment that it touches
abbrev pub pieces_of : Span → List (List ℕ) → List (List ℕ)
pieces_of span xs = cut span.skip span.end (take span.count (drop span.first xs))

-- a span lies in these segments and has as many bytes as it says: it begins and ends inside a
-- segment, and ends where it begins or later
pub record IsSpan (span : Span) (xs : List (List ℕ)) : Type 0 where
  pub some : 0 < span.count
  pub within : span.first + span.count ≤ length xs
  pub skip_in : span.skip ≤ length (slice_index_or xs span.first [])
  pub end_in : span.end ≤ length (slice_index_or xs (span.first + span.count - 1) [])
  pub ordered : span.count ≡ 1 → span.skip ≤ span.end
  pub total : span.total ≡ length (concat (pieces_of span xs))

-- Room that is lent: its pieces, the bytes of all segments before them, the rest of the last
-- piece's segment, and the bytes of the segments after that; and the length of each segment.
pub record Room : Type 0 where
  pub before : List ℕ
  pub pieces : List (List ℕ)
  pub rest : List ℕ
  pub after : List ℕ
  pub lengths : List ℕ

-- the bytes of all segments of a room
abbrev pub whole_of : Room → List ℕ
whole_of r = r.before ++ (concat r.pieces ++ (r.rest ++ r.after))

-- two rooms over the same segments, with other bytes in their pieces at most
pub record IsSameRoom (old new : Room) : Type 0 where
  pub before : new.before ≡ old.before
  pub shape : map length new.pieces ≡ map length old.pieces
  pub rest : new.rest ≡ old.rest
  pub after : new.after ≡ old.after
  pub lengths : new.lengths ≡ old.lengths

-- the room of some segments, by the parts of a span
abbrev pub room : ℕ → ℕ → ℕ → ℕ → List (List ℕ) → Room
room first count skip end xs = record {
  before = concat (take first xs) ++ take skip (slice_index_or xs first []);
  pieces = cut skip end (take count (drop first xs));
  rest = drop end (slice_index_or xs (first + count - 1) []);
  after = concat (drop (first + count) xs);
  lengths = map length xs;
}

-- the room of a span of segments
abbrev pub room_of : Span → List (List ℕ) → Room
room_of span xs = room span.first span.count span.skip span.end xs

-- the room once the bytes w, as many as piece i has, were written over it
abbrev pub with_piece : Room → ℕ → List ℕ → Room
with_piece v i w = record v { pieces = slice_set v.pieces i w }

-- a list with another one written over its front, of the length that it had
abbrev pub refilled : List ℕ → List ℕ → List ℕ
refilled old w = take (length old) (w ++ drop (length w) old)

-- The room once bytes w of any number were written from the beginning of piece i on. No borrow
-- ends with other bytes than the piece has, so it is `with_piece` in every run.
unfoldable pub with_any_piece : Room → ℕ → List ℕ → Room
with_any_piece v i w =
    let piece = slice_index_or v.pieces i [] in
    let all = refilled (if i + 1 == length v.pieces then piece ++ v.rest else piece) w in
    record v {
      pieces = slice_set v.pieces i (take (length piece) all);
      rest = if i + 1 == length v.pieces then drop (length piece) all else v.rest;
    }

-- the bytes that a read moved into the room: none after a fault
abbrev pub moved : {E : Type 0} → Result ℕ E → Room → List ℕ
moved (Ok n) v = take n (concat v.pieces)
moved (Err e) v = []
