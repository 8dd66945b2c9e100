-- What a reader is to its callers: bytes, a count, and which of the bytes lie together.
use Rattle.std.specs.Prelude.{ℕ, ◌≡◌, ◌+◌, Bool, ◌&&◌, List, length, take, drop, nat_le}
use Rattle.vfs_segments.specs.Lengths.{lengths_before, lengths_from, lie_together}

-- The bytes that a reader has left, and how many it has given. `pieces` are the lengths of the
-- pieces of segments in which the bytes left lie, in order.
pub record Unread : Type 0 where
  pub left : List ℕ
  pub taken : ℕ
  pub pieces : List ℕ

-- ---- no more is of the promise but `IsUnread`, by `Reader::new`, and of the clause `memory` `are_together`:
-- the rest is for contracts of a reader's calls

-- a reader of these bytes that has given nothing
abbrev pub IsUnread : List ℕ → Unread → Type 0
IsUnread bytes u = (u.left ≡ bytes) × (u.taken ≡ 0)

-- whether the n bytes from place `at` of what is left are all there and lie in one segment
abbrev pub are_together : Unread → (at n : ℕ) → Bool
are_together u at n = nat_le (at + n) (length u.left) && lie_together at n u.pieces

-- two readers have the same bytes left and have given as many
pub record AreAlike (u v : Unread) : Type 0 where
  pub left : u.left ≡ v.left
  pub taken : u.taken ≡ v.taken

-- the reader u has given its next n bytes, and is v then: they are no more left, and count as taken
pub record AdvancesBy (u : Unread) (n : ℕ) (v : Unread) : Type 0 where
  pub left : v.left ≡ drop n u.left
  pub taken : v.taken ≡ u.taken + n

-- the same, n bytes on
abbrev pub advanced : Unread → ℕ → Unread
advanced u n = record {
  left = drop n u.left;
  taken = u.taken + n;
  pieces = lengths_from n u.pieces;
}

-- what a reader keeps when it is split after the next n bytes
abbrev pub first_of : Unread → ℕ → Unread
first_of u n = record {
  left = take n u.left;
  taken = u.taken;
  pieces = lengths_before n u.pieces;
}

-- what a split after the next n bytes answers
abbrev pub rest_of : Unread → ℕ → Unread
rest_of u n = record { left = drop n u.left; taken = 0; pieces = lengths_from n u.pieces }
