-- What a writer is to its callers: the bytes that it has passed, those that are left, which are its
-- room, a held place, and how all of them are cut into segments.
use Rattle.std.specs.Prelude.{ℕ, ◌≡◌, ◌+◌, List, [], ◌++◌, length, take, drop}
use Rattle.vfs_segments.specs.Segments.{flat_bytes, lengths_of, with_bytes_at}
use Rattle.vfs_segments.specs.Lengths.{lengths_before, lengths_from}

-- The bytes that a writer has passed, those that are left, and the part of the passed ones that it
-- holds: `held` bytes from place `held_at` on. `lengths` are those of its segments, in
-- order.
pub record Written : Type 0 where
  pub passed : List ℕ
  pub left : List ℕ
  pub held_at : ℕ
  pub held : ℕ
  pub lengths : List ℕ

-- A writer keeps the bytes that it had passed, and those of its room are `room_after`, as many as
-- before, in segments of the same lengths. Where it is isn't said.
pub record Leaves (old : Written) (room_after : List ℕ) (new : Written) : Type 0 where
  pub kept : new.passed ++ new.left ≡ old.passed ++ room_after
  pub same_length : length room_after ≡ length old.left
  pub same_segments : new.lengths ≡ old.lengths

-- ---- no more is of the promise but `unwritten`, by `Writer::new`: the rest is for contracts of a writer's calls

-- all bytes of a writer, those passed and those left
abbrev pub whole : Written → List ℕ
whole w = w.passed ++ w.left

-- a writer that has passed nothing, over these segments
abbrev pub unwritten : List (List ℕ) → Written
unwritten segments = record {
  passed = [];
  left = flat_bytes segments;
  held_at = 0;
  held = 0;
  lengths = lengths_of segments;
}

-- the next bytes of the room are bs
abbrev pub wrote : Written → List ℕ → Written
wrote w bs = record w { passed = w.passed ++ bs; left = drop (length bs) w.left }

-- what a writer keeps when its room is cut after the next n bytes
abbrev pub first_room : Written → ℕ → Written
first_room w n = record w {
  left = take n w.left;
  lengths = lengths_before (length w.passed + n) w.lengths;
}

-- what a cut after the next n bytes answers: a writer that has passed nothing, over the rest
abbrev pub rest_room : Written → ℕ → Written
rest_room w n = record {
  passed = [];
  left = drop n w.left;
  held_at = 0;
  held = 0;
  lengths = lengths_from (length w.passed + n) w.lengths;
}

-- all bytes are left again, and nothing is passed or held
abbrev pub rewound : Written → Written
rewound w = record w {
  passed = [];
  left = w.passed ++ w.left;
  held_at = 0;
  held = 0;
}

-- the next n bytes are passed over and held
abbrev pub held_over : Written → ℕ → Written
held_over w n = record w {
  passed = w.passed ++ take n w.left;
  left = drop n w.left;
  held_at = length w.passed;
  held = n;
}

-- the held bytes are bs, and nothing is held any more
abbrev pub held_filled : Written → List ℕ → Written
held_filled w bs = record w { passed = with_bytes_at w.held_at bs w.passed; held = 0 }

-- The bytes bs were put into the next bytes of the room, and count as written. What comes after
-- them there is open.
pub record Moves (old : Written) (bs : List ℕ) (new : Written) : Type 0 where
  pub passed : new.passed ≡ old.passed ++ bs
  pub left : length new.left + length bs ≡ length old.left
  pub held_at : new.held_at ≡ old.held_at
  pub held : new.held ≡ old.held
  pub lengths : new.lengths ≡ old.lengths
