-- How a writer's fields stand for what its callers see.
use Rattle.std.specs.Prelude.{ℕ, ◌≡◌, ◌+◌, ◌≤◌, List, length, take, drop}
use Rattle.vfs_segments.specs.Segments.{flat_bytes, lengths_of}
use Rattle.vfs_segments.specs.Written.{Written}
use Rattle.vfs_segments.specs.declared.writer.Writer.TheInside.{Inside}

-- all bytes of a writer's segments
abbrev pub room_bytes : Inside → List ℕ
room_bytes w = flat_bytes w.segments

-- the bytes before the place and from it on, the held place, and the segments' lengths
abbrev pub written_of : Inside → Written
written_of w = record {
  passed = take w.at (room_bytes w);
  left = drop w.at (room_bytes w);
  held_at = w.held_at;
  held = w.held;
  lengths = lengths_of w.segments;
}

-- the place of a writer lies in its segments, and what it holds lies before the place
pub record IsWriter (w : Inside) : Type 0 where
  pub all : w.end ≡ length (room_bytes w)
  pub within : w.at ≤ w.end
  pub held_in : w.held_at + w.held ≤ w.at
