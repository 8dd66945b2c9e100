-- How a reader's fields stand for what its callers see.
use Rattle.std.specs.Prelude.{◌-◌, ◌^◌, ◌<◌, ◌≤◌, length, take, drop}
use Rattle.vfs_segments.specs.Segments.{flat_bytes, lengths_of}
use Rattle.vfs_segments.specs.Lengths.{lengths_before, lengths_from}
use Rattle.vfs_segments.specs.Unread.{Unread}
use Rattle.vfs_segments.specs.declared.reader.Reader.TheInside.{Inside}

-- the bytes between the two places, how far the first has come, and the pieces between them
abbrev pub unread_of : Inside → Unread
unread_of r = record {
  left = take (r.end - r.at) (drop r.at (flat_bytes r.segments));
  taken = r.at - r.start;
  pieces = lengths_before (r.end - r.at) (lengths_from r.at (lengths_of r.segments));
}

-- The places of a reader are in order and lie in its segments. That the last one is a number of 64
-- bits is here, since nothing else tells it of a field beside a list that is lent.
pub record IsReader (r : Inside) : Type 0 where
  pub after_start : r.start ≤ r.at
  pub before_end : r.at ≤ r.end
  pub within : r.end ≤ length (flat_bytes r.segments)
  pub small : r.end < 2 ^ 64
