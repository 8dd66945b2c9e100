-- How the fields of a view that is written stand for what its callers see.
use Rattle.std.specs.Prelude.{◌<◌, List, ℕ, length}
use Rattle.vfs_segments.specs.Views.{Room, IsSpan, contents_with, room_of}
use Rattle.vfs_segments.specs.declared.views.SlicesMut.TheInside.{Inside}

-- the bytes of all segments, with the lent one in its place
abbrev pub all_of : Inside → List (List ℕ)
all_of v = contents_with v.segments.items v.place v.lent

-- the room that callers see
abbrev pub seen : Inside → Room
seen v = room_of v.span (all_of v)

-- the lent segment has a place in the list, and the span lies in the segments
pub record IsView (v : Inside) : Type 0 where
  pub place_in : v.place < length v.segments.items
  pub span_in : IsSpan v.span (all_of v)
