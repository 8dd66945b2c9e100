-- What readers and writers are once their next bytes were lent to a file.
use Rattle.std.specs.Prelude.{ℕ, List, [], ◌++◌, take, drop, length, Result, Ok, Err}
use Rattle.vfs_segments.specs.Unread.{Unread, advanced}
use Rattle.vfs_segments.specs.Written.{Written}

-- the bytes that a read moved into the room that it was lent: none after a fault
abbrev pub moved_bytes : {E : Type 0} → Result ℕ E → List ℕ → List ℕ
moved_bytes (Ok n) room = take n room
moved_bytes (Err e) room = []

-- a writer whose next bytes were lent and left as `room`, of which the moved ones count as written
abbrev pub taken_in : {E : Type 0} → Written → Result ℕ E → List ℕ → Written
taken_in w (Ok n) room = record w {
  passed = w.passed ++ take n room;
  left = drop n room ++ drop (length room) w.left;
}
taken_in w (Err e) room = record w { left = room ++ drop (length room) w.left }

-- a reader whose next bytes were lent, of which the moved ones are taken
abbrev pub taken_out : {E : Type 0} → Unread → Result ℕ E → Unread
taken_out u (Ok n) = advanced u n
taken_out u (Err e) = u
