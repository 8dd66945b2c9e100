-- What is left of the room of a writer through which no reply was put.
use Rattle.std.specs.Prelude.{◌≡◌, length}
use Rattle.vfs_segments.specs.Written.{Written, whole}

-- a writer has as much room as it had, in segments of the same lengths; what is there isn't said
abbrev pub KeepsRoom : (old new : Written) → Type 0
KeepsRoom old new = (length (whole new) ≡ length (whole old)) × (new.lengths ≡ old.lengths)
