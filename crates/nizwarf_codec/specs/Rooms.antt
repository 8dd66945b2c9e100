-- Which room memory has. A `Part` (`nizwarf_codec/src/memory.rt`) is memory of a slot in which replies are put together: a
-- writer over it, of which `whole` are all bytes. A `Memory` has two, and `answers` is that for answers to calls.
use Rattle.std.specs.Prelude.{◌≡◌, ◌≤◌, ℕ, length}
use Rattle.vfs_segments.specs.Written.{whole}
use Rattle.nizwarf_codec.specs.declared.memory.Part.{Part}

-- this memory has one segment, of at least that many bytes: such a room takes none
abbrev pub HasRoomFor : (room : ℕ) → Part → Type 0
HasRoomFor room p = (length p.writer.lengths ≡ 1) × (room ≤ length (whole p.writer))
