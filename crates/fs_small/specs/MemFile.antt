-- A file in memory, seen as its bytes. What is read of bytes, and what a write of them leaves,
-- `vfs_files` says.
use Rattle.std.specs.Prelude.{ℕ, List, Option, Result}
use Rattle.vfs_files.specs.Bytes as bytes

-- how many bytes a file has at most
abbrev pub most_bytes : ℕ
most_bytes = 65536

-- a write of these bytes from off on: of those that fit all are written; or the file would become
-- longer, there is no memory for it, and the file stays
abbrev pub Writes :
    (old bytes : List ℕ) (off : ℕ) → Result ℕ (Option ℕ) → (new : List ℕ) → Type 0
Writes = bytes.Writes most_bytes
