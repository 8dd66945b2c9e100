-- A file of bytes in a vector, which are written up to a limit: what its calls may do.
use Rattle.std.specs.Prelude.{◌≡◌, ℕ, List, Option, Result}
use Rattle.vfs_files.specs.declared.bytes_mut.BytesMut.{BytesMut}
use Rattle.vfs_files.specs.Bytes.{Reads, Writes}

-- the bytes of the file
abbrev pub bytes_held : BytesMut → List ℕ
bytes_held file = file.bytes.now.items

-- the file has the same vector, whatever is in it, and the same limit
pub record Keeps (old new : BytesMut) : Type 0 where
  pub vector : new.bytes.ghost_name ≡ old.bytes.ghost_name
  pub limit : new.most ≡ old.most

-- a write of these bytes from off on
abbrev pub WritesFile :
    (old : BytesMut) (bytes : List ℕ) (off : ℕ) → Result ℕ (Option ℕ) → (new : BytesMut) → Type 0
WritesFile old bytes off answer new =
    Writes old.most (bytes_held old) bytes off answer (bytes_held new) × Keeps old new

-- a read from off on, into that much room
abbrev pub ReadsFile :
    (old : BytesMut) (off room : ℕ) → Result ℕ (Option ℕ) → (moved : List ℕ) → (new : BytesMut)
    → Type 0
ReadsFile old off room answer moved new =
    Reads (bytes_held old) off room answer moved (bytes_held new) × Keeps old new
