-- Pages as a file that is written.
use Rattle.std.specs.Prelude.{◌≡◌, ◌≤◌, ◌<◌, ◌+◌, ◌^◌, ◌/◌, ℕ, true, List, length, take, Option, Result, Ok}
use Rattle.std.specs.Map.{keys_of}
use Rattle.fs_nodes.specs.Pages.{Pages, byte_at, byte_over, holds}

-- A write of these bytes: as many as `count` are written, at least one if the page of the first byte is held, and all
-- if the pages of all bytes are held.
pub record Fills (old : Pages) (bytes : List ℕ) (off : ℕ) (answer : Result ℕ (Option ℕ)) (new : Pages)
    : Type 0 where
  pub count : ℕ
  pub answered : answer ≡ Ok count
  pub within : count ≤ length bytes
  pub some : holds (keys_of old) (off / 4096) ≡ true → 0 < length bytes → 0 < count
  pub all :
      ((place : ℕ) → off ≤ place → place < off + length bytes → holds (keys_of old) (place / 4096) ≡ true)
      → off + length bytes ≤ 2 ^ 64 → count ≡ length bytes
  pub keys : keys_of new ≡ keys_of old
  pub bytes_are : (place : ℕ) → byte_at new place ≡ byte_over off (take count bytes) (byte_at old) place
