-- Pages as a file that is read, and has no end.
use Rattle.std.specs.Prelude.{◌≡◌, ◌<◌, ◌+◌, ℕ, List, length, slice_index, Option, Result, Ok}
use Rattle.fs_nodes.specs.Pages.{Pages, byte_at}

-- a read: bytes of one page are moved, at least one where there is room
pub record ReadsSome (old : Pages) (off room : ℕ) (answer : Result ℕ (Option ℕ)) (moved : List ℕ)
    (new : Pages) : Type 0 where
  pub answered : answer ≡ Ok (length moved)
  pub some : 0 < room → 0 < length moved
  pub bytes : (i : ℕ) → i < length moved → slice_index moved i ≡ byte_at old (off + i)
  pub same : new ≡ old
