-- Bytes in memory, as a file: what one read moves, what a READ puts, and what a write leaves.
use Rattle.std.specs.Prelude.{◌≡◌, ◌<◌, ◌^◌, ◌+◌, ◌-◌, ℕ, List, [], ◌∷◌, ◌++◌, length, min, take, drop, replicate, Option, Some, Result, Ok, Err}
use Rattle.vfs_flags.specs.Numbers.{enomem}
use Rattle.vfs_segments.specs.Memory.{with_bytes_at}

-- the bytes from place off on, at most that many
abbrev pub part_of : List ℕ → (off most : ℕ) → List ℕ
part_of bytes off most = take most (drop off bytes)

-- a read of at most that many bytes: those that are there are moved, all of them
pub record Reads
    (old : List ℕ) (off room : ℕ) (answer : Result ℕ (Option ℕ)) (moved new : List ℕ) : Type 0 where
  pub answered : answer ≡ Ok (length moved)
  pub there : moved ≡ part_of old off room
  pub small : length old < 2 ^ 64
  pub same : new ≡ old

-- how many bytes are put into a reply at most
abbrev pub most_put : (room size : ℕ) → ℕ
most_put room size = min (min size (2 ^ 32 - 17)) room

-- bytes were put into a reply: all that are there from off on, as many as may be put
pub record PutsPart
    (old : List ℕ) (room size off : ℕ) (result : Result ℕ (Option ℕ)) (bytes : List ℕ)
    : Type 0 where
  pub answered : result ≡ Ok (length bytes)
  pub part : bytes ≡ part_of old off (most_put room size)

-- the beginning of these bytes that ends within a limit, where the first goes to off
abbrev pub fitting : (most off : ℕ) → List ℕ → List ℕ
fitting most off bytes = take (most - off) bytes

-- at least that many bytes: zeros after the end where there are fewer
abbrev pub lengthened : List ℕ → ℕ → List ℕ
lengthened old len = old ++ replicate (len - length old) 0

-- these bytes written over others from off on; where there are none, the others stay
abbrev pub written : List ℕ → (off : ℕ) → List ℕ → List ℕ
written old off [] = old
written old off (b ∷ bs) =
    with_bytes_at off (b ∷ bs) (lengthened old (off + length (b ∷ bs)))

-- these bytes, written from off on, make others longer
pub record Lengthens (old : List ℕ) (off : ℕ) (bytes : List ℕ) : Type 0 where
  pub some : 0 < length bytes
  pub longer : length old < off + length bytes

-- a write of these bytes from off on, up to a limit: of those that fit all are written; or they
-- would make the others longer, there is no memory for that, and the others stay
abbrev pub Writes :
    (most : ℕ) (old bytes : List ℕ) (off : ℕ) → Result ℕ (Option ℕ) → (new : List ℕ) → Type 0
Writes most old bytes off (Ok count) new =
    (count ≡ length (fitting most off bytes)) × (new ≡ written old off (fitting most off bytes))
Writes most old bytes off (Err fault) new =
    (fault ≡ Some enomem) × Lengthens old off (fitting most off bytes) × (new ≡ old)
