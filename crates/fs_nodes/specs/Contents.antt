-- The bytes of a file, and which of its pages are held.
use Rattle.std.specs.Prelude.{◌≡◌, ◌≤◌, ◌<◌, ◌+◌, ◌-◌, ◌*◌, ◌/◌, ◌==◌, bit_and, ℕ, min, max, nat_lt, List, [], ◌∷◌, ◌++◌, length, take, drop, replicate, map, Option, Some, None, Result, Ok, Err, if◌then◌else◌}
use Rattle.std.specs.List.{filter, range_with_len}
use Rattle.std.specs.Int.{div_ceil}
use Rattle.std.specs.Map.{keys_of}
use Rattle.vfs_flags.specs.Numbers.{enomem}
use Rattle.vfs_files.specs.Bytes.{fitting}
use Rattle.vfs_files.specs.Bytes as flat
use Rattle.fs_nodes.specs.Pages.{Pages, byte_at, first_from, is_outside, with_pages, missing, reach}

-- the bytes, whatever holds them, and the numbers of the pages that are held, in order. A page has 4096
-- bytes; it may lie after the end
pub record Contents : Type 0 where
  pub bytes : List ℕ
  pub held : List ℕ

abbrev pub no_contents : Contents
no_contents = record { bytes = []; held = [] }

-- cut off after that many bytes, or zeros up to that many, which take no page
abbrev pub resized : Contents → (size : ℕ) → Contents
resized c size = record {
  bytes = take size c.bytes ++ replicate (size - length c.bytes) 0;
  held = if nat_lt (length c.bytes) size then c.held
      else filter (λ n. nat_lt n (div_ceil size 4096)) c.held;
}

-- how many pages that many bytes from off on lie in
abbrev pub pages_over : (off len : ℕ) → ℕ
pages_over off len = div_ceil (off + len) 4096 - off / 4096

-- how many of these are not held
abbrev pub lacking : Contents → (off len : ℕ) → ℕ
lacking c off len = missing c.held (off / 4096) (pages_over off len)

-- some of these bytes lie in pages that are not held
pub record Lacks (c : Contents) (off len : ℕ) : Type 0 where
  pub some : 0 < len
  pub pages : 0 < lacking c off len

-- where that many bytes end, the first place from off on in this page or after it
abbrev pub place_in : (size off : ℕ) → (page : Option ℕ) → Option ℕ
place_in size off None = None
place_in size off (Some n) =
    let place = max (4096 * n) off in if nat_lt place size then Some place else None

-- the first place from off on, before the end, in a page that is held
abbrev pub data_from : Contents → (off : ℕ) → Option ℕ
data_from c off = place_in (length c.bytes) off (first_from c.held (off / 4096))

-- the first from off on that lies in none, or the end
abbrev pub hole_from : Contents → (off : ℕ) → ℕ
hole_from c off =
    min (length c.bytes)
    (max off (4096 * reach c.held 0 (off / 4096) (pages_over off (length c.bytes - off))))

-- the pages that that many bytes from off on lie in are held; zeros are added where there are fewer bytes than
-- at least that many
abbrev pub allocated : Contents → (off len least : ℕ) → Contents
allocated c off len least = record {
  bytes = flat.lengthened c.bytes least;
  held = with_pages c.held (off / 4096) (pages_over off len);
}

-- zeros in place of that many bytes from off on, as far as there are bytes; the pages that lie in them whole go
abbrev pub punched : Contents → (off len : ℕ) → Contents
punched c off len = record {
  bytes = take off c.bytes ++ (replicate (min len (length c.bytes - off)) 0 ++ drop (off + len) c.bytes);
  held = filter (is_outside (div_ceil off 4096) ((off + len) / 4096)) c.held;
}

-- zeros in place of that many bytes from off on, as far as there are bytes; their pages stay
abbrev pub zeroed : Contents → (off len : ℕ) → Contents
zeroed c off len = record c { bytes = (punched c off len).bytes }

-- what FALLOCATE makes of that many bytes from off on: a hole by mode 3 (PUNCH_HOLE with KEEP_SIZE); else their
-- pages are held, the file reaches to their end, unless by KEEP_SIZE (1), and they are zeros by ZERO_RANGE (16)
abbrev pub fallocated : (mode off len : ℕ) → Contents → Contents
fallocated mode off len c =
    let held = allocated c off len (if bit_and mode 1 == 1 then 0 else off + len) in
    if mode == 3 then punched c off len
    else if bit_and mode 16 == 16 then zeroed held off len else held

-- these bytes written from off on, in pages that are held then
abbrev pub written : Contents → (off : ℕ) → List ℕ → Contents
written c off [] = c
written c off (b ∷ bs) = record {
  bytes = flat.written c.bytes off (b ∷ bs);
  held = with_pages c.held (off / 4096) (pages_over off (length (b ∷ bs)));
}

-- a write of these bytes, up to a limit: of those that fit all are written; or one of their pages is not
-- held, there is no memory for it, and all stays
abbrev pub Writes :
    (most : ℕ) (old : Contents) (bytes : List ℕ) (off : ℕ) → Result ℕ (Option ℕ) → (new : Contents)
    → Type 0
Writes most old bytes off (Ok count) new =
    (count ≡ length (fitting most off bytes)) × (new ≡ written old off (fitting most off bytes))
Writes most old bytes off (Err fault) new =
    (fault ≡ Some enomem) × Lacks old off (length (fitting most off bytes)) × (new ≡ old)

-- ---- how they are kept

abbrev pub bytes_of : Pages → (size : ℕ) → List ℕ
bytes_of pages size = map (byte_at pages) (range_with_len 0 size)

abbrev pub contents_of : Pages → (size : ℕ) → Contents
contents_of pages size = record { bytes = bytes_of pages size; held = keys_of pages }

-- zeros come after the end
abbrev pub AreZeroAfter : Pages → (size : ℕ) → Type 0
AreZeroAfter pages size = (place : ℕ) → size ≤ place → byte_at pages place ≡ 0
