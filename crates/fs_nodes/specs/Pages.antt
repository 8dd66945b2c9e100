-- Pages of 4096 bytes, by their numbers. After the bytes that one has are zeros, and one that is not held has
-- none.
use Rattle.std.specs.Prelude.{◌≤◌, ◌^◌, ◌+◌, ◌-◌, ◌/◌, ◌%◌, ◌&&◌, ◌==◌, nat_le, nat_lt, not, ℕ, zero, suc, Bool, List, [], ◌∷◌, length, slice_index, Option, Some, None, IfSome, if◌then◌else◌, Vec, vec_capacity}
use Rattle.std.specs.List.{list_any, find}
use Rattle.std.specs.Ordering.{nat_cmp}
use Rattle.std.specs.Map.{lookup, remove_entry}
use Rattle.std.specs.BTreeMap.{is_at}
use Rattle.std.specs.BTreeSet.{insert_key}
use Rattle.std.specs.declared.alloc.Global.{Global}

abbrev pub Pages : Type 0
Pages = List (ℕ × Vec ℕ Global)

abbrev pub bytes_in : Option (Vec ℕ Global) → List ℕ
bytes_in None = []
bytes_in (Some page) = page.items

-- the bytes of a page: none where it is not held
abbrev pub page_at : Pages → (page : ℕ) → List ℕ
page_at pages n = bytes_in (lookup (is_at (nat_cmp n)) pages)

-- the byte at a place
unfoldable pub byte_at : Pages → (place : ℕ) → ℕ
byte_at pages k = slice_index (page_at pages (k / 4096)) (k % 4096)

-- the byte at a place, where these bytes are written over others from one on
abbrev pub byte_over : (at : ℕ) → List ℕ → (old : ℕ → ℕ) → (place : ℕ) → ℕ
byte_over at bytes old k =
    if nat_le at k && nat_lt k (at + length bytes) then slice_index bytes (k - at) else old k

-- a page that is held: it has room for 4096 bytes, and after those that it has are zeros
pub record IsPage (page : Vec ℕ Global) : Type 0 where
  pub within : length page.items ≤ 4096
  pub room : 4096 ≤ vec_capacity page

abbrev pub ArePages : Pages → Type 0
ArePages pages = (n : ℕ) → IfSome (lookup (is_at (nat_cmp n)) pages) (λ page. IsPage page)

-- what holds of pages: each is one, and they are not more than that many, which no memory has room for
pub record AreSound (pages : Pages) : Type 0 where
  pub each : ArePages pages
  pub few : length pages ≤ 2 ^ 50

-- ---- which are held

-- whether a page is among these
abbrev pub holds : (held : List ℕ) → (page : ℕ) → Bool
holds held n = list_any (is_at (nat_cmp n)) held

-- the first of these pages from one on
abbrev pub first_from : (held : List ℕ) → (page : ℕ) → Option ℕ
first_from held n = find (nat_le n) held

-- whether a page is none of those from one on, as far as one that stays
abbrev pub is_outside : (first end page : ℕ) → Bool
is_outside first end n = not (nat_le first n && nat_lt n end)

-- these pages and one more
abbrev pub with_page : (held : List ℕ) → (page : ℕ) → List ℕ
with_page held n = if holds held n then held else insert_key nat_cmp held n

-- these pages, and that many from one on
abbrev pub with_pages : (held : List ℕ) → (page count : ℕ) → List ℕ
with_pages held n zero = held
with_pages held n (suc k) = with_pages (with_page held n) (n + 1) k

-- how many of that many pages, from one on, are not among these
abbrev pub missing : (held : List ℕ) → (page count : ℕ) → ℕ
missing held n zero = 0
missing held n (suc k) = (if holds held n then 0 else 1) + missing held (n + 1) k

-- the first of that many pages, from one on, that can't be held where that many more can be, or the one after
-- them
abbrev pub reach : (held : List ℕ) → (free page count : ℕ) → ℕ
reach held free n zero = n
reach held free n (suc k) =
    if holds held n then reach held free (n + 1) k
    else if free == 0 then n
    else reach held (free - 1) (n + 1) k

-- without these pages, the last taken out first
abbrev pub undone : (added : List ℕ) → Pages → Pages
undone [] pages = pages
undone (n ∷ ns) pages = remove_entry (is_at (nat_cmp n)) (undone ns pages)
