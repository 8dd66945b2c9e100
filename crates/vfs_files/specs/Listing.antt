-- Items of a directory in memory, which are given one after another.
use Rattle.std.specs.Prelude.{◌≡◌, ◌≢◌, ◌<◌, ◌≤◌, ℕ, List, [], ◌∷◌, length, drop, slice_index, slice_range, Option, Some, None}
use Rattle.vfs_files.specs.Values.{Item}
use Rattle.vfs_files.specs.declared.listing.Kept.{Kept}

-- what an iterator with these items left gives: the first, and the others are left, or the end,
-- where none is left
abbrev pub GivesFirst : (old : List Item) → Option Item → (new : List Item) → Type 0
GivesFirst old (Some first) new = old ≡ first ∷ new
GivesFirst old None new = (old ≡ []) × (new ≡ [])

-- the items whose names are in these bytes, one after the other from a place on
abbrev pub items_from : (begin : ℕ) → (names : List ℕ) → List Kept → List Item
items_from begin names [] = []
items_from begin names (kept ∷ entries) =
    record {
      ino = kept.ino;
      offset = kept.offset;
      type_ = kept.type_;
      name = slice_range names begin kept.end;
    } ∷ items_from kept.end names entries

-- the names of these items are one after the other from a place to the end
abbrev pub AreInTurn : (begin : ℕ) → (names : List ℕ) → List Kept → Type 0
AreInTurn begin names [] = begin ≡ length names
AreInTurn begin names (kept ∷ entries) =
    (begin ≤ kept.end) × (kept.end ≤ length names) × AreInTurn kept.end names entries

-- what holds of a list: that many items were given, the names of those that are left are from a
-- place to the end, and no byte of a name is 0
pub record IsEntryList (names : List ℕ) (entries : List Kept) (given begin : ℕ) : Type 0 where
  pub within : given ≤ length entries
  pub in_turn : AreInTurn begin names (drop given entries)
  pub no_nul : (k : ℕ) → k < length names → slice_index names k ≢ 0
