-- The directories of the tests' file system.
use Rattle.std.specs.Prelude.{◌≡◌, List, [], ◌∷◌, Option, Some, None, map}
use Rattle.vfs_files.specs.Values.{Item}
use Rattle.vfs_bench.specs.declared.directory.ScriptItem.{ScriptItem}

-- the values of an item
abbrev pub item_said : ScriptItem → Item
item_said item = record {
  ino = item.ino;
  offset = item.offset;
  type_ = item.type_;
  name = item.name;
}

-- those of each of these items, in order
abbrev pub items_said : List ScriptItem → List Item
items_said items = map item_said items

-- a reading of a directory: the items that are left, and those that come after them, again and
-- again
pub record Reading : Type 0 where
  pub left : List Item
  pub again : List Item

-- the items that come next: those that are left, or, where none is, those that come again
abbrev pub next_of : List Item → List Item → List Item
next_of [] again = again
next_of (item ∷ left) again = item ∷ left

-- a taking gives the first item that comes next and leaves the others; where there is none it gives
-- the end, and nothing changes
abbrev pub GivesNext : Reading → Option Item → Reading → Type 0
GivesNext old None new = (next_of old.left old.again ≡ []) × (new ≡ old)
GivesNext old (Some item) new =
    (next_of old.left old.again ≡ item ∷ new.left) × (new.again ≡ old.again)
