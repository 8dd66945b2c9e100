-- How the files are kept: in order of their nodes, and an index of these by name.
use Rattle.std.specs.Prelude.{◌≡◌, ℕ, ◌<◌, false, Bool, List, Option, Some, option_map, find, position, Result, Ok, Err, Vec}
use Rattle.std.specs.List.{All, AllPairs}
use Rattle.std.specs.Ordering.{nat_cmp}
use Rattle.std.specs.Str.{bytes_eq}
use Rattle.std.specs.Cmp.Lexicographic.{slice_cmp}
use Rattle.std.specs.BTreeMap.{BTreeMap, get_by}
use Rattle.std.specs.declared.alloc.Global.{Global}
use Rattle.vfs_flags.specs.Numbers.{enomem}
use Rattle.vfs_files.specs.declared.entry.Entry.{Entry}
use Rattle.fs_small.specs.MemFs.{Stored, Stock, IsEntryOf, with_file}

abbrev pub is_named : (name : List ℕ) → Stored → Bool
is_named name file = bytes_eq file.name name

-- where the file of this name is
abbrev pub file_place : Stock → (name : List ℕ) → Option ℕ
file_place stock name = position (is_named name) stock.files

-- the node of the file of this name
abbrev pub node_named : List Stored → (name : List ℕ) → Option ℕ
node_named files name = option_map (λ file. file.node) (find (is_named name) files)

-- the node that the index has for a name
abbrev pub node_in : BTreeMap (Vec ℕ Global) ℕ → (name : List ℕ) → Option ℕ
node_in names name = get_by (λ key. slice_cmp nat_cmp name key.items) names

-- a file that was made before another one, and has another name
pub record ComesBefore (file later : Stored) : Type 0 where
  pub rises : file.node < later.node
  pub apart : is_named file.name later ≡ false

-- what holds of the files and the index: their nodes rise and are below the next one, no name is
-- there twice, and the index has each name that is there and no other
pub record AreIndexed
    (files : List Stored) (names : BTreeMap (Vec ℕ Global) ℕ) (next : ℕ) : Type 0 where
  pub order : AllPairs ComesBefore files
  pub before : All (λ file. file.node < next) files
  pub index : (name : List ℕ) → node_in names name ≡ node_named files name

-- a file of this name with these contents is added and its entry answered, or there was no memory
-- for it and the files stay
abbrev pub AddsWith : Stock → (name contents : List ℕ)
    → Result Entry (Option ℕ) → Stock → Type 0
AddsWith old name contents (Ok entry) new =
    IsEntryOf (record { node = old.next; name = name; contents = contents }) entry
    × (new ≡ with_file old (record { node = old.next; name = name; contents = contents }))
AddsWith old name contents (Err fault) new = (fault ≡ Some enomem) × (new ≡ old)
