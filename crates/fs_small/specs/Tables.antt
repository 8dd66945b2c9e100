-- What a tree that is only read holds.
use Rattle.std.specs.Prelude.{◌≡◌, ⊤, ℕ, Bool, true, false, List, [], ◌∷◌, length, codes, Option, Some, None, IsSome}
use Rattle.std.specs.Str.{bytes_eq}
use Rattle.vfs_wire.specs.declared.attributes.Attr.{Attr}
use Rattle.vfs_files.specs.Values.{name_text}
use Rattle.fs_small.specs.declared.tree.TreeItem.{TreeItem}

-- an item of a directory: its node, its kind as `d_type` of readdir(3), and its name
pub record Named : Type 0 where
  pub node : ℕ
  pub kind : ℕ
  pub name : List ℕ

-- the tables of a tree: the attributes of each node, the node of each name in a directory, the
-- bytes of each file, and the items of each directory
pub record Tables : Type 0 where
  pub attr : ℕ → Option Attr
  pub child : ℕ → List ℕ → Option ℕ
  pub contents : ℕ → Option (List ℕ)
  pub items : ℕ → Option (List Named)

-- the items, or none where the node is no directory
abbrev pub items_or_none : Option (List Named) → List Named
items_or_none (Some items) = items
items_or_none None = []

-- the items of a node, none where it is no directory
abbrev pub items_of : Tables → (node : ℕ) → List Named
items_of tables node = items_or_none (tables.items node)

-- the values of an item that was found
abbrev pub found_item : Option TreeItem → Option Named
found_item None = None
found_item (Some item) =
    Some (record { node = item.node; kind = item.kind; name = name_text item.name })

-- the file at a node has as many bytes as its attributes say
abbrev pub SizesAgree : Tables → Type 0
SizesAgree t =
    (node : ℕ) (attr : Attr) (bytes : List ℕ)
    → t.attr node ≡ Some attr → t.contents node ≡ Some bytes → attr.size ≡ length bytes

-- an item is `.` or `..` (the first two booleans), or a name of the directory whose node has attributes
abbrev pub IsListed : Bool → Bool → Tables → (parent : ℕ) → Named → Type 0
IsListed false false t parent item = (t.child parent item.name ≡ Some item.node) × IsSome (t.attr item.node)
IsListed _ _ t parent item = ⊤

abbrev pub AreListed : Tables → (parent : ℕ) → List Named → Type 0
AreListed t parent [] = ⊤
AreListed t parent (item ∷ items) =
    IsListed (bytes_eq item.name (codes ".")) (bytes_eq item.name (codes "..")) t parent item
    × AreListed t parent items

-- each item of a directory leads to a node of the tree by its name
abbrev pub ItemsAgree : Tables → Type 0
ItemsAgree t = (parent : ℕ) (items : List Named) → t.items parent ≡ Some items → AreListed t parent items

-- a name is found in directories only, and leads to a node that has attributes
abbrev pub ChildrenAgree : Tables → Type 0
ChildrenAgree t =
    (parent : ℕ) (name : List ℕ) (node : ℕ)
    → t.child parent name ≡ Some node → IsSome (t.items parent) × IsSome (t.attr node)
