-- What a reading of a directory gives.
use Rattle.std.specs.Prelude.{ℕ, ◌+◌, ◌/◌, nat_lt, List, [], ◌∷◌, ◌++◌, map, take, codes}
use Rattle.std.specs.List.{filter}
use Rattle.vfs_files.specs.Values.{Item}
use Rattle.fs_nodes.specs.Children.{Link, kind_bits}
use Rattle.fs_nodes.specs.declared.node.Node.{Node}

-- a name as it is read, with what `readdir(3)` calls a node of its kind
abbrev pub link_item : (ℕ × Link) → Item
link_item link =
    let child = link.1.child in
    record { ino = child.node; offset = link.0; type_ = kind_bits child.kind / 0o10000; name = link.1.name }

-- a directory itself, and the one above
abbrev pub dot_items : (number parent : ℕ) → List Item
dot_items n parent =
    record { ino = n; offset = 1; type_ = 4; name = codes "." }
    ∷ record { ino = parent; offset = 2; type_ = 4; name = codes ".." } ∷ []

-- the items of a directory after an offset, itself, the one above, and its names, each at its place; at most as
-- many as that many bytes have place for: a record has 24 and more
abbrev pub items_after : (number : ℕ) → Node → (off size : ℕ) → List Item
items_after n node off size =
    take (size / 24 + 1) (filter (λ item. nat_lt off item.offset)
    (dot_items n node.parent ++ map link_item node.children.links))
