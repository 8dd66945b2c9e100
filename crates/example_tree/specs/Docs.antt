-- The tree: hello.txt, readme.txt and the directory docs with a.txt.
use Rattle.std.specs.Prelude.{ℕ, ◌==◌, List, [], ◌∷◌, codes, Option, Some, None, if◌then◌else◌}
use Rattle.std.specs.Str.{bytes_eq}
use Rattle.vfs_wire.specs.declared.attributes.Attr.{Attr}
use Rattle.fs_small.specs.Tables.{Named, Tables}
use Rattle.fs_small.specs.Makers.{directory_attr, file_attr, directory_item, file_item}

-- the attributes of each node
abbrev pub attr_at : (node : ℕ) → Option Attr
attr_at node =
    if node == 1 then Some (directory_attr 1 3)
    else if node == 2 then Some (file_attr 2 13)
    else if node == 3 then Some (directory_attr 3 2)
    else if node == 4 then Some (file_attr 4 2)
    else if node == 5 then Some (file_attr 5 8)
    else None

-- the node of each name in the root
abbrev pub child_of_root : (name : List ℕ) → Option ℕ
child_of_root name =
    if bytes_eq name (codes "hello.txt") then Some 2
    else if bytes_eq name (codes "docs") then Some 3
    else if bytes_eq name (codes "readme.txt") then Some 5
    else None

-- the node of each name in a directory
abbrev pub child_of : (parent : ℕ) → (name : List ℕ) → Option ℕ
child_of parent name =
    if parent == 1 then child_of_root name
    else if parent == 3 then (if bytes_eq name (codes "a.txt") then Some 4 else None)
    else None

-- the bytes of each file
abbrev pub contents_at : (node : ℕ) → Option (List ℕ)
contents_at node =
    if node == 2 then Some (codes "hello, world\n")
    else if node == 4 then Some (codes "a\n")
    else if node == 5 then Some (codes "read me\n")
    else None

-- the items of each directory
abbrev pub items_at : (node : ℕ) → Option (List Named)
items_at node =
    if node == 1 then
    Some (directory_item 1 (codes ".") ∷ directory_item 1 (codes "..")
    ∷ file_item 2 (codes "hello.txt") ∷ directory_item 3 (codes "docs")
    ∷ file_item 5 (codes "readme.txt") ∷ [])
    else if node == 3 then
    Some (directory_item 3 (codes ".") ∷ directory_item 1 (codes "..")
    ∷ file_item 4 (codes "a.txt") ∷ [])
    else None

abbrev pub docs : Tables
docs = record { attr = attr_at; child = child_of; contents = contents_at; items = items_at }
