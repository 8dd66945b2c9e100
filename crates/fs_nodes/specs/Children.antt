-- What a directory holds: names in order of their places, and where each of them leads.
use Rattle.std.specs.Prelude.{ℕ, ◌-◌, ◌^◌, ◌==◌, Bool, true, false, not, List, [], ◌∷◌, length, map, Option, Some, None, option_map, find, if◌then◌else◌}
use Rattle.std.specs.List.{filter}
use Rattle.std.specs.Str.{bytes_eq}
use Rattle.fs_nodes.specs.declared.children.Child.{Child}
use Rattle.fs_nodes.specs.declared.kind.Kind.{Kind}
use Rattle.fs_nodes.specs.declared.kind.Kind.TheVariants as kind

-- the bits of `mode` that say what a node is
abbrev pub kind_bits : Kind → ℕ
kind_bits kind.Directory = 0o40000
kind_bits kind.File = 0o100000
kind_bits kind.Link = 0o120000
kind_bits kind.Fifo = 0o10000
kind_bits kind.Socket = 0o140000
kind_bits (kind.Character device) = 0o20000
kind_bits (kind.Block device) = 0o60000

abbrev pub is_directory : Kind → Bool
is_directory kind = kind_bits kind == 0o40000

abbrev pub is_file : Kind → Bool
is_file kind = kind_bits kind == 0o100000

abbrev pub is_link : Kind → Bool
is_link kind = kind_bits kind == 0o120000

-- a name, and the node that it leads to
pub record Link : Type 0 where
  pub name : List ℕ
  pub child : Child

-- the names of a directory, each at its place, in order of these, and the place of the next one. It lies
-- before all others, and no place is used twice: so a reading that goes on from a place gives what is
-- left of the names that were there, whatever came or went, and ends
pub record Children : Type 0 where
  pub links : List (ℕ × Link)
  pub next : ℕ

-- no names; the places go down from the largest that a signed number of 64 bits can be
abbrev pub no_children : Children
no_children = record { links = []; next = 2 ^ 63 - 1 }

abbrev pub is_named : (name : List ℕ) → (ℕ × Link) → Bool
is_named name link = bytes_eq link.1.name name

-- where a name leads
abbrev pub child_named : Children → (name : List ℕ) → Option Child
child_named children name = option_map (λ link. link.1.child) (find (is_named name) children.links)

-- how many of the names are directories'
abbrev pub directories_of : List (ℕ × Link) → ℕ
directories_of links = length (filter (λ link. is_directory link.1.child.kind) links)

-- where a name leads elsewhere, and keeps its place
abbrev pub relinked : (name : List ℕ) → Child → (ℕ × Link) → ℕ × Link
relinked name child link = if is_named name link then (link.0, record link.1 { child = child }) else link

-- a name, which is there or not, leads to a node from now on, or nowhere; a new one comes before the others
abbrev pub leading : (name : List ℕ) → (is_there : Bool) → Option Child → Children → Children
leading name is_there None c =
    record c { links = filter (λ link. not (is_named name link)) c.links }
leading name false (Some child) c =
    record { links = (c.next, record { name = name; child = child }) ∷ c.links; next = c.next - 1 }
leading name true (Some child) c = record c { links = map (relinked name child) c.links }
