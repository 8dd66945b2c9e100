-- How much a node weighs after a change.
use Rattle.std.proofs.Common.{◌≡◌, ◌≤◌, ◌+◌, ◌*◌, ◌/◌, ◌==◌, ◌||◌, ℕ, Bool, true, false, not, List, [], ◌∷◌, length, filter, nat_lt, bit_and, ◌⊎◌, ⊎_elim, if◌then◌else◌, codes, refl, arith}
use Rattle.std.specs.Int.{div_ceil}
use Rattle.vfs_wire.specs.declared.attributes.SetattrIn.{SetattrIn}
use Rattle.fs_nodes.specs.Contents.{Contents, resized, allocated, punched, zeroed, fallocated, pages_over}
use Rattle.fs_nodes.specs.Pages.{is_outside, reach}
use Rattle.fs_nodes.proofs.Counts.{held_within}
use Rattle.fs_nodes.specs.Node.{weight, stripped, rewritten, set_attr, takes_ids, is_other, truncates, opened, overwritten}
use Rattle.fs_nodes.specs.Xattrs.{Xattr, xattr_bytes, without_xattr}
use Rattle.fs_nodes.specs.declared.node.Node.{Node}
use Rattle.fs_nodes.specs.declared.node.Time.{Time}
use Rattle.fs_nodes.proofs.Attributes.{bytes_removed}

-- extended attributes without one of them take no more bytes
pub without_xattr_bytes : (xattrs : List Xattr) (name : List ℕ)
    → xattr_bytes (without_xattr xattrs name) ≤ xattr_bytes xattrs
without_xattr_bytes xattrs name = omega (arith, bytes_removed xattrs name)

-- nor do those without the capabilities, and so a node without privileges
pub stripped_bytes : (caps ids : Bool) (node : Node)
    → xattr_bytes (stripped caps ids node).xattrs ≤ xattr_bytes node.xattrs
stripped_bytes true ids node = without_xattr_bytes node.xattrs (codes "security.capability")
stripped_bytes false ids node = omega arith

-- of some there are no more
length-filter-le : (p : ℕ → Bool) (xs : List ℕ) → length (filter p xs) ≤ length xs
length-filter-le p [] = omega arith
length-filter-le p (x ∷ xs) = by (p x) (length-filter-le p xs)
  where
    by : (t : Bool) → length (filter p xs) ≤ length xs
        → length (if t then x ∷ filter p xs else filter p xs) ≤ length (x ∷ xs)
    by true more = omega (arith, more)
    by false more = omega (arith, more)

-- contents of another size hold no more pages
pub resized_holds : (c : Contents) (size : ℕ) → length (resized c size).held ≤ length c.held
resized_holds c size = by (nat_lt (length c.bytes) size)
  where
    by : (t : Bool)
        → length (if t then c.held else filter (λ n. nat_lt n (div_ceil size 4096)) c.held)
        ≤ length c.held
    by true = omega arith
    by false = length-filter-le (λ n. nat_lt n (div_ceil size 4096)) c.held

-- nor do those with a hole more
punched_holds : (c : Contents) (off len : ℕ)
    → length (punched c off len).held ≤ length c.held
punched_holds c off len =
    length-filter-le (is_outside (div_ceil off 4096) ((off + len) / 4096)) c.held

-- FALLOCATE has them hold no more than there may be: a hole takes none, other bytes end where pages can be held
pub fallocated_holds : (c : Contents) (mode off len free size : ℕ)
    → ((mode == 3) ≡ false → off + len ≤ 4096 * reach c.held free (off / 4096) (pages_over off size))
    → length (fallocated mode off len c).held ≤ length c.held + free
fallocated_holds c mode off len free size = by (mode == 3) (bit_and mode 16 == 16)
  where
    by : (hole zeros : Bool)
        → (hole ≡ false → off + len ≤ 4096 * reach c.held free (off / 4096) (pages_over off size))
        → let held : Contents = allocated c off len (if bit_and mode 1 == 1 then 0 else off + len) in
        let new : Contents = if hole then punched c off len else if zeros then zeroed held off len else held in
        length new.held ≤ length c.held + free
    by true zeros ends = omega (arith, punched_holds c off len)
    by false true ends = omega (arith, held_within c.held off len free size (ends refl))
    by false false ends = omega (arith, held_within c.held off len free size (ends refl))

-- SETATTR
pub set_attr_weighs : (now : Time) (node : Node) (attr : SetattrIn) (is_open : Bool) (valid : ℕ)
    → weight (set_attr now node attr is_open valid) ≤ weight node
set_attr_weighs now node attr is_open valid = omega (
  arith,
  by (bit_and valid 8 == 8),
  stripped_bytes (takes_ids node.kind valid || bit_and valid 8 == 8) true node,
)
  where
    by : (t : Bool)
        → length (if t then resized node.contents attr.size else node.contents).held
        ≤ length node.contents.held
    by true = resized_holds node.contents attr.size
    by false = omega arith

-- OPEN
pub opened_weighs : (now : Time) (uid : ℕ) (kill : Bool) (node : Node) (flags : ℕ)
    → weight (opened now uid kill node flags) ≤ weight node
opened_weighs now uid kill node flags = by (truncates node flags)
  where
    by : (t : Bool)
        → weight (if t then rewritten now true (kill || is_other uid) node (resized node.contents 0) else node)
        ≤ weight node
    by true = omega (arith, resized_holds node.contents 0, stripped_bytes true true node)
    by false = omega arith

-- WRITE, of bytes that end where pages are held or can be
pub overwritten_weighs : (now : Time) (delayed kill : Bool) (node : Node) (off : ℕ) (bytes : List ℕ)
    (free size : ℕ)
    → off + length bytes ≤ 4096 * reach node.contents.held free (off / 4096) (pages_over off size)
    ⊎ (bytes ≡ [])
    → weight (overwritten now delayed kill node off bytes) ≤ weight node + free * 4096
overwritten_weighs now delayed kill node off [] free size within = omega arith
overwritten_weighs now delayed kill node off (b ∷ bs) free size within =
    let ends : off + length (b ∷ bs)
    ≤ 4096 * reach node.contents.held free (off / 4096) (pages_over off size) =
    ⊎_elim (λ h. h) (λ none. cc) within in
    omega (
      arith,
      held_within node.contents.held off (length (b ∷ bs)) free size ends,
      stripped_bytes (not delayed) kill node,
    )
