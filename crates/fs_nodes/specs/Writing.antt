-- A write into a node.
use Rattle.std.specs.Prelude.{◌≡◌, ℕ, Bool, List, length, Option, Some, Result, Ok, Err}
use Rattle.vfs_flags.specs.Numbers.{enomem}
use Rattle.vfs_files.specs.Bytes.{fitting}
use Rattle.fs_nodes.specs.Contents.{Lacks}
use Rattle.fs_nodes.specs.Node.{overwritten}
use Rattle.fs_nodes.specs.declared.node.Node.{Node}
use Rattle.fs_nodes.specs.declared.node.Time.{Time}

-- a write of these bytes into a node, up to a limit: of those that fit all are written; or one of their
-- pages is not held, there is no memory for it, and the node stays
abbrev pub Overwrites :
    (most : ℕ) (now : Time) (delayed kill : Bool) (old : Node) (off : ℕ) (bytes : List ℕ)
    → Result ℕ (Option ℕ) → (new : Node) → Type 0
Overwrites most now delayed kill old off bytes (Ok count) new =
    (count ≡ length (fitting most off bytes))
    × (new ≡ overwritten now delayed kill old off (fitting most off bytes))
Overwrites most now delayed kill old off bytes (Err fault) new =
    (fault ≡ Some enomem) × (new ≡ old) × Lacks old.contents off (length (fitting most off bytes))
