-- The commands of IOCTL by which the flags of chattr(1) are asked for and set. No node has a flag.
use Rattle.std.specs.Prelude.{ℕ, ◌==◌, ◌||◌, not, nat_lt, [], ◌∷◌, Option, if◌then◌else◌}
use Rattle.vfs_flags.specs.Numbers.{einval, eopnotsupp}
use Rattle.fs_nodes.specs.Children.{is_directory, is_file}
use Rattle.fs_nodes.specs.Refusals.{enotty, first_of}
use Rattle.fs_nodes.specs.declared.node.Node.{Node}

-- FS_IOC_GETFLAGS, FS_IOC_FSGETXATTR, FS_IOC_SETFLAGS, FS_IOC_FSSETXATTR
abbrev pub get_flags : ℕ
get_flags = 0x80086601

abbrev pub get_xflags : ℕ
get_xflags = 0x801c581f

abbrev pub set_flags : ℕ
set_flags = 0x40086602

abbrev pub set_xflags : ℕ
set_xflags = 0x401c5820

-- how many bytes a command that gets them puts out: a number, or a `struct fsxattr`
abbrev pub output_of : (cmd : ℕ) → ℕ
output_of cmd = if cmd == get_flags then 4 else 28

-- why a command is not done: it is for directories and files; no flag can be set; there is no other command, and
-- its output has its place
abbrev pub ioctl_refusal : (cmd out_size : ℕ) → Node → Option ℕ
ioctl_refusal cmd out_size node =
    first_of ((not (is_directory node.kind || is_file node.kind), enotty)
    ∷ (cmd == set_flags || cmd == set_xflags, eopnotsupp)
    ∷ (not (cmd == get_flags || cmd == get_xflags), enotty)
    ∷ (nat_lt out_size (output_of cmd), einval) ∷ [])
