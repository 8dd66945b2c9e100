-- How the calls end that virtiofsd has not. They change nothing.
use Rattle.std.specs.Prelude.{ℕ, ◌+◌, replicate, Some}
use Rattle.std.specs.Option.{option_map_or}
use Rattle.vfs_flags.specs.Numbers.{enoent}
use Rattle.vfs_files.specs.Calls.{Answer, Failed, Text}
use Rattle.fs_nodes.specs.Flags.{ioctl_refusal, output_of}
use Rattle.fs_nodes.specs.Statx.{statx_of}
use Rattle.fs_tree.specs.State.{State, node_at}

-- STATX: the record of its reply
abbrev pub statx_answer : State → (number : ℕ) → Answer
statx_answer s n = option_map_or (λ node. Text (statx_of n node)) (node_at s n) (Failed (Some enoent))

-- IOCTL: no node has a flag. So all is 0: the record of the reply (`struct fuse_ioctl_out`, 16 bytes), by which the
-- command came to 0, and what it puts out
abbrev pub ioctl_answer : State → (number cmd out_size : ℕ) → Answer
ioctl_answer s n cmd out_size = option_map_or
    (λ node. option_map_or (λ error. Failed (Some error)) (ioctl_refusal cmd out_size node)
    (Text (replicate (16 + output_of cmd) 0))) (node_at s n) (Failed (Some enoent))
