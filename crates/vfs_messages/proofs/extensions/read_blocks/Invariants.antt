use Rattle.std.proofs.Common.{◌≡◌, length}
use Rattle.vfs_flags.specs.Flags.{fs_options_bits}
use Rattle.vfs_grammar.specs.Extensions.{cut_of}
use Rattle.vfs_grammar.specs.Words.{extensions_of, nothing_received}
use Rattle.vfs_messages.specs.Parts.{found_values}
use Rattle.vfs_messages.proofs.extensions.read_blocks.Given as goal

abbrev pub invariant-loop-left : goal.invariant-loop-left
invariant-loop-left l =
    extensions_of (fs_options_bits l.options) (found_values l.found) (cut_of l.left)
    ≡ extensions_of (fs_options_bits l.options) nothing_received (cut_of l.fn.bytes)

abbrev pub decreases-loop-left : goal.decreases-loop-left
decreases-loop-left l = length l.left
