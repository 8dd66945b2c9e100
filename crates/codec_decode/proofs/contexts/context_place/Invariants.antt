use Rattle.std.proofs.Common.{◌≡◌, ◌+◌, ℕ, List, Ok, Some, drop, length}
use Rattle.vfs_files.specs.Values.{ExtensionValues}
use Rattle.vfs_grammar.specs.Extensions.{extensions_in}
use Rattle.codec_decode.proofs.Blocks.{Left}
use Rattle.codec_decode.proofs.contexts.context_place.Given as goal

abbrev pub invariant-loop-left : goal.invariant-loop-left
invariant-loop-left l =
    (l.left ≡ drop l.at l.fn.blocks) × (l.at + length l.left ≡ length l.fn.blocks)
    × ((options : ℕ) (ext : ExtensionValues) (context : List ℕ × List ℕ) → extensions_in options l.fn.blocks ≡ Ok ext
    → ext.context ≡ Some context → Left options l.left ext)

abbrev pub decreases-loop-left : goal.decreases-loop-left
decreases-loop-left l = length l.left
