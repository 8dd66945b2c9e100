use Rattle.std.proofs.Common.{◌-◌, map}
use Rattle.vfs_grammar.specs.Forms.{pairs_of}
use Rattle.vfs_messages.proofs.Pairs.{Copied}
use Rattle.vfs_messages.proofs.request.copy_pairs.Given as goal

abbrev pub invariant-loop-i : goal.invariant-loop-i
invariant-loop-i g l = Copied (map (λ p. (g.I.Number.value p.0, p.1)) l.pairs.items) (pairs_of l.count l.fn.reader.left) (l.count - l.i) l.reader.left
