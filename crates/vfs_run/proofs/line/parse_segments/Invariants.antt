use Rattle.std.proofs.Common.{◌≡◌, Some, map, take}
use Rattle.vfs_run.specs.Lines.{segment_of, values_of}
use Rattle.vfs_run.proofs.line.parse_segments.Given as goal

abbrev pub invariant-loop-piece : goal.invariant-loop-piece
invariant-loop-piece l = values_of segment_of (take l.piece-index (map (λ x. x.now) l.piece-items)) ≡ Some (map (λ segment. segment.items) l.segments.items)
