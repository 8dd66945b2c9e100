use Rattle.std.proofs.Common.{◌≡◌, ◌-◌, length, take}
use Rattle.std.specs.List.{concat}
use Rattle.vfs_segments.specs.Segments.{segments_of}
use Rattle.codec_decode.proofs.front.is_as_long.Given as goal

abbrev pub invariant-loop-i : goal.invariant-loop-i
invariant-loop-i l = l.wanted ≡ l.least - length (concat (take l.i (segments_of l.request)))
