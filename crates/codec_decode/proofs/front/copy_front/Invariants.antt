use Rattle.std.proofs.Common.{◌≡◌, ◌++◌, length, take, drop}
use Rattle.std.specs.Prelude.{min}
use Rattle.std.specs.List.{concat}
use Rattle.vfs_segments.specs.Segments.{segments_of}
use Rattle.codec_decode.proofs.front.copy_front.Given as goal

abbrev pub invariant-loop-i : goal.invariant-loop-i
invariant-loop-i l = record {
  count : l.len ≡ min (length (concat (take l.i (segments_of l.request)))) (length l.fn.front);
  copied : l.front ≡ take l.len (concat (take l.i (segments_of l.request))) ++ drop l.len l.fn.front;
}
