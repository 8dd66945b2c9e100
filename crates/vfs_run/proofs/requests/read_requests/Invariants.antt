use Rattle.std.proofs.Common.{◌≡◌, Some, map, take}
use Rattle.std.specs.Prelude.{All}
use Rattle.vfs_run.specs.Lines.{IsRequest, line_of, values_of, request}
use Rattle.vfs_run.proofs.requests.read_requests.Given as goal

abbrev pub invariant-loop-index : goal.invariant-loop-index
invariant-loop-index l =
    record {
      each : All IsRequest (take l.index (map (λ x. x.now) l.fn.lines));
      asked : values_of line_of (take l.index (map (λ x. x.now) l.fn.lines)) ≡ Some (map request l.requests.items);
    }
