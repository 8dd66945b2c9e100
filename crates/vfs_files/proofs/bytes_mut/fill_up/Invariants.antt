use Rattle.std.proofs.Common.{◌≡◌, ◌≤◌, ◌-◌, vec_len, vec_capacity}
use Rattle.vfs_files.specs.Bytes.{lengthened}
use Rattle.vfs_files.proofs.bytes_mut.fill_up.Given as goal

abbrev pub invariant-loop-bytes : goal.invariant-loop-bytes
invariant-loop-bytes l = record {
  same : lengthened l.bytes.items l.end ≡ lengthened l.initial.bytes.items l.end;
  room : l.end ≤ vec_capacity l.bytes;
}

abbrev pub decreases-loop-bytes : goal.decreases-loop-bytes
decreases-loop-bytes l = l.end - vec_len l.bytes
