use Rattle.std.proofs.Common.{◌≡◌, ◌++◌, take}
use Rattle.fs_small.specs.MemFs.{root_items}
use Rattle.fs_small.proofs.memfs.entries.root_entries.Given as goal

abbrev pub invariant-loop-place : goal.invariant-loop-place
invariant-loop-place l =
    take l.offset (root_items l.files) ++ l.entries ≡ take l.place (root_items l.files)
