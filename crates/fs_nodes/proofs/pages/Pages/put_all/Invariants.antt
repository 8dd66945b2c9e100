use Rattle.std.proofs.Common.{◌≡◌, ◌≤◌, ◌-◌, ℕ, length, take}
use Rattle.std.specs.Map.{keys_of}
use Rattle.fs_nodes.specs.Pages.{byte_at, byte_over}
use Rattle.fs_nodes.proofs.pages.Pages.put_all.Given as goal

abbrev pub invariant-fill : goal.invariant-fill
invariant-fill l = record {
  within : l.done ≤ length l.bytes;
  keys : keys_of l.self ≡ keys_of l.fn.self;
  bytes : (place : ℕ) → byte_at l.self place
      ≡ byte_over l.fn.at (take l.done l.bytes) (byte_at l.fn.self) place;
}

abbrev pub decreases-fill : goal.decreases-fill
decreases-fill l = length l.bytes - l.done
