use Rattle.std.proofs.Common.{◌≡◌, ◌-◌, ◌*◌, min, max}
use Rattle.std.specs.Map.{keys_of}
use Rattle.fs_nodes.specs.Pages.{byte_at}
use Rattle.fs_nodes.proofs.Punch.{IsZeroed}
use Rattle.fs_nodes.proofs.pages.Pages.zero_all.Given as goal

-- as far as the page, or all
abbrev pub invariant-write : goal.invariant-write
invariant-write l = record {
  keys : keys_of l.self ≡ keys_of l.fn.self;
  zeroed : IsZeroed (byte_at l.fn.self) (byte_at l.self) l.fn.at
      (min l.end (max l.fn.at (l.page * 4096)) - l.fn.at);
}
