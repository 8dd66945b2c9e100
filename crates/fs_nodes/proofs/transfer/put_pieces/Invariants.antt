use Rattle.std.proofs.Common.{◌≡◌, ℕ, length, take}
use Rattle.std.specs.List.{concat}
use Rattle.std.specs.Map.{keys_of}
use Rattle.fs_nodes.specs.Pages.{byte_at, byte_over}
use Rattle.fs_nodes.proofs.transfer.put_pieces.Given as goal

-- the pieces so far are written
abbrev pub invariant-pieces : goal.invariant-pieces
invariant-pieces l = record {
  done : l.done ≡ length (concat (take l.i l.view));
  keys : keys_of l.pages ≡ keys_of l.fn.pages;
  bytes : (place : ℕ) → byte_at l.pages place
      ≡ byte_over l.fn.off (concat (take l.i l.view)) (byte_at l.fn.pages) place;
}
