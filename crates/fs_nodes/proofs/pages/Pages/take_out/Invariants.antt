use Rattle.std.proofs.Common.{◌≡◌, vec_len}
use Rattle.fs_nodes.specs.Pages.{AreSound, undone}
use Rattle.fs_nodes.proofs.pages.Pages.take_out.Given as goal

abbrev pub invariant-out : goal.invariant-out
invariant-out l = record {
  undo : undone l.added.items l.self-inside.pages.entries ≡ undone l.fn.added.items l.fn.self;
  sound : AreSound l.self-inside.pages.entries;
}

abbrev pub decreases-out : goal.decreases-out
decreases-out l = vec_len l.added
