use Rattle.std.proofs.Common.{◌≡◌, length, filter}
use Rattle.fs_nodes.specs.Pages.{AreSound, is_outside}
use Rattle.fs_nodes.proofs.pages.Pages.cut_out.Given as goal

abbrev pub invariant-out : goal.invariant-out
invariant-out l = record {
  left : filter (λ e. is_outside l.fn.page l.fn.end e.0) l.self-inside.pages.entries
      ≡ filter (λ e. is_outside l.fn.page l.fn.end e.0) l.fn.self;
  sound : AreSound l.self-inside.pages.entries;
}

abbrev pub decreases-out : goal.decreases-out
decreases-out l = length l.self-inside.pages.entries
