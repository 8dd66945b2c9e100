use Rattle.std.proofs.Common.{◌≡◌, nat_lt, length, filter}
use Rattle.fs_nodes.specs.Pages.{AreSound}
use Rattle.fs_nodes.proofs.pages.Pages.cut.Given as goal

abbrev pub invariant-cut : goal.invariant-cut
invariant-cut l = record {
  left : filter (λ e. nat_lt e.0 l.fn.page) l.self-inside.pages.entries
      ≡ filter (λ e. nat_lt e.0 l.fn.page) l.fn.self;
  sound : AreSound l.self-inside.pages.entries;
}

abbrev pub decreases-cut : goal.decreases-cut
decreases-cut l = length l.self-inside.pages.entries
