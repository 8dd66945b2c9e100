use Rattle.std.proofs.Common.{◌≡◌, ◌≤◌, ◌-◌, ℕ, true, false}
use Rattle.std.specs.Map.{keys_of}
use Rattle.fs_nodes.specs.Pages.{byte_at, holds, with_pages, undone}
use Rattle.fs_nodes.proofs.pages.Pages.hold.Given as goal

abbrev pub invariant-hold : goal.invariant-hold
invariant-hold l = record {
  undo : undone l.added.items l.self ≡ l.fn.self;
  held : with_pages (keys_of l.self) l.n (l.n-end - l.n)
      ≡ with_pages (keys_of l.fn.self) l.fn.page l.fn.count;
  same : (place : ℕ) → byte_at l.self place ≡ byte_at l.fn.self place;
  free : l.some ≡ false → (q : ℕ) → l.n ≤ q → holds (keys_of l.self) q ≡ false;
  grown : (q : ℕ) → holds (keys_of l.fn.self) q ≡ true → holds (keys_of l.self) q ≡ true;
}
