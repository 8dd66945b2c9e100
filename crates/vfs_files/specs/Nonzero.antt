-- Bytes that a name may have.
use Rattle.std.specs.Prelude.{◌≢◌, ℕ, ◌+◌, ◌<◌, List, slice_index}

-- none of that many bytes from this place on is 0
abbrev pub AreNonzero : (at n : ℕ) → List ℕ → Type 0
AreNonzero at n bytes = (k : ℕ) → k < n → slice_index bytes (at + k) ≢ 0
