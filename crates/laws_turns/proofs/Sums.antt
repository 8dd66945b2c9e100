-- The sums of events that are put one after the other.
use Rattle.std.proofs.Common.{◌≡◌, ◌+◌, ℕ, List, ◌++◌}
use Rattle.std.proofs.lemmas.List.Sums.{sum_by-append}
use Rattle.vfs_files.specs.Runs.{Event}
use Rattle.vfs_grammar.specs.Books.{answered_by, sent_by, answered, sent}

pub answered-append : (n : ℕ) (xs ys : List Event) → answered n (xs ++ ys) ≡ answered n xs + answered n ys
answered-append n xs ys = sum_by-append (answered_by n) xs ys

pub sent-append : (n : ℕ) (xs ys : List Event) → sent n (xs ++ ys) ≡ sent n xs + sent n ys
sent-append n xs ys = sum_by-append (sent_by n) xs ys
