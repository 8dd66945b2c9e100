-- One line more of a session.
use Rattle.std.proofs.Common.{◌≡◌, ℕ, ◌+◌, ◌<◌, ◌≤◌, List, length, take, get_or, Some, None, Bor, refl, arith, rules}
use Rattle.std.specs.Prelude.{All}
use Rattle.std.proofs.lemmas.List.{get_or-map, length-map, take_all}
use Rattle.std.proofs.lemmas.List.Elements.{All-more}
use Rattle.std.proofs.lemmas.Option.{slice_get-get_or}
use Rattle.vfs_run.specs.Lines.{Request, IsRequest, IsFirstBad, line_of}
use Rattle.vfs_run.proofs.ValueLemmas.{texts_of}

-- a line that asks something is one more of them
pub all_requests-more : (items : List (Bor (List ℕ))) (i : ℕ) (item : Bor (List ℕ)) (asked : Request)
    → i < length items → All IsRequest (take i (texts_of items)) → line_of (get_or items i item).now ≡ Some asked
    → All IsRequest (take (i + 1) (texts_of items))
all_requests-more items i item asked lt so_far some =
    let at = get_or-map (λ (x : Bor (List ℕ)). x.now) items i item item.now lt in
    let within : i < length (texts_of items) = omega (arith, length-map items (λ (x : Bor (List ℕ)). x.now)) in
    All-more IsRequest (texts_of items) i item.now within so_far (rw (at, some) (search rules))

-- a line that asks nothing is the first of its kind, where all before it ask something
pub first_bad : (counted : ℕ) (items : List (Bor (List ℕ))) (i : ℕ) (item : Bor (List ℕ))
    → i < length items → All IsRequest (take i (texts_of items)) → line_of (get_or items i item).now ≡ None
    → IsFirstBad counted (texts_of items) (counted + i + 1)
first_bad counted items i item lt so_far none =
    let at = get_or-map (λ (x : Bor (List ℕ)). x.now) items i item item.now lt in
    let within : i < length (texts_of items) = omega (arith, length-map items (λ (x : Bor (List ℕ)). x.now)) in
    record { index = i; numbered = refl; before = so_far; bad = rw (slice_get-get_or (texts_of items) i item.now within, at) none }

-- all lines before the end are all lines
pub all_requests-whole : (items : List (Bor (List ℕ))) (i : ℕ)
    → length items ≤ i → All IsRequest (take i (texts_of items)) → All IsRequest (texts_of items)
all_requests-whole items i past so_far =
    let whole : length (texts_of items) ≤ i = omega (arith, length-map items (λ (x : Bor (List ℕ)). x.now)) in
    rw (take_all i (texts_of items) whole) at so_far
