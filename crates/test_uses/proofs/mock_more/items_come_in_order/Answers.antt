use Rattle.std.proofs.Common.{◌≡◌, List, [], ◌∷◌}
use Rattle.vfs_files.specs.Values.{Item}
use Rattle.test_uses.proofs.mock_more.items_come_in_order.Goals as goal

first_same : (a b : Item) (xs ys : List Item) → a ∷ xs ≡ b ∷ ys → (b ≡ a) × (ys ≡ xs)
first_same a b xs ys e = (let f = e in cc, let f = e in cc)

pub returns-clause-first : goal.returns-clause-first
returns-clause-first c = λ a b item new h.
    let same = first_same a item (b ∷ []) new.left h.0 in
    (same.0, same.1, h.1)

pub returns-clause-not_yet : goal.returns-clause-not_yet
returns-clause-not_yet c = λ a again new h.
    let e = h.0 in
    cc

pub returns-clause-ended : goal.returns-clause-ended
returns-clause-ended c = λ new h. h.1

pub returns-clause-again : goal.returns-clause-again
returns-clause-again c = λ a item new h.
    let same = first_same a item [] new.left h.0 in
    (same.0, same.1, h.1)
