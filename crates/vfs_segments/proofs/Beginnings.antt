-- Writes one after another, of which each puts as much as there is room for.
use Rattle.std.proofs.Common.{◌≡◌, ◌≤◌, ◌<◌, ℕ, Bool, true, false, List, ◌++◌, Result, Ok, Err, IsOk, length, take, ap, refl, sym, ◌∙◌}
use Rattle.std.specs.Prelude.{◌↔◌, is_ok, is_err}
use Rattle.std.proofs.Math.Nat.{lt_of_not-le}
use Rattle.std.proofs.lemmas.List.{take-append-le}
use Rattle.vfs_segments.specs.Written.{Written, wrote}

-- a write that is Ok where its n bytes fit failed
pub failed : {E : Type 0} (r : Result (Unit {0}) E) (n room : ℕ) (b : Bool) → IsOk r ↔ (n ≤ room) →
    b ≡ is_err r → b ≡ true → room < n
failed (Ok x) n room b h e t = absurd cc
failed (Err x) n room b h e t = lt_of_not-le (λ le. let ok = h.1 le in cc)

-- it did not
pub went : {E : Type 0} (r : Result (Unit {0}) E) (n room : ℕ) (b : Bool) → IsOk r ↔ (n ≤ room) →
    b ≡ is_err r → b ≡ false → n ≤ room
went (Ok x) n room b h e f = h.0 refl
went (Err x) n room b h e f = absurd cc

-- the same, told by `is_ok`
pub not_whole : {E : Type 0} (r : Result (Unit {0}) E) (n room : ℕ) (b : Bool) → IsOk r ↔ (n ≤ room) →
    b ≡ is_ok r → b ≡ false → room < n
not_whole (Ok x) n room b h e f = absurd cc
not_whole (Err x) n room b h e f = lt_of_not-le (λ le. let ok = h.1 le in cc)

pub is_whole : {E : Type 0} (r : Result (Unit {0}) E) (n room : ℕ) (b : Bool) → IsOk r ↔ (n ≤ room) →
    b ≡ is_ok r → b ≡ true → n ≤ room
is_whole (Ok x) n room b h e t = h.0 refl
is_whole (Err x) n room b h e t = absurd cc

-- the beginning of a part that doesn't fit is that of all
pub cut_off : (old new : Written) (a b : List ℕ) → new ≡ wrote old (take (length old.left) a) →
    length old.left ≤ length a → new ≡ wrote old (take (length old.left) (a ++ b))
cut_off old new a b e h = e ∙ ap (wrote old) (sym (take-append-le (length old.left) a b h))
