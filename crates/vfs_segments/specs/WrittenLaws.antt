-- Parts that are written one after another, each as much as there is room for.
use Rattle.std.proofs.Common.{◌≡◌, ◌-◌, ℕ, zero, suc, List, [], ◌∷◌, ◌++◌, length, take, refl, ap, sym, ◌∙◌, arith, append_assoc, length-append, length-take, length-drop}
use Rattle.std.proofs.lemmas.List.{drop-drop}
use Rattle.vfs_segments.specs.Written.{Written, wrote}

-- the beginning of two lists, by where the first ends
pub take-append : (n : ℕ) (a b : List ℕ) → take n (a ++ b) ≡ take n a ++ take (n - length a) b
take-append zero [] b = refl
take-append (suc n) [] b = let e : suc n - 0 ≡ suc n = omega arith in rw e refl
take-append zero (x ∷ a) b = let e : 0 - length (x ∷ a) ≡ 0 = omega arith in rw e refl
take-append (suc n) (x ∷ a) b =
    let e : suc n - suc (length a) ≡ n - length a = omega arith in
    rw e (ap (λ (l : List ℕ). x ∷ l) (take-append n a b))

-- two writes are one
pub wrote-wrote : (w : Written) (x y : List ℕ) → wrote (wrote w x) y ≡ wrote w (x ++ y)
wrote-wrote w x y = rw (append_assoc w.passed x y, length-append x y, drop-drop (length y) (length x) w.left) refl

-- the room after a part of which as much was written as there was room for
pub room_following : (old mid : Written) (a : List ℕ) → mid ≡ wrote old (take (length old.left) a) →
    length mid.left ≡ length old.left - length a
room_following old mid a m =
    omega (arith, ap (λ (w : Written). length w.left) m, length-drop (length (take (length old.left) a)) old.left, length-take (length old.left) a)

-- as much of two parts as there is room for, written one after the other
pub wrote_both : (old mid new : Written) (a b : List ℕ) → mid ≡ wrote old (take (length old.left) a) →
    new ≡ wrote mid (take (length mid.left) b) → new ≡ wrote old (take (length old.left) (a ++ b))
wrote_both old mid new a b m n =
    n ∙ ap (λ (k : ℕ). wrote mid (take k b)) (room_following old mid a m)
    ∙ ap (λ (w : Written). wrote w (take (length old.left - length a) b)) m
    ∙ wrote-wrote old (take (length old.left) a) (take (length old.left - length a) b)
    ∙ ap (wrote old) (sym (take-append (length old.left) a b))
