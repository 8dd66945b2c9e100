-- The flat bytes of a list of segments, one segment on, and cut at a segment.
use Rattle.std.proofs.Common.{◌≡◌, ℕ, ◌+◌, ◌<◌, List, [], ◌∷◌, ◌++◌, length, take, drop, ap, ◌∙◌, sym, append-nil, length-append, get_or, take-append-drop}
use Rattle.std.specs.declared.vec.Vec.{Vec}
use Rattle.std.specs.declared.alloc.Global.{Global}
use Rattle.std.specs.List.{concat}
use Rattle.std.proofs.lemmas.List.{at_drop_more, take_more, map-append}
use Rattle.std.proofs.lemmas.List.Folds.{concat-append}
use Rattle.vfs_segments.specs.Segments.{contents, flat_bytes}

pub concat-split : (xs : List (List ℕ)) (i : ℕ) → concat xs ≡ concat (take i xs) ++ concat (drop i xs)
concat-split xs i = ap concat (sym (take-append-drop i xs)) ∙ concat-append (take i xs) (drop i xs)

pub concat-drop_more : (xs : List (List ℕ)) (i : ℕ) → i < length xs → concat (drop i xs) ≡ get_or xs i [] ++ concat (drop (i + 1) xs)
concat-drop_more xs i h = at_drop_more concat xs i [] h

pub length-concat-drop_more : (xs : List (List ℕ)) (i : ℕ) → i < length xs → length (concat (drop i xs)) ≡ length (get_or xs i []) + length (concat (drop (i + 1) xs))
length-concat-drop_more xs i h = ap length (concat-drop_more xs i h) ∙ length-append _ (concat (drop (i + 1) xs))

pub length-concat-take_more : (xs : List (List ℕ)) (i : ℕ) → i < length xs → length (concat (take (i + 1) xs)) ≡ length (concat (take i xs)) + length (get_or xs i [])
length-concat-take_more xs i h =
    ap length (ap concat (take_more xs i [] h) ∙ concat-append (take i xs) (get_or xs i [] ∷ []) ∙ ap (λ l. concat (take i xs) ++ l) (append-nil _))
    ∙ length-append (concat (take i xs)) _

pub length-concat-split : (xs : List (List ℕ)) (i : ℕ) → length (concat xs) ≡ length (concat (take i xs)) + length (concat (drop i xs))
length-concat-split xs i = ap length (concat-split xs i) ∙ length-append (concat (take i xs)) (concat (drop i xs))

pub ruleset segments = (length-concat-drop_more, length-concat-take_more, length-concat-split)

-- ---- the segments that a writer holds

-- their flat bytes
abbrev pub held_flat : List (Vec ℕ Global) → List ℕ
held_flat xs = flat_bytes (contents xs)

pub held_flat-append : (xs ys : List (Vec ℕ Global)) → held_flat (xs ++ ys) ≡ held_flat xs ++ held_flat ys
held_flat-append xs ys = ap concat (map-append (λ (v : Vec ℕ Global). v.items) xs ys) ∙ concat-append (contents xs) (contents ys)
