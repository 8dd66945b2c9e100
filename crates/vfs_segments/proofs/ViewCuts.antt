-- The pieces of segments, when one segment is written.
use Rattle.std.proofs.Common.{◌≡◌, ℕ, ◌+◌, ◌-◌, ◌<◌, ◌≤◌, List, [], ◌∷◌, ◌++◌, zero, suc, length, take, drop, map, min, set, get_or, ap, ◌∙◌, sym, refl, arith, length-drop, length-take, length-set, get_or-set_same, take_at, drop_at, ⊎_elim}
use Rattle.std.proofs.lemmas.List.{length-map, set-set, set-get_or, map-set, get_or-map, take-set-le, drop-set-lt, drop-set-add, get_or-set_other, take_all, take-map, drop-map}
use Rattle.std.proofs.lemmas.Bool.{cases_eq}
use Rattle.std.specs.declared.vec.Vec.{Vec}
use Rattle.std.specs.declared.alloc.Global.{Global}
use Rattle.std.specs.List.{concat}
use Rattle.vfs_segments.specs.Memory.{contents}
use Rattle.vfs_segments.specs.Views.{Room, contents_with, cut}
use Rattle.vfs_segments.specs.ViewLaws.{length-concat-shape, take-append_past, drop-append_past}

-- the lent segment goes back to its place, and another one is lent: the bytes are the same
pub exchanged : (xs : List (Vec ℕ Global)) (place next : ℕ) (lent e x : Vec ℕ Global) → next < length xs →
    x ≡ get_or (set xs place lent) next x →
    contents_with (set (set xs place lent) next e) next x ≡ contents_with xs place lent
exchanged xs place next lent e x h p =
    let items : Vec ℕ Global → List ℕ = λ v. v.items in
    let bound : next < length (set xs place lent) = omega (arith, length-set xs place lent) in
    let read : x.items ≡ get_or (contents (set xs place lent)) next [] =
    ap items p ∙ sym (get_or-map items (set xs place lent) next x [] bound) in
    ap (λ l. set l next x.items) (map-set items (set xs place lent) next e)
    ∙ set-set (contents (set xs place lent)) next e.items x.items
    ∙ ap (λ y. set (contents (set xs place lent)) next y) read ∙ set-get_or (contents (set xs place lent)) next []
    ∙ map-set items xs place lent

-- a segment is lent: the bytes are the same
pub taken_out : (xs : List (Vec ℕ Global)) (place : ℕ) (e x : Vec ℕ Global) → place < length xs →
    x ≡ get_or xs place x → contents_with (set xs place e) place x ≡ contents xs
taken_out xs place e x h p =
    let items : Vec ℕ Global → List ℕ = λ v. v.items in
    let read : x.items ≡ get_or (contents xs) place [] = ap items p ∙ sym (get_or-map items xs place x [] h) in
    ap (λ l. set l place x.items) (map-set items xs place e) ∙ set-set (contents xs) place e.items x.items
    ∙ ap (λ y. set (contents xs) place y) read ∙ set-get_or (contents xs) place []

-- there are as many segments
pub length-contents_with : (xs : List (Vec ℕ Global)) (place : ℕ) (lent : Vec ℕ Global) →
    length (contents_with xs place lent) ≡ length xs
length-contents_with xs place lent = length-set (contents xs) place lent.items ∙ length-map xs (λ v. v.items)

-- there are as many pieces as segments
pub length-cut : (skip end : ℕ) (xs : List (List ℕ)) → length (cut skip end xs) ≡ length xs
length-cut skip end [] = refl
length-cut skip end (s ∷ []) = refl
length-cut skip end (s ∷ (t ∷ ts)) = ap suc (length-cut 0 end (t ∷ ts))

-- the first piece, where there are more
cut-cons : (skip end : ℕ) (s : List ℕ) (xs : List (List ℕ)) → 0 < length xs →
    cut skip end (s ∷ xs) ≡ drop skip s ∷ cut 0 end xs
cut-cons skip end s [] h = absurd (omega arith)
cut-cons skip end s (t ∷ ts) h = refl

-- the pieces, once segment i is another: its part of them is w
pub cut-set : (skip end from i : ℕ) (xs : List (List ℕ)) (s w : List ℕ) → i < length xs → (i ≡ 0 → from ≡ skip) →
    (0 < i → from ≡ 0) → (i + 1 ≡ length xs → w ≡ drop from (take end s)) → (i + 1 < length xs → w ≡ drop from s) →
    cut skip end (set xs i s) ≡ set (cut skip end xs) i w
cut-set skip end from i [] s w h p q last inner = absurd (omega arith)
cut-set skip end from zero (x ∷ []) s w h p q last inner = ap (λ l. l ∷ [])
    (sym (last (omega arith) ∙ ap (λ k. drop k (take end s)) (p refl)))
cut-set skip end from (suc i) (x ∷ []) s w h p q last inner = absurd (omega arith)
cut-set skip end from zero (x ∷ (y ∷ ys)) s w h p q last inner = ap (λ l. l ∷ cut 0 end (y ∷ ys))
    (sym (inner (omega arith) ∙ ap (λ k. drop k s) (p refl)))
cut-set skip end from (suc i) (x ∷ (y ∷ ys)) s w h p q last inner =
    let z : from ≡ 0 = q (omega arith) in
    cut-cons skip end x (set (y ∷ ys) i s) (omega (arith, length-set (y ∷ ys) i s))
    ∙ ap (λ l. drop skip x ∷ l)
    (cut-set 0 end from i (y ∷ ys) s w (omega arith) (λ _. z) (λ _. z) (λ e. last (omega arith)) (λ e. inner (omega arith)))

-- an element of a beginning of a list is set
take-set-lt : {X : Type 0} (n i : ℕ) (xs : List X) (y : X) → take n (set xs i y) ≡ set (take n xs) i y
take-set-lt zero i xs y = refl
take-set-lt (suc n) i [] y = refl
take-set-lt (suc n) zero (x ∷ xs) y = refl
take-set-lt (suc n) (suc i) (x ∷ xs) y = ap (λ l. x ∷ l) (take-set-lt n i xs y)

-- two rooms are equal where their parts are
pub room-eq : {a a' : List ℕ} {p p' : List (List ℕ)} {r r' t t' l l' : List ℕ} →
    a ≡ a' → p ≡ p' → r ≡ r' → t ≡ t' → l ≡ l' →
    ◌≡◌ {A = Room} (record { before = a; pieces = p; rest = r; after = t; lengths = l })
    (record { before = a'; pieces = p'; rest = r'; after = t'; lengths = l' })
room-eq e f g h k = rw (e, f, g, h, k)

-- where piece i of a room lies: in the segment s, from `from` to `to`
pub record IsPlaced (xs : List (List ℕ)) (first count skip end i from to : ℕ) (s : List ℕ) : Type 0 where
  pub inside : i < count
  pub within : first + count ≤ length xs
  pub segment : s ≡ get_or xs (first + i) []
  pub head : i ≡ 0 → from ≡ skip
  pub later : 0 < i → from ≡ 0
  pub last : i + 1 ≡ count → to ≡ end
  pub inner : i + 1 < count → to ≡ length s
  pub ordered : from ≤ to
  pub ends : to ≤ length s

module _ (xs : List (List ℕ)) (first count skip end i from to : ℕ) (s b : List ℕ) (h : IsPlaced xs first count skip end i from to s) (size : length b ≡ length s - from) where
  -- the bytes of the segment before the piece
  front_size : length (take from s) ≡ from
  front_size = omega (arith, length-take from s, h.ordered, h.ends)

  -- what is before the room stays, once the bytes from the piece's start on are b
  pub same_before : concat (take first (set xs (first + i) (take from s ++ b))) ++
      take skip (get_or (set xs (first + i) (take from s ++ b)) first []) ≡
      concat (take first xs) ++ take skip (get_or xs first [])
  same_before =
      let y = take from s ++ b in
      let k : first ≤ first + i = omega arith in
      let front : take first (set xs (first + i) y) ≡ take first xs = take-set-le first xs (first + i) y k in
      let same : take skip (get_or (set xs (first + i) y) first []) ≡ take skip (get_or xs first []) =
      ⊎_elim (λ (e : i ≡ 0).
      let f : first + i ≡ first = omega arith in
      let z = h.head e in
      let here : get_or (set xs first y) first [] ≡ y =
      get_or-set_same xs first y [] (omega (arith, h.within, h.inside)) in
      let g : s ≡ get_or xs first [] = rw f at h.segment in
      rw f (ap (take skip) here ∙ take_at (take from s) b skip (omega (arith, front_size, z)) ∙ ap (λ n. take n s) z ∙ ap (take skip) g))
      (λ (e : i ≡ 0 → ⊥).
      let n : first ≡ first + i → ⊥ = λ q. e (omega (arith, q)) in
      ap (take skip) (get_or-set_other xs (first + i) first y [] n)) (cases_eq i 0) in
      rw (front, same)

  -- and what is after it
  pub same_after : concat (drop (first + count) (set xs (first + i) (take from s ++ b))) ≡
      concat (drop (first + count) xs)
  same_after = ap concat (drop-set-lt (first + count) xs (first + i) (take from s ++ b) (omega (arith, h.inside)))

  -- the piece is a beginning of b
  pub new_pieces : cut skip end (take count (drop first (set xs (first + i) (take from s ++ b)))) ≡
      set (cut skip end (take count (drop first xs))) i (take (to - from) b)
  new_pieces =
      let y = take from s ++ b in
      let d = take count (drop first xs) in
      let long : length d ≡ count = omega (arith, length-take count (drop first xs), length-drop first xs, h.within) in
      let moved : take count (drop first (set xs (first + i) y)) ≡ set d i y =
      ap (take count) (drop-set-add first xs i y) ∙ take-set-lt count i (drop first xs) y in
      ap (cut skip end) moved
      ∙ cut-set skip end from i d y (take (to - from) b) (omega (arith, long, h.inside)) h.head h.later
      (λ e. let z : to ≡ end = h.last (omega (arith, long)) in
      sym (ap (λ n. drop from (take n y)) (sym z) ∙ ap (drop from) (take-append_past (take from s) b (to - from) to (omega (arith, front_size, h.ordered))) ∙ drop_at (take from s) (take (to - from) b) from front_size))
      (λ e. let z : to ≡ length s = h.inner (omega (arith, long)) in
      let all : length b ≤ to - from = omega (arith, size) in
      take_all (to - from) b all ∙ sym (drop_at (take from s) b from front_size))

  -- the rest of the segment of the last piece is what follows in b
  pub rest_last : i + 1 ≡ count →
      drop end (get_or (set xs (first + i) (take from s ++ b)) (first + count - 1) []) ≡ drop (to - from) b
  rest_last e =
      let k : first + count - 1 ≡ first + i = omega arith in
      let z : to ≡ end = h.last e in
      rw k (ap (drop end) (get_or-set_same xs (first + i) (take from s ++ b) [] (omega (arith, h.within, h.inside))) ∙ drop-append_past (take from s) b (to - from) end (omega (arith, front_size, h.ordered, z)))

  -- where another piece was written that rest stays
  pub rest_inner : i + 1 < count →
      drop end (get_or (set xs (first + i) (take from s ++ b)) (first + count - 1) []) ≡ drop end (get_or xs (first + count - 1) [])
  rest_inner e =
      let n : first + count - 1 ≡ first + i → ⊥ = λ q. absurd (omega (arith, q)) in
      ap (drop end) (get_or-set_other xs (first + i) (first + count - 1) (take from s ++ b) [] n)

-- the lengths of pieces go by those of the segments
pub lengths-cut : (skip end : ℕ) (xs ys : List (List ℕ)) → map length ys ≡ map length xs →
    map length (cut skip end ys) ≡ map length (cut skip end xs)
lengths-cut skip end [] [] e = refl
lengths-cut skip end [] (y ∷ ys) e = absurd (omega (arith, ap length e))
lengths-cut skip end (x ∷ xs) [] e = absurd (omega (arith, ap length e))
lengths-cut skip end (x ∷ []) (y ∷ []) e =
    let same : length y ≡ length x = cc in
    ap (λ n. n ∷ []) (length-drop skip (take end y) ∙ ap (λ n. n - skip) (length-take end y ∙ ap (min end) same ∙ sym (length-take end x)) ∙ sym (length-drop skip (take end x)))
lengths-cut skip end (x ∷ []) (y ∷ (z ∷ ys)) e = absurd (omega (arith, ap length e))
lengths-cut skip end (x ∷ (z ∷ xs)) (y ∷ []) e = absurd (omega (arith, ap length e))
lengths-cut skip end (x ∷ (u ∷ xs)) (y ∷ (v ∷ ys)) e =
    let same : length y ≡ length x = cc in
    let others : map length (v ∷ ys) ≡ map length (u ∷ xs) = cc in
    let first : length (drop skip y) ≡ length (drop skip x) =
    length-drop skip y ∙ ap (λ n. n - skip) same ∙ sym (length-drop skip x) in
    let rest = lengths-cut 0 end (u ∷ xs) (v ∷ ys) others in
    rw (first, rest) refl

-- and so does their sum
pub length-concat-cut : (first count skip end : ℕ) (xs ys : List (List ℕ)) → map length ys ≡ map length xs →
    length (concat (cut skip end (take count (drop first ys)))) ≡
    length (concat (cut skip end (take count (drop first xs))))
length-concat-cut first count skip end xs ys e =
    let part : (zs : List (List ℕ)) → map length (take count (drop first zs)) ≡ take count (drop first (map length zs)) = λ zs.
    sym (take-map length count (drop first zs)) ∙ ap (take count) (sym (drop-map length first zs)) in
    length-concat-shape _ _ (lengths-cut skip end _ _ (part ys ∙ ap (λ l. take count (drop first l)) e ∙ sym (part xs)))
