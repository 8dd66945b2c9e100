-- What is known of spans: what is lent and what is around it are all the segments.
use Rattle.std.proofs.Common.{◌≡◌, ℕ, ◌+◌, ◌-◌, ◌<◌, ◌≤◌, List, [], ◌∷◌, ◌++◌, zero, suc, length, take, drop, get_or, ap, ◌∙◌, sym, refl, arith, append_assoc, append-nil, length-drop, length-take, take-append-drop, take_at, drop_at}
use Rattle.std.proofs.lemmas.List.{get_or-drop, get_or-take, take-take, drop-drop}
use Rattle.std.proofs.lemmas.List.Folds.{concat-append}
use Rattle.std.specs.List.{concat}
use Rattle.vfs_segments.specs.declared.span.Span.{Span}
use Rattle.vfs_segments.specs.Memory.{with_bytes_at}
use Rattle.vfs_segments.specs.Views.{Room, IsSpan, IsSameRoom, cut, pieces_of, room, room_of, whole_of}
use Rattle.vfs_segments.specs.ViewLaws.{IsSameRoom-total, drop-append_past}

-- the pieces with what was cut off at both ends
pub cut-concat : (skip end j : ℕ) (xs : List (List ℕ)) → j + 1 ≡ length xs → (j ≡ 0 → skip ≤ end) →
    concat xs ≡
    take skip (get_or xs 0 []) ++ (concat (cut skip end xs) ++ drop end (get_or xs j []))
cut-concat skip end j [] e h = absurd (omega arith)
cut-concat skip end zero (s ∷ []) e h =
    let front : take skip s ≡ take skip (take end s) = sym (take-take skip end s (h refl)) in
    append-nil s ∙ sym (take-append-drop end s)
    ∙ ap (λ l. l ++ drop end s) (sym (take-append-drop skip (take end s)))
    ∙ append_assoc (take skip (take end s)) (drop skip (take end s)) (drop end s)
    ∙ ap (λ l. l ++ (drop skip (take end s) ++ drop end s)) (sym front)
    ∙ ap (λ l. take skip s ++ (l ++ drop end s)) (sym (append-nil (drop skip (take end s))))
cut-concat skip end (suc j) (s ∷ []) e h = absurd (omega arith)
cut-concat skip end zero (s ∷ (t ∷ ts)) e h = absurd (omega arith)
cut-concat skip end (suc j) (s ∷ (t ∷ ts)) e h =
    let others = concat (cut 0 end (t ∷ ts)) in
    let following = drop end (get_or (t ∷ ts) j []) in
    ap (λ l. s ++ l) (cut-concat 0 end j (t ∷ ts) (omega arith) (λ _. omega arith))
    ∙ ap (λ l. l ++ (others ++ following)) (sym (take-append-drop skip s))
    ∙ append_assoc (take skip s) (drop skip s) (others ++ following)
    ∙ ap (λ l. take skip s ++ l) (sym (append_assoc (drop skip s) others following))

-- the room and what is around it are all the segments
pub whole-room : (first count skip end : ℕ) (xs : List (List ℕ)) → 0 < count →
    first + count ≤ length xs → (count ≡ 1 → skip ≤ end) →
    whole_of (room first count skip end xs) ≡ concat xs
whole-room first count skip end xs some within ordered =
    let d = take count (drop first xs) in
    let long : length d ≡ count =
    omega (arith, length-take count (drop first xs), length-drop first xs) in
    let j : ℕ = count - 1 in
    let k : j + 1 ≡ length d = omega (arith, long) in
    let zero_at : first + 0 ≡ first = omega arith in
    let s0 : get_or d 0 [] ≡ get_or xs first [] =
    get_or-take count (drop first xs) 0 [] some ∙ get_or-drop first xs 0 []
    ∙ ap (λ n. get_or xs n []) zero_at in
    let last_at : first + j ≡ first + count - 1 = omega arith in
    let sj : get_or d j [] ≡ get_or xs (first + count - 1) [] =
    get_or-take count (drop first xs) j [] (omega arith) ∙ get_or-drop first xs j []
    ∙ ap (λ n. get_or xs n []) last_at in
    let middle = rw (s0, sj) at (cut-concat skip end j d k (λ z. ordered (omega arith))) in
    let a = concat (take first xs) in
    let b = take skip (get_or xs first []) in
    let p = concat (cut skip end d) in
    let r = drop end (get_or xs (first + count - 1) []) in
    let t = concat (drop (first + count) xs) in
    let parts : xs ≡ take first xs ++ (d ++ drop (first + count) xs) =
    sym
    (ap (λ l. take first xs ++ (d ++ l)) (sym (drop-drop count first xs))
    ∙ ap (λ l. take first xs ++ l) (take-append-drop count (drop first xs))
    ∙ take-append-drop first xs) in
    let joined : concat xs ≡ a ++ ((b ++ (p ++ r)) ++ t) =
    ap concat parts ∙ concat-append (take first xs) (d ++ drop (first + count) xs)
    ∙ ap (λ l. a ++ l) (concat-append d (drop (first + count) xs) ∙ ap (λ l. l ++ t) middle) in
    sym (joined ∙ simp append_assoc)

-- the same of a span
pub whole-room_of : (span : Span) (xs : List (List ℕ)) → IsSpan span xs →
    whole_of (room_of span xs) ≡ concat xs
whole-room_of span xs ok =
    whole-room span.first span.count span.skip span.end xs ok.some ok.within ok.ordered

-- the bytes of a span are those from its place on
pub concat-pieces_of : (span : Span) (xs : List (List ℕ)) → IsSpan span xs →
    concat (pieces_of span xs) ≡
    take span.total (drop (length (room_of span xs).before) (concat xs))
concat-pieces_of span xs ok =
    let r = room_of span xs in
    let following = r.rest ++ r.after in
    sym
    (ap (λ l. take span.total (drop (length r.before) l)) (sym (whole-room_of span xs ok))
    ∙ ap (take span.total) (drop_at r.before (concat r.pieces ++ following) (length r.before) refl)
    ∙ take_at (concat r.pieces) following span.total (sym ok.total))

-- where the pieces of a room end with other bytes, as many as they were, those are in place of
-- them, and all else stays
pub whole-same_room : (old new : Room) → IsSameRoom old new →
    whole_of new ≡ with_bytes_at (length old.before) (concat new.pieces) (whole_of old)
unfolding with_bytes_at
whole-same_room old new same =
    let a = old.before in
    let p = concat old.pieces in
    let q = concat new.pieces in
    let t = old.rest ++ old.after in
    let long : length q ≡ length p = IsSameRoom-total old new same in
    let front : take (length a) (whole_of old) ≡ a = take_at a (p ++ t) (length a) refl in
    let back : drop (length a + length q) (whole_of old) ≡ t =
    drop-append_past a (p ++ t) (length q) (length a + length q) refl
    ∙ drop_at p t (length q) (sym long) in
    rw (front, back, same.before, same.rest, same.after) refl
