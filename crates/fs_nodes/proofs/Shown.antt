-- The bytes of contents, one by one.
use Rattle.std.proofs.Common.{◌≡◌, ◌≤◌, ◌<◌, ◌+◌, ◌-◌, ◌/◌, ℕ, nat_lt, cond, List, [], ◌∷◌, ◌++◌, length, take, drop, filter, replicate, get_or, min, max, refl, sym, ap, ◌∙◌, ⊎_elim, arith, length-append, length-take, length-drop}
use Rattle.std.specs.Int.{div_ceil}
use Rattle.std.specs.Map.{keys_of}
use Rattle.std.proofs.lemmas.Bool.{cases_lt, cond-true, cond-false, lt-ltb, le-ltb}
use Rattle.std.proofs.lemmas.List.{ext_get_or, get_or_append_left, get_or-append_right, get_or-take, get_or-drop, length-replicate, drop-drop}
use Rattle.std.proofs.lemmas.List.FromFn.{length-map-range_with_len, get_or-map-range_with_len}
use Rattle.vfs_segments.specs.Memory.{with_bytes_at}
use Rattle.vfs_files.specs.Bytes.{lengthened}
use Rattle.fs_nodes.specs.Pages.{Pages, byte_at, byte_over, with_pages}
use Rattle.fs_nodes.specs.Contents.{Contents, AreZeroAfter, bytes_of, contents_of, resized, allocated, written, pages_over}
use Rattle.fs_nodes.proofs.HeldPages.{zeros_at, over_in, over_before, over_after, list_over}

pub length-bytes_of : (pages : Pages) (size : ℕ) → length (bytes_of pages size) ≡ size
length-bytes_of pages size = length-map-range_with_len (byte_at pages) 0 size

pub shown : (pages : Pages) (size i : ℕ) → i < size → get_or (bytes_of pages size) i 0 ≡ byte_at pages i
shown pages size i within =
    get_or-map-range_with_len (byte_at pages) 0 size i i 0 within (omega arith)

-- with zeros after the end too
shown_after : (pages : Pages) (size k i : ℕ) → AreZeroAfter pages size
    → get_or (bytes_of pages size ++ replicate k 0) i 0 ≡ byte_at pages i
shown_after pages size k i zero =
    let size_is = length-bytes_of pages size in
    ⊎_elim
    (λ (within : i < size).
    get_or_append_left (bytes_of pages size) (replicate k 0) 0 i (omega arith)
    ∙ shown pages size i within)
    (λ (following : size ≤ i).
    get_or-append_right (bytes_of pages size) (replicate k 0) size i 0 size_is following
    ∙ zeros_at (replicate k 0) k (i - size) refl ∙ sym (zero i following))
    (cases_lt i size)

pub both : (a b h k : List ℕ) → a ≡ b → h ≡ k
    → (let c : Contents = record { bytes = a; held = h } in c) ≡ record { bytes = b; held = k }
both a b h k same held =
    let with : List ℕ → List ℕ → Contents = λ a h. record { bytes = a; held = h } in
    ap (λ x. with x h) same ∙ ap (λ x. with b x) held

-- ---- another size

bytes_resized : (old new : Pages) (was size : ℕ) → AreZeroAfter old was
    → ((place : ℕ) → place < size → byte_at new place ≡ byte_at old place)
    → bytes_of new size
    ≡ take size (bytes_of old was) ++ replicate (size - length (bytes_of old was)) 0
bytes_resized old new was size zero same =
    let long = length-bytes_of old was in
    let front = length-take size (bytes_of old was) in
    let fill : ℕ = size - length (bytes_of old was) in
    let zeros = length-replicate {A = ℕ} fill 0 in
    let here = length-bytes_of new size in
    ext_get_or 0 (bytes_of new size) (take size (bytes_of old was) ++ replicate fill 0)
    (omega (arith, length-append (take size (bytes_of old was)) (replicate fill 0)))
    (λ i inside.
    let within : i < size = omega arith in
    shown new size i within ∙ same i within
    ∙ ⊎_elim
    (λ (below : i < was).
    sym (get_or_append_left (take size (bytes_of old was)) (replicate fill 0) 0 i (omega arith)
    ∙ get_or-take size (bytes_of old was) i 0 within ∙ shown old was i below))
    (λ (following : was ≤ i).
    zero i following
    ∙ sym (get_or-append_right (take size (bytes_of old was)) (replicate fill 0) was i 0 (omega arith) following
    ∙ zeros_at (replicate fill 0) fill (i - was) refl))
    (cases_lt i was))

pub resized_longer : (pages : Pages) (was size : ℕ) → was < size → AreZeroAfter pages was
    → contents_of pages size ≡ resized (contents_of pages was) size
resized_longer pages was size more zero =
    let long = length-bytes_of pages was in
    both _ _ _ _ (bytes_resized pages pages was size zero (λ place within. refl))
    (sym (cond-true (nat_lt (length (bytes_of pages was)) size) (keys_of pages)
    (filter (λ n. nat_lt n (div_ceil size 4096)) (keys_of pages))
    (lt-ltb (length (bytes_of pages was)) size (omega arith))))

pub resized_shorter : (old cut new : Pages) (was size : ℕ) → size ≤ was → AreZeroAfter old was
    → keys_of cut ≡ filter (λ n. nat_lt n (div_ceil size 4096)) (keys_of old)
    → ((place : ℕ) → byte_at cut place
    ≡ cond (nat_lt (place / 4096) (div_ceil size 4096)) (byte_at old place) 0)
    → keys_of new ≡ keys_of cut
    → (zeros : List ℕ) → ((place : ℕ) → byte_at new place ≡ byte_over size zeros (byte_at cut) place)
    → contents_of new size ≡ resized (contents_of old was) size
resized_shorter old cut new was size less zero kept left keys zeros over =
    let long = length-bytes_of old was in
    both _ _ _ _
    (bytes_resized old new was size zero (λ place within.
    over place ∙ over_before size zeros (byte_at cut) place within ∙ left place
    ∙ cond-true (nat_lt (place / 4096) (div_ceil size 4096)) (byte_at old place) 0
    (lt-ltb (place / 4096) (div_ceil size 4096) (omega arith))))
    (keys ∙ kept
    ∙ sym (cond-false (nat_lt (length (bytes_of old was)) size) (keys_of old)
    (filter (λ n. nat_lt n (div_ceil size 4096)) (keys_of old))
    (le-ltb (length (bytes_of old was)) size (omega arith))))

-- ---- a part of them

pub shown_part : (pages : Pages) (size off most : ℕ) (bytes : List ℕ)
    → length bytes ≡ min most (size - off)
    → ((i : ℕ) → i < length bytes → get_or bytes i 0 ≡ byte_at pages (off + i))
    → bytes ≡ take most (drop off (bytes_of pages size))
shown_part pages size off most bytes long same =
    let all = length-bytes_of pages size in
    ext_get_or 0 bytes (take most (drop off (bytes_of pages size)))
    (omega (arith, long, all, length-take most (drop off (bytes_of pages size)), length-drop off (bytes_of pages size)))
    (λ i inside.
    same i inside
    ∙ sym (get_or-take most (drop off (bytes_of pages size)) i 0 (omega arith)
    ∙ get_or-drop off (bytes_of pages size) i 0
    ∙ shown pages size (off + i) (omega arith)))

-- ---- bytes written over them

pub cut_twice : (m s : ℕ) (l : List ℕ) → take m (take s l) ≡ take (min (min s (length l)) m) l
cut_twice m s l =
    let a = length-take m (take s l) in
    let b = length-take s l in
    let k : ℕ = min (min s (length l)) m in
    let c = length-take k l in
    ext_get_or 0 (take m (take s l)) (take k l) (omega arith) (λ i inside.
    get_or-take m (take s l) i 0 (omega arith) ∙ get_or-take s l i 0 (omega arith)
    ∙ sym (get_or-take k l i 0 (omega arith)))

length-with_bytes_at : (at : ℕ) (w xs : List ℕ) → at + length w ≤ length xs
    → length (with_bytes_at at w xs) ≡ length xs
unfolding with_bytes_at
length-with_bytes_at at w xs h = simp (length-append, length-take, length-drop) (omega arith)

with_bytes_over : (at : ℕ) (w xs : List ℕ) (i : ℕ) → at + length w ≤ length xs
    → get_or (with_bytes_at at w xs) i 0 ≡ byte_over at w (λ i. get_or xs i 0) i
unfolding with_bytes_at
with_bytes_over at w xs i fits =
    ap (λ l. get_or (take at xs ++ (w ++ l)) i 0) (sym (drop-drop (length w) at xs))
    ∙ list_over at w xs i fits

over_same : (at : ℕ) (w : List ℕ) (f g : ℕ → ℕ) (i : ℕ) → f i ≡ g i
    → byte_over at w f i ≡ byte_over at w g i
over_same at w f g i same =
    ⊎_elim
    (λ (before : i < at). over_before at w f i before ∙ same ∙ sym (over_before at w g i before))
    (λ (from : at ≤ i).
    ⊎_elim
    (λ (to : i < at + length w). over_in at w f i from to ∙ sym (over_in at w g i from to))
    (λ (following : at + length w ≤ i).
    over_after at w f i following ∙ same ∙ sym (over_after at w g i following))
    (cases_lt i (at + length w)))
    (cases_lt i at)

bytes_written : (old new : Pages) (was off : ℕ) (bs : List ℕ) → AreZeroAfter old was
    → ((place : ℕ) → byte_at new place ≡ byte_over off bs (byte_at old) place)
    → bytes_of new (max was (off + length bs))
    ≡ with_bytes_at off bs (lengthened (bytes_of old was) (off + length bs))
bytes_written old new was off bs zero over =
    let end : ℕ = off + length bs in
    let k : ℕ = end - length (bytes_of old was) in
    let xs : List ℕ = bytes_of old was ++ replicate k 0 in
    let was_long = length-bytes_of old was in
    let now_long = length-bytes_of new (max was end) in
    let zeros = length-replicate {A = ℕ} k 0 in
    let all = length-append (bytes_of old was) (replicate k 0) in
    let fits : off + length bs ≤ length xs = omega arith in
    let same = length-with_bytes_at off bs xs fits in
    ext_get_or 0 (bytes_of new (max was end)) (with_bytes_at off bs xs) (omega arith)
    (λ i inside.
    shown new (max was end) i (omega arith) ∙ over i
    ∙ sym (with_bytes_over off bs xs i fits
    ∙ over_same off bs (λ i. get_or xs i 0) (byte_at old) i (shown_after old was k i zero)))

pub contents_written : (old held new : Pages) (was off : ℕ) (bs : List ℕ) → 0 < length bs
    → AreZeroAfter old was
    → keys_of held ≡ with_pages (keys_of old) (off / 4096) (pages_over off (length bs))
    → ((place : ℕ) → byte_at held place ≡ byte_at old place)
    → keys_of new ≡ keys_of held
    → ((place : ℕ) → byte_at new place ≡ byte_over off bs (byte_at held) place)
    → contents_of new (max was (off + length bs)) ≡ written (contents_of old was) off bs
contents_written old held new was off [] some zero kept same keys over = absurd (omega arith)
contents_written old held new was off (b ∷ bs) some zero kept same keys over =
    both _ _ _ _
    (bytes_written old new was off (b ∷ bs) zero (λ place.
    over place ∙ over_same off (b ∷ bs) (byte_at held) (byte_at old) place (same place)))
    (keys ∙ kept)

-- ---- zeros after them

pub contents_allocated : (old new : Pages) (was off len least : ℕ) → AreZeroAfter old was
    → keys_of new ≡ with_pages (keys_of old) (off / 4096) (pages_over off len)
    → ((place : ℕ) → byte_at new place ≡ byte_at old place)
    → contents_of new (max was least) ≡ allocated (contents_of old was) off len least
contents_allocated old new was off len least zero kept same =
    let k : ℕ = least - length (bytes_of old was) in
    let was_long = length-bytes_of old was in
    let now_long = length-bytes_of new (max was least) in
    let zeros = length-replicate {A = ℕ} k 0 in
    let all = length-append (bytes_of old was) (replicate k 0) in
    both _ _ _ _
    (ext_get_or 0 (bytes_of new (max was least)) (bytes_of old was ++ replicate k 0) (omega arith)
    (λ i inside.
    shown new (max was least) i (omega arith) ∙ same i ∙ sym (shown_after old was k i zero)))
    kept
