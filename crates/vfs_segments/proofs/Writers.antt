-- A writer's bytes after a write.
use Rattle.std.proofs.Common.{◌≡◌, ℕ, ◌+◌, ◌≤◌, List, [], ◌∷◌, ◌++◌, length, take, drop, map, ap, ◌∙◌, sym, refl, arith, append_assoc, length-append, length-take, take-append-drop, take_at, drop_at, append-nil, Ok, Err}
use Rattle.std.proofs.lemmas.List.{take-append-le, drop-append-le, drop-drop, drop-take, take-take}
use Rattle.std.specs.List.{concat}
use Rattle.vfs_segments.specs.Segments.{lengths_of, with_bytes_at}
use Rattle.vfs_segments.specs.Lengths.{lengths_before}
use Rattle.vfs_segments.specs.Written.{Written, wrote, first_room, held_filled, held_over}
use Rattle.vfs_segments.specs.Writer.{IsWriter, written_of, room_bytes}
use Rattle.vfs_segments.specs.declared.writer.Writer.TheInside.{Inside}
use Rattle.vfs_segments.specs.SegmentLaws.{length-with_bytes_at}
use Rattle.vfs_segments.specs.Transfer.{taken_in}
use Rattle.vfs_segments.proofs.Puts.{take-append_past, drop-append_past}

pub same_size : (xs ys : List (List ℕ)) → map length ys ≡ map length xs →
    length (concat ys) ≡ length (concat xs)
same_size [] [] e = refl
same_size [] (y ∷ ys) e = absurd (omega (arith, ap length e))
same_size (x ∷ xs) [] e = absurd (omega (arith, ap length e))
same_size (x ∷ xs) (y ∷ ys) e =
    let h : length y ≡ length x = cc in
    let t : map length ys ≡ map length xs = cc in
    length-append y (concat ys) ∙ ap (λ n. n + length (concat ys)) h ∙ ap (λ n. length x + n) (same_size xs ys t) ∙ sym (length-append x (concat xs))

-- the lengths of a writer's segments
abbrev pub room_lengths : Inside → List ℕ
room_lengths w = lengths_of w.segments

-- two writers are equal where their parts are
written-eq : {a a' b b' l l' : List ℕ} {p p' n n' : ℕ} → a ≡ a' → b ≡ b' → p ≡ p' → n ≡ n' → l ≡ l' →
    ◌≡◌ {A = Written} (record { passed = a; left = b; held_at = p; held = n; lengths = l })
    (record { passed = a'; left = b'; held_at = p'; held = n'; lengths = l' })
written-eq e f g h i = rw (e, f, g, h, i)

take-put : (at : ℕ) (bs xs : List ℕ) → at + length bs ≤ length xs →
    take (at + length bs) (with_bytes_at at bs xs) ≡ take at xs ++ bs
unfolding with_bytes_at
take-put at bs xs h =
    ap (take (at + length bs)) (sym (append_assoc (take at xs) bs (drop (at + length bs) xs))) ∙ take_at (take at xs ++ bs) (drop (at + length bs) xs) (at + length bs) (omega (arith, length-append (take at xs) bs, length-take at xs))

drop-put : (at : ℕ) (bs xs : List ℕ) → at + length bs ≤ length xs →
    drop (at + length bs) (with_bytes_at at bs xs) ≡ drop (length bs) (drop at xs)
unfolding with_bytes_at
drop-put at bs xs h =
    ap (drop (at + length bs)) (sym (append_assoc (take at xs) bs (drop (at + length bs) xs))) ∙ drop_at (take at xs ++ bs) (drop (at + length bs) xs) (at + length bs) (omega (arith, length-append (take at xs) bs, length-take at xs))
    ∙ sym (drop-drop (length bs) at xs)

-- a write below a place
put_below : (k at : ℕ) (bs xs : List ℕ) → k + length bs ≤ at → at ≤ length xs →
    with_bytes_at k bs xs ≡ with_bytes_at k bs (take at xs) ++ drop at xs
unfolding with_bytes_at
put_below k at bs xs h w =
    let n : ℕ = k + length bs in
    let size : length (take at xs) ≡ at = omega (arith, length-take at xs) in
    let split = take-append-drop at xs in
    let front : take k xs ≡ take k (take at xs) = sym (take-take k at xs (omega arith)) in
    let back : drop n xs ≡ drop n (take at xs) ++ drop at xs = sym (ap (drop n) split) ∙ drop-append-le n (take at xs) (drop at xs) (omega arith) in
    rw (front, back) (simp append_assoc)

-- segments of the same lengths serve a writer
pub still_writer : (w n : Inside) → IsWriter w → room_lengths n ≡ room_lengths w → n.end ≡ w.end →
    n.at ≤ w.end → n.held_at + n.held ≤ n.at → IsWriter n
still_writer w n ok e end within held = record {
  all = end ∙ ok.all ∙ sym (same_size w.segments n.segments e);
  within = rw end within;
  held_in = held;
}

pub wrote_next : (w n : Inside) (bs : List ℕ) → room_bytes n ≡ with_bytes_at w.at bs (room_bytes w) →
    w.at + length bs ≤ length (room_bytes w) → n.at ≡ w.at + length bs → n.held_at ≡ w.held_at →
    n.held ≡ w.held → room_lengths n ≡ room_lengths w → written_of n ≡ wrote (written_of w) bs
wrote_next w n bs e h at held_at held lengths =
    rw at (written-eq (ap (take (w.at + length bs)) e ∙ take-put w.at bs (room_bytes w) h)
    (ap (drop (w.at + length bs)) e ∙ drop-put w.at bs (room_bytes w) h) held_at held lengths)

pub filled : (w n : Inside) (bs : List ℕ) → IsWriter w →
    room_bytes n ≡ with_bytes_at w.held_at bs (room_bytes w) → length bs ≡ w.held → n.at ≡ w.at →
    n.held_at ≡ w.held_at → n.held ≡ 0 → room_lengths n ≡ room_lengths w →
    written_of n ≡ held_filled (written_of w) bs
filled w n bs ok e size at held_at held lengths =
    let h : w.held_at + length bs ≤ w.at = omega (arith, ok.held_in) in
    let inside : w.at ≤ length (room_bytes w) = omega (arith, ok.within, ok.all) in
    let below = e ∙ put_below w.held_at w.at bs (room_bytes w) h inside in
    let long : length (with_bytes_at w.held_at bs (take w.at (room_bytes w))) ≡ w.at =
    length-with_bytes_at w.held_at bs (take w.at (room_bytes w)) (omega (arith, length-take w.at (room_bytes w))) ∙ omega (arith, length-take w.at (room_bytes w)) in
    rw at (written-eq (ap (take w.at) below ∙ take_at (with_bytes_at w.held_at bs (take w.at (room_bytes w))) (drop w.at (room_bytes w)) w.at long)
    (ap (drop w.at) below ∙ drop_at (with_bytes_at w.held_at bs (take w.at (room_bytes w))) (drop w.at (room_bytes w)) w.at long) held_at held lengths)

pub holds : (w n : Inside) (k : ℕ) → room_bytes n ≡ room_bytes w → w.at + k ≤ length (room_bytes w) →
    n.at ≡ w.at + k → n.held_at ≡ w.at → n.held ≡ k → room_lengths n ≡ room_lengths w →
    written_of n ≡ held_over (written_of w) k
holds w n k e h at held_at held lengths =
    let size : length (take w.at (room_bytes w)) ≡ w.at = omega (arith, length-take w.at (room_bytes w)) in
    let parts : take (w.at + k) (room_bytes w) ≡ take w.at (room_bytes w) ++ take k (drop w.at (room_bytes w)) =
    ap (take (w.at + k)) (sym (take-append-drop w.at (room_bytes w))) ∙ take-append_past (take w.at (room_bytes w)) (drop w.at (room_bytes w)) k (w.at + k) (omega arith) in
    rw (at, e) (written-eq parts (sym (drop-drop k w.at (room_bytes w))) (held_at ∙ sym size) held lengths)

-- a writer whose room was cut n bytes past its place
pub keeps : (w v : Inside) (n : ℕ) → room_bytes v ≡ take (w.at + n) (room_bytes w) → v.at ≡ w.at →
    v.held_at ≡ w.held_at → v.held ≡ w.held → w.at ≤ length (room_bytes w) →
    room_lengths v ≡ lengths_before (w.at + n) (room_lengths w) → written_of v ≡ first_room (written_of w) n
keeps w v n e at held_at held within lengths =
    let size : length (take w.at (room_bytes w)) ≡ w.at = omega (arith, length-take w.at (room_bytes w)) in
    rw at (written-eq (ap (take w.at) e ∙ take-take w.at (w.at + n) (room_bytes w) (omega arith)) (ap (drop w.at) e ∙ drop-take w.at n (room_bytes w)) held_at held
    (lengths ∙ ap (λ k. lengths_before (k + n) (room_lengths w)) (sym size)))

-- bytes that were written from a place on, seen from m of them on
take-put_part : (at m : ℕ) (bs xs : List ℕ) → at ≤ length xs → m ≤ length bs →
    take (at + m) (with_bytes_at at bs xs) ≡ take at xs ++ take m bs
unfolding with_bytes_at
take-put_part at m bs xs h k =
    take-append_past (take at xs) (bs ++ drop (at + length bs) xs) m (at + m) (omega (arith, length-take at xs))
    ∙ ap (λ l. take at xs ++ l) (take-append-le m bs (drop (at + length bs) xs) k)

drop-put_part : (at m : ℕ) (bs xs : List ℕ) → at ≤ length xs → m ≤ length bs →
    drop (at + m) (with_bytes_at at bs xs) ≡ drop m bs ++ drop (length bs) (drop at xs)
unfolding with_bytes_at
drop-put_part at m bs xs h k =
    drop-append_past (take at xs) (bs ++ drop (at + length bs) xs) m (at + m) (omega (arith, length-take at xs))
    ∙ drop-append-le m bs (drop (at + length bs) xs) k ∙ ap (λ l. drop m bs ++ l) (sym (drop-drop (length bs) at xs))

-- a writer whose next bytes were lent and left as bs, of which m were moved
pub took : (E : Type 0) (w n : Inside) (m : ℕ) (bs : List ℕ) →
    room_bytes n ≡ with_bytes_at w.at bs (room_bytes w) → w.at ≤ length (room_bytes w) → m ≤ length bs →
    n.at ≡ w.at + m → n.held_at ≡ w.held_at → n.held ≡ w.held → room_lengths n ≡ room_lengths w →
    written_of n ≡ taken_in {E = E} (written_of w) (Ok m) bs
took E w n m bs e h k at held_at held lengths =
    rw at (written-eq (ap (take (w.at + m)) e ∙ take-put_part w.at m bs (room_bytes w) h k)
    (ap (drop (w.at + m)) e ∙ drop-put_part w.at m bs (room_bytes w) h k) held_at held lengths)

-- and one of which none were moved, for a fault
pub took_none : {E : Type 0} (w n : Inside) (f : E) (bs : List ℕ) →
    room_bytes n ≡ with_bytes_at w.at bs (room_bytes w) → w.at ≤ length (room_bytes w) → n.at ≡ w.at →
    n.held_at ≡ w.held_at → n.held ≡ w.held → room_lengths n ≡ room_lengths w →
    written_of n ≡ taken_in (written_of w) (Err f) bs
took_none w n f bs e h at held_at held lengths =
    let z : w.at + 0 ≡ w.at = omega arith in
    let front : take w.at (with_bytes_at w.at bs (room_bytes w)) ≡ take w.at (room_bytes w) =
    rw z at (take-put_part w.at 0 bs (room_bytes w) h (omega arith)) ∙ append-nil (take w.at (room_bytes w)) in
    let back : drop w.at (with_bytes_at w.at bs (room_bytes w)) ≡ bs ++ drop (length bs) (drop w.at (room_bytes w)) =
    rw z at (drop-put_part w.at 0 bs (room_bytes w) h (omega arith)) in
    rw at (written-eq (ap (take w.at) e ∙ front) (ap (drop w.at) e ∙ back) held_at held lengths)
