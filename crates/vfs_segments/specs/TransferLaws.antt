-- What is known of bytes that are put into a writer one after another, for those who make
-- transfers.
use Rattle.std.proofs.Common.{◌≡◌, ℕ, ◌+◌, ◌≤◌, List, [], ◌++◌, length, take, drop, Ok, arith, sym, ap, refl, ◌∙◌, append_assoc, append-nil, length-append, length-drop, length-take}
use Rattle.vfs_segments.specs.Transfer.{taken_in}
use Rattle.vfs_segments.specs.Written.{Written, Moves}

-- nothing was put
pub moves_nothing : (w : Written) → Moves w [] w
moves_nothing w = record {
  passed = sym (append-nil w.passed);
  left = omega arith;
  held_at = refl;
  held = refl;
  lengths = refl;
}

-- what was put in two steps was put
pub moves_then : (u v w : Written) (a b : List ℕ) → Moves u a v → Moves v b w → Moves u (a ++ b) w
moves_then u v w a b p q = record {
  passed = q.passed ∙ ap (λ l. l ++ b) p.passed ∙ append_assoc u.passed a b;
  left = omega (arith, p.left, q.left, length-append a b);
  held_at = q.held_at ∙ p.held_at;
  held = q.held ∙ p.held;
  lengths = q.lengths ∙ p.lengths;
}

-- what was put takes as much room as it has bytes
pub moves_room : (u v : Written) (a : List ℕ) → Moves u a v →
    length v.left + length a ≡ length u.left
moves_room u v a p = p.left

-- what a file moved into the room that it was lent was put
pub moves-taken_in : (E : Type 0) (w : Written) (n : ℕ) (room : List ℕ) → n ≤ length room →
    length room ≤ length w.left → Moves w (take n room) (taken_in {E = E} w (Ok n) room)
moves-taken_in E w n room h k = record {
  passed = refl;
  left = omega (
    arith,
    length-append (drop n room) (drop (length room) w.left),
    length-drop n room,
    length-drop (length room) w.left,
    length-take n room,
  );
  held_at = refl;
  held = refl;
  lengths = refl;
}
