-- What is taken from a reader.
use Rattle.std.specs.Prelude.{◌≡◌, ◌+◌, ℕ, List, [], ◌++◌, length}
use Rattle.std.proofs.Common.{arith, sym, ap, refl, ◌∙◌, append_assoc, length-append}
use Rattle.vfs_segments.specs.Unread.{Unread}

-- these bytes were taken: they are the next that were left, and count as taken
pub record Takes (old : Unread) (bytes : List ℕ) (new : Unread) : Type 0 where
  pub left : old.left ≡ bytes ++ new.left
  pub taken : new.taken ≡ old.taken + length bytes

-- nothing was taken
pub takes_nothing : (r : Unread) → Takes r [] r
takes_nothing r = record { left = refl; taken = omega arith }

-- what was taken in two steps was taken
pub takes_then : (u v w : Unread) (a b : List ℕ) → Takes u a v → Takes v b w → Takes u (a ++ b) w
takes_then u v w a b p q = record {
  left = p.left ∙ ap (λ l. a ++ l) q.left ∙ sym (append_assoc a b w.left);
  taken = omega (arith, p.taken, q.taken, length-append a b);
}

-- what was taken are the next bytes
pub takes_next : (u v : Unread) (a : List ℕ) → Takes u a v → u.left ≡ a ++ v.left
takes_next u v a p = p.left
