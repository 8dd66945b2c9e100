-- A writer and a reader as what bytes are put into and taken from, and what one call of each does.
use Rattle.std.proofs.Common.{◌≡◌, ◌≤◌, ◌<◌, ◌-◌, ◌⊎◌, inl, inr, ℕ, zero, suc, List, [], length, take, drop, min, IfOk, take-append-drop, drop_at, length-append, length-take, length-drop, Option, Result, Ok, Err, arith, refl, sym, ap, subst, ◌∙◌, append-nil}
use Rattle.vfs_segments.specs.declared.file.WritevFlags.{WritevFlags}
use Rattle.vfs_segments.specs.Written.{Written, Moves}
use Rattle.vfs_segments.specs.Unread.{Unread}
use Rattle.vfs_segments.specs.Transfer.{moved_bytes, taken_in, taken_out}
use Rattle.vfs_segments.specs.TransferLaws.{moves_nothing, moves_then, moves_room, moves-taken_in}
use Rattle.vfs_files.specs.Transfers.{reads_of, writes_of, bytes_moved}
use Rattle.vfs_files.specs.TransferLaws.{goes_within}
use Rattle.vfs_server.specs.Takes.{Takes, takes_nothing, takes_then}
use Rattle.vfs_server.proofs.Going.{Side, Did, Going}

-- bytes are put into a writer
abbrev pub written : Side Written
written = record {
  moves = Moves;
  left = λ w. length w.left;
  nothing = moves_nothing;
  one_then_other = moves_then;
  takes_left = moves_room;
}

-- bytes are taken from a reader
abbrev pub unread : Side Unread
unread = record {
  moves = Takes;
  left = λ r. length r.left;
  nothing = takes_nothing;
  one_then_other = takes_then;
  takes_left = λ u v a p. omega (arith, ap length p.left, length-append a v.left);
}

abbrev Same : Result ℕ (Option ℕ) → Result ℕ (Option ℕ) → Type 0
Same a b = a ≡ b

nothing_or_some : (len : ℕ) → (len ≡ 0) ⊎ (0 < len)
nothing_or_some zero = inl refl
nothing_or_some (suc len) = inr (omega arith)

-- one call of a file that reads into a writer
writer_did :
    {F : Type 0} (gives : F → ℕ → ℕ → Result ℕ (Option ℕ) → List ℕ → F → Type 0)
    (moved at len : ℕ) (f : F) (old : Written) (result : Result ℕ (Option ℕ)) (g : F) (new : Written)
    → len ≤ length old.left → IfOk result (λ n. n ≤ len)
    → (len ≡ 0 → (result ≡ Ok 0) × (new ≡ old) × (g ≡ f))
    → (0 < len → (room : List ℕ) × (length room ≡ len) × (new ≡ taken_in old result room)
    × gives f at len result (moved_bytes result room) g)
    → Did written (reads_of gives) moved at len f old result g new
writer_did {F} gives moved at len f old (Ok n) g new fits below nothing lent =
    elim (nothing_or_some len) [
      | inl none ↦
          let idle : Same (Ok n) (Ok 0) × (new ≡ old) × (g ≡ f) = nothing none in
          let zero_is : n ≡ 0 = cc (idle.0) in
          inl (none, zero_is, idle.2, idle.1)
      | inr some ↦
          let call = lent some in
          let part = take n call.0 in
          let size : length part ≡ n = omega (arith, length-take n call.0, call.1, below) in
          let P : ℕ → Type 0 = λ m. gives f at len (Ok m) part g in
          let put : Moves old part (taken_in {E = Option ℕ} old (Ok n) call.0) =
          moves-taken_in (Option ℕ) old n call.0 (omega (arith, call.1, below)) (omega (arith, call.1, fits)) in
          inr (some, (part, subst P (sym size) call.3, sym size, below, rw (call.2) put))
    ]
writer_did {F} gives moved at len f old (Err fault) g new fits below nothing lent =
    elim (nothing_or_some len) [
      | inl none ↦
          let idle : Same (Err fault) (Ok 0) × (new ≡ old) × (g ≡ f) = nothing none in
          cc (idle.0)
      | inr some ↦
          let call = lent some in
          let put : Moves old [] new = rw (call.2) (record {
            passed = sym (append-nil old.passed);
            left = omega (arith, length-append call.0 (drop (length call.0) old.left), length-drop (length call.0) old.left, call.1, fits);
            held_at = refl;
            held = refl;
            lengths = refl;
          }) in
          (some, call.3, put)
    ]

-- one call of a file that writes from a reader, where these bytes are to be moved in all
reader_did :
    {F : Type 0} (gives : F → List ℕ → ℕ → Option WritevFlags → Result ℕ (Option ℕ) → F → Type 0)
    (bytes : List ℕ) (flags : Option WritevFlags)
    (moved at len : ℕ) (f : F) (old : Unread) (result : Result ℕ (Option ℕ)) (g : F) (new : Unread)
    → drop moved bytes ≡ old.left → len ≤ length old.left → IfOk result (λ n. n ≤ len)
    → (len ≡ 0 → (result ≡ Ok 0) × (new ≡ old) × (g ≡ f))
    → (0 < len → (new ≡ taken_out old result) × gives f (take len old.left) at flags result g)
    → Did unread (writes_of gives bytes flags) moved at len f old result g new
reader_did {F} gives bytes flags moved at len f old (Ok n) g new next fits below nothing lent =
    elim (nothing_or_some len) [
      | inl none ↦
          let idle : Same (Ok n) (Ok 0) × (new ≡ old) × (g ≡ f) = nothing none in
          let zero_is : n ≡ 0 = cc (idle.0) in
          inl (none, zero_is, idle.2, idle.1)
      | inr some ↦
          let call = lent some in
          let part = take n old.left in
          let size : length part ≡ n = omega (arith, length-take n old.left, fits, below) in
          let P : ℕ → Type 0 = λ m. gives f (take len old.left) at flags (Ok m) g in
          let taken : Takes old part new = rw (call.0) (record {
            left = sym (take-append-drop n old.left);
            taken = omega (arith, size);
          }) in
          let front : part ≡ take (length part) old.left = ap (λ m. take m old.left) (sym size) in
          inr (some, (part, rw next (subst P (sym size) call.1, front), sym size, below, taken))
    ]
reader_did {F} gives bytes flags moved at len f old (Err fault) g new next fits below nothing lent =
    elim (nothing_or_some len) [
      | inl none ↦
          let idle : Same (Err fault) (Ok 0) × (new ≡ old) × (g ≡ f) = nothing none in
          cc (idle.0)
      | inr some ↦
          let call = lent some in
          (some, rw next (call.1), rw (call.0) (takes_nothing old))
    ]

-- the next call of a loop over a writer
pub writer_next :
    {F : Type 0} (gives : F → ℕ → ℕ → Result ℕ (Option ℕ) → List ℕ → F → Type 0)
    {count off : ℕ} {first : F} {old : Written} {moved place : ℕ} {f : F} {now : Written}
    (result : Result ℕ (Option ℕ)) {g : F} {new : Written}
    → Going written (reads_of gives) count off first old moved place f now
    → IfOk result (λ n. n ≤ min (count - moved) (length now.left))
    → (min (count - moved) (length now.left) ≡ 0 → (result ≡ Ok 0) × (new ≡ now) × (g ≡ f))
    → (0 < min (count - moved) (length now.left)
    → (room : List ℕ) × (length room ≡ min (count - moved) (length now.left))
    × (new ≡ taken_in now result room)
    × gives f place (min (count - moved) (length now.left)) result (moved_bytes result room) g)
    → Did written (reads_of gives) moved place (min (count - moved) (length now.left)) f now result g new
writer_next gives {count} {off} {first} {old} {moved} {place} {f} {now} result {g} {new} going below nothing lent =
    writer_did gives moved place (min (count - moved) (length now.left)) f now result g new (omega arith) below nothing lent

-- the next call of a loop over a reader
pub reader_next :
    {F : Type 0} (gives : F → List ℕ → ℕ → Option WritevFlags → Result ℕ (Option ℕ) → F → Type 0)
    (flags : Option WritevFlags)
    {count off : ℕ} {first : F} {old : Unread} {moved place : ℕ} {f : F} {now : Unread}
    (result : Result ℕ (Option ℕ)) {g : F} {new : Unread}
    → Going unread (writes_of gives old.left flags) count off first old moved place f now
    → IfOk result (λ n. n ≤ min (count - moved) (length now.left))
    → (min (count - moved) (length now.left) ≡ 0 → (result ≡ Ok 0) × (new ≡ now) × (g ≡ f))
    → (0 < min (count - moved) (length now.left)
    → (new ≡ taken_out now result)
    × gives f (take (min (count - moved) (length now.left)) now.left) place flags result g)
    → Did unread (writes_of gives old.left flags) moved place (min (count - moved) (length now.left)) f now result g new
reader_next gives flags {count} {off} {first} {old} {moved} {place} {f} {now} result {g} {new} going below nothing lent =
    let calls = writes_of gives old.left flags in
    let bytes = bytes_moved going.row in
    let size = goes_within calls count (length old.left) off 0 first going.row f (omega arith) going.goes in
    let moved_is = going.moved_is in
    let next : drop moved old.left ≡ now.left =
    ap (drop moved) going.moves.left ∙ drop_at bytes now.left moved (omega (arith, size.0, moved_is)) in
    reader_did gives old.left flags moved place (min (count - moved) (length now.left)) f now result g new next (omega arith) below nothing lent
