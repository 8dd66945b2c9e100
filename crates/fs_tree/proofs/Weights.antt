-- How many bytes a node takes before and after a change.
use Rattle.std.proofs.Common.{◌≡◌, Ok, ◌≤◌, ◌-◌, ◌+◌, ◌*◌, ◌/◌, ◌==◌, ◌&&◌, not, nat_eq, nat_lt, ℕ, Bool, true, false, zero, suc, ◌⊎◌, inl, inr, ⊎_elim, List, [], ◌∷◌, None, length, take, refl, sym, ap, ◌∙◌, arith, length-take}
use Rattle.std.specs.List.{list_any}
use Rattle.std.proofs.lemmas.Bool.{ltb-false}
use Rattle.vfs_flags.specs.Numbers.{einval, enospc, eopnotsupp, efbig, enodev}
use Rattle.vfs_files.specs.Bytes.{fitting}
use Rattle.fs_nodes.specs.Contents.{fallocated, pages_over}
use Rattle.fs_nodes.specs.Pages.{reach}
use Rattle.fs_nodes.specs.Children.{is_file}
use Rattle.fs_nodes.specs.Node.{weight, rewritten, overwritten}
use Rattle.fs_nodes.specs.Writing.{Overwrites}
use Rattle.fs_nodes.specs.declared.node.Node.{Node}
use Rattle.fs_nodes.specs.declared.node.Time.{Time}
use Rattle.fs_nodes.proofs.Weights.{overwritten_weighs, fallocated_holds, stripped_bytes}
use Rattle.fs_tree.proofs.Answering.{first_false}
use Rattle.fs_tree.specs.State.{State, room_of}
use Rattle.fs_tree.specs.Tree.{most_size, longest, fallocate_refusal}

-- bytes that fit end within a limit, unless none fits
pub fitting_ends : (most off : ℕ) (bytes : List ℕ)
    → off + length (fitting most off bytes) ≤ most ⊎ (fitting most off bytes ≡ [])
fitting_ends most off bytes = by (most - off) refl
  where
    by : (n : ℕ) → most - off ≡ n → off + length (take n bytes) ≤ most ⊎ (take n bytes ≡ [])
    by zero is = inr refl
    by (suc n) is = inl (omega (arith, is, length-take (suc n) bytes))

-- a file that is written into takes no more bytes than there is room for
pub written_fits : (s : State) (node : Node) (now : Time) (delayed kill : Bool) (off size : ℕ)
    (bytes : List ℕ)
    → weight (overwritten now delayed kill node off (fitting (most_size s off size node) off bytes))
    ≤ weight node + room_of s
written_fits s node now delayed kill off size bytes =
    let fit = fitting (most_size s off size node) off bytes in
    let free : ℕ = room_of s / 4096 in
    let ends : off + length fit
    ≤ 4096 * reach node.contents.held free (off / 4096) (pages_over off size) ⊎ (fit ≡ []) =
    ⊎_elim (λ (h : off + length fit ≤ most_size s off size node). inl (omega (arith, h)))
    (λ (none : fit ≡ []). inr none)
    (fitting_ends (most_size s off size node) off bytes) in
    omega (arith, overwritten_weighs now delayed kill node off fit free size ends)

pub overwritten_fits : (s : State) (node new : Node) (now : Time) (delayed kill : Bool)
    (off size most count : ℕ) (bytes : List ℕ)
    → most ≡ most_size s off size node
    → Overwrites most now delayed kill node off bytes (Ok count) new
    → weight new - weight node ≤ room_of s
overwritten_fits s node new now delayed kill off size most count bytes is wrote =
    let same = ap (λ m. weight (overwritten now delayed kill node off (fitting m off bytes))) is in
    omega (arith, written_fits s node now delayed kill off size bytes, same, ap weight wrote.1)

-- where FALLOCATE is not refused there is room for its bytes, unless they become a hole
pub fallocate_room : (s : State) (mode off len : ℕ) (node : Node)
    → fallocate_refusal s mode off len node ≡ None → (mode == 3) ≡ false
    → off + len ≤ most_size s off len node
fallocate_room s mode off len node none other =
    let most : ℕ = most_size s off len node in
    let served : Bool = list_any (nat_eq mode) (0 ∷ 1 ∷ 3 ∷ 16 ∷ 17 ∷ []) in
    let fifth : List (Bool × ℕ) = (not (mode == 3) && nat_lt most (off + len), enospc) ∷ [] in
    let fourth : List (Bool × ℕ) = (nat_lt (longest s) (off + len), efbig) ∷ fifth in
    let third : List (Bool × ℕ) = (not (is_file node.kind), enodev) ∷ fourth in
    let two = first_false (len == 0) einval ((not served, eopnotsupp) ∷ third) none in
    let three = first_false (not served) eopnotsupp third two.1 in
    let four = first_false (not (is_file node.kind)) enodev fourth three.1 in
    let five = first_false (nat_lt (longest s) (off + len)) efbig fifth four.1 in
    let last = first_false (not (mode == 3) && nat_lt most (off + len)) enospc [] five.1 in
    ltb-false most (off + len) (sym (ap (λ t. not t && nat_lt most (off + len)) other) ∙ last.0)

-- so does one after it
pub fallocated_fits : (s : State) (node : Node) (now : Time) (mode off len : ℕ)
    → fallocate_refusal s mode off len node ≡ None
    → weight (rewritten now true false node (fallocated mode off len node.contents))
    ≤ weight node + room_of s
fallocated_fits s node now mode off len none =
    let free : ℕ = room_of s / 4096 in
    omega (
      arith,
      fallocated_holds node.contents mode off len free len
          (λ other. omega (arith, fallocate_room s mode off len node none other)),
      stripped_bytes true false node,
    )
