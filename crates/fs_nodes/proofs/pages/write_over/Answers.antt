use Rattle.std.proofs.Common.{◌≡◌, ◌≤◌, ◌+◌, ◌-◌, ◌++◌, ℕ, List, length, take, replicate, get_or, is_ok, vec_len, vec_capacity, ap, ◌∙◌, arith}
use Rattle.std.proofs.lemmas.Bool.{cond-true}
use Rattle.fs_nodes.proofs.HeldPages.{list_on}
use Rattle.fs_nodes.proofs.pages.write_over.Goals as goal

pub returns-clause-bytes : goal.returns-clause-bytes
returns-clause-bytes c =
    λ i.
    let v = c.args.page.now in
    let xs = v.items in
    let from = c.args.from in
    let bs = c.args.bytes.now in
    let size = v.ok.0 in
    let filled = c.resize.new.self in
    let room : from ≤ vec_capacity v = omega arith in
    let front : filled.items ≡ take from xs ++ replicate (from - length xs) 0 =
    c.resize.ensures.items
    ∙ cond-true (is_ok c.resize.result) (take from xs ++ replicate (from - vec_len v) 0) xs
    (c.resize.ensures.succeeds room)
    ∙ ap (λ n. take from xs ++ replicate (from - n) 0) size in
    let grown : vec_len filled + length bs ≤ vec_capacity filled =
    omega (
      arith,
      c.resize.ensures.capacity,
      c.resize.ensures.len,
      cond-true (is_ok c.resize.result) from (vec_len v) (c.resize.ensures.succeeds room),
    ) in
    let all : c.extend_from_slice.new.self.items ≡ (take from xs ++ replicate (from - length xs) 0) ++ bs =
    c.extend_from_slice.ensures.items
    ∙ cond-true (is_ok c.extend_from_slice.result) (filled.items ++ bs) filled.items
    (c.extend_from_slice.ensures.succeeds grown)
    ∙ ap (λ (l : List ℕ). l ++ bs) front in
    ap (λ (l : List ℕ). get_or l i 0) all ∙ list_on from bs xs i (omega (arith, size, c.len.ensures))
