-- The files in order of their nodes: each is found by its node as by its name.
use Rattle.std.proofs.Common.{◌≡◌, ◌<◌, ◌≤◌, ◌+◌, ℕ, true, false, List, [], length, get_or, find, position, Some, None, nat_lt, ◌==◌, eq-eqb, sym, ap, ◌∙◌, arith, ⊎_elim}
use Rattle.std.specs.List.{AllPairs}
use Rattle.std.proofs.lemmas.Bool.{ltb-true, ltb-false, ne_eqb, cases_Bool}
use Rattle.std.proofs.lemmas.List.{get_or_read}
use Rattle.vfs_files.proofs.Indexes.{mapped_some, mapped_none}
use Rattle.fs_small.specs.MemFs.{Stored}
use Rattle.fs_small.specs.Index.{ComesBefore, is_named, node_named}
use Rattle.fs_small.proofs.Searches.{position_is, position_none, position_missing, place_of_found}

module _ (files : List Stored) (order : AllPairs ComesBefore files) (node : ℕ) where
  -- the file that has the node at its place
  pub place_found : (i : ℕ) (file : Stored) → i < length files → file ≡ get_or files i file
      → file.node ≡ node → position (λ f. f.node == node) files ≡ Some i
  place_found i file within is same =
      let here : (get_or files i file).node ≡ node = ap (λ (f : Stored). f.node) (sym is) ∙ same in
      position_is (λ f. f.node == node) files i file within (eq-eqb _ _ here)
      (λ k below. let rises = (order k i file below within).rises in
      ne_eqb (get_or files k file).node node (λ e. omega (arith, rises, here, e)))

  pub place_missing : (n : ℕ)
      → ((k : ℕ) (d : Stored) → k < n → (get_or files k d).node < node)
      → ((k : ℕ) (d : Stored) → n ≤ k → k < length files → node < (get_or files k d).node)
      → position (λ f. f.node == node) files ≡ None
  place_missing n below above =
      let none : Stored = record { node = 0; name = []; contents = [] } in
      position_none (λ f. f.node == node) files none
      (λ k within. ne_eqb (get_or files k none).node node
      (λ e. ⊎_elim
      (λ under. let less = below k none (ltb-true k n under) in omega (arith, less, e))
      (λ over. let more = above k none (ltb-false k n over) within in omega (arith, more, e))
      (cases_Bool (nat_lt k n))))

  -- what is known of one place tells of all before it, or after it
  pub all_before : (i : ℕ) (file : Stored) → i < length files → file ≡ get_or files i file
      → file.node < node → (k : ℕ) (d : Stored) → k < i + 1 → (get_or files k d).node < node
  all_before i file within is less k d below =
      let here = get_or_read files i file within is d in
      let same = ap (λ (f : Stored). f.node) here in
      ⊎_elim
      (λ (under : nat_lt k i ≡ true).
      let rises = (order k i d (ltb-true k i under) within).rises in
      omega (arith, rises, less, same))
      (λ (over : nat_lt k i ≡ false).
      let at : k ≡ i = omega (arith, ltb-false k i over, below) in
      let there = ap (λ (n : ℕ). (get_or files n d).node) at in
      omega (arith, there, same, less))
      (cases_Bool (nat_lt k i))

  pub all_after : (i : ℕ) (file : Stored) → i < length files → file ≡ get_or files i file
      → node < file.node
      → (k : ℕ) (d : Stored) → i ≤ k → k < length files → node < (get_or files k d).node
  all_after i file within is more k d from within' =
      let here = get_or_read files i file within is d in
      let same = ap (λ (f : Stored). f.node) here in
      ⊎_elim
      (λ (over : nat_lt i k ≡ true).
      let rises = (order i k d (ltb-true i k over) within').rises in
      omega (arith, rises, more, same))
      (λ (under : nat_lt i k ≡ false).
      let at : k ≡ i = omega (arith, ltb-false i k under, from) in
      let there = ap (λ (n : ℕ). (get_or files n d).node) at in
      omega (arith, there, same, more))
      (cases_Bool (nat_lt i k))

-- ---- by name

-- a name is there where its node is
pub place_named : (files : List Stored) → AllPairs ComesBefore files
    → (name : List ℕ) (node : ℕ) → node_named files name ≡ Some node
    → position (λ f. f.node == node) files ≡ position (is_named name) files
place_named files order name node has =
    let t = mapped_some (λ (f : Stored). f.node) (find (is_named name) files) node has in
    let at = place_of_found (is_named name) files t.0 t.1 in
    place_found files order node at.0 t.0 at.1 at.2 t.2 ∙ sym at.3

pub none_named : (files : List Stored) (name : List ℕ) → node_named files name ≡ None
    → position (is_named name) files ≡ None
none_named files name none =
    position_missing (is_named name) files
    (mapped_none (λ (f : Stored). f.node) (find (is_named name) files) none)
