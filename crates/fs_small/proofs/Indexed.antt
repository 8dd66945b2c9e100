-- The files and their index, after each change.
use Rattle.std.proofs.Common.{◌≡◌, ◌<◌, ◌+◌, ℕ, true, false, cond, List, [], ◌∷◌, ◌++◌, length, take, drop, get_or, set, find, position, remove, Some, None, option_map, bytes_eq, nat_cmp, nat_lt, Vec, Global, BTreeMap, refl, zero, suc, sym, ap, ◌∙◌, arith, ⊎_elim}
use Rattle.std.specs.Cmp.Lexicographic.{slice_cmp, nat_list_eq_equiv}
use Rattle.std.specs.BTreeMap.{UpdatesBy}
use Rattle.std.proofs.lemmas.Bool.{cases_Bool, ltb-true, ltb-false}
use Rattle.std.proofs.lemmas.Bool.Decides.{eqb_tells}
use Rattle.std.proofs.lemmas.List.{get_or_default, get_or_read, get_or-set_same, get_or-set_other, length-set}
use Rattle.std.proofs.lemmas.List.Edits.{get_or-remove_below, get_or-remove_above, length-remove}
use Rattle.std.proofs.lemmas.List.Elements.{All-append, All-take, All-drop, All-push, All-weaker}
use Rattle.std.proofs.lemmas.List.Quantifiers.{position-Some, all_pairs_push, all_pairs_remove}
use Rattle.vfs_files.proofs.Indexes.{other_name, same_name, turned_name, index_same, index_changed}
use Rattle.fs_small.specs.MemFs.{Stored}
use Rattle.fs_small.specs.Index.{ComesBefore, AreIndexed, is_named, node_named}
use Rattle.fs_small.proofs.Searches.{position_none, find_none, fails_at, find_pushed, find_push_other, find_removed_other}

-- the node of a name does not depend on the contents of a file
node_written : (name contents : List ℕ) (files : List Stored) (place : ℕ) (file : Stored)
    → file ≡ get_or files place file
    → node_named (set files place (record file { contents = contents })) name
    ≡ node_named files name
node_written name contents [] place file is = refl
node_written name contents (f ∷ fs) zero file is =
    let rest = find (is_named name) fs in
    ap (λ (x : Stored). option_map (λ f. f.node)
    (cond (is_named name x) (Some (record x { contents = contents })) rest)) is
    ∙ elim (is_named name f) as
    (λ t. option_map (λ f. f.node) (cond t (Some (record f { contents = contents })) rest)
    ≡ option_map (λ f. f.node) (cond t (Some f) rest)) [ true ↦ refl | false ↦ refl ]
node_written name contents (f ∷ fs) (suc place) file is =
    let more = node_written name contents fs place file is in
    elim (is_named name f) as
    (λ t. option_map (λ f. f.node) (cond t (Some f)
    (find (is_named name) (set fs place (record file { contents = contents }))))
    ≡ option_map (λ f. f.node) (cond t (Some f) (find (is_named name) fs)))
    [ true ↦ refl | false ↦ more ]

-- ---- after a change

module _ (files : List Stored) (names : BTreeMap (Vec ℕ Global) ℕ) (next : ℕ)
    (old : AreIndexed files names next) where
  -- the index is another one with the same names
  pub indexed_same : (same : BTreeMap (Vec ℕ Global) ℕ) → same.entries ≡ names.entries
      → AreIndexed files same next
  indexed_same same is = record {
    order = old.order;
    before = old.before;
    index = index_same names same (node_named files) old.index is;
  }

  -- one file more
  pub indexed_added : (file : Stored) → file.node ≡ next
      → position (is_named file.name) files ≡ None → (changed : BTreeMap (Vec ℕ Global) ℕ)
      → UpdatesBy (λ x y. slice_cmp nat_cmp x.items y.items)
      (λ key. slice_cmp nat_cmp file.name key.items) names changed (Some next)
      → AreIndexed (files ++ file ∷ []) changed (next + 1)
  indexed_added file is none changed updates = record {
    order = all_pairs_push ComesBefore files file old.order (λ k d within. record {
      rises = omega (arith, is, old.before k d within);
      apart = turned_name (get_or files k d).name file.name false
          (fails_at (is_named file.name) files none k d within);
    });
    before = All-push (λ f. f.node < next + 1) files file
        (All-weaker (λ f. f.node < next) (λ f. f.node < next + 1) (λ f h. omega (arith, h)) files
        old.before) (omega (arith, is));
    index = index_changed names changed (node_named files) old.index file.name (Some next) updates
        (node_named (files ++ file ∷ []))
        (ap (option_map (λ f. f.node)) (find_pushed (is_named file.name) files file none
        (nat_list_eq_equiv.refl file.name)) ∙ ap (λ n. Some n) is)
        (λ other apart. ap (option_map (λ f. f.node))
        (find_push_other (is_named other) files file apart));
  }

  -- one file less
  module _ (name : List ℕ) (place : ℕ) (at : position (is_named name) files ≡ Some place) where
    none : Stored
    none = record { node = 0; name = []; contents = [] }

    within : place < length files
    within = (position-Some (is_named name) files place none at).0

    named : (d : Stored) → is_named name (get_or files place d) ≡ true
    named d = (position-Some (is_named name) files place d at).1

    gone : (k : ℕ) → k < length (remove files place)
        → is_named name (get_or (remove files place) k none) ≡ false
    gone k inside =
        let fewer = length-remove files place within in
        ⊎_elim
        (λ (under : nat_lt k place ≡ true).
        ap (is_named name)
        (get_or-remove_below files place none k (ltb-true k place under) within)
        ∙ (position-Some (is_named name) files place none at).2 k (ltb-true k place under))
        (λ (over : nat_lt k place ≡ false).
        let from = ltb-false k place over in
        let apart = (old.order place (k + 1) none (omega (arith, from))
        (omega (arith, inside, fewer))).apart in
        ap (is_named name) (get_or-remove_above files place none k from within)
        ∙ ap (λ (l : List ℕ). is_named l (get_or files (k + 1) none))
        (sym (same_name (get_or files place none).name name (named none)))
        ∙ apart)
        (cases_Bool (nat_lt k place))

    pub indexed_removed : (changed : BTreeMap (Vec ℕ Global) ℕ)
        → UpdatesBy (λ x y. slice_cmp nat_cmp x.items y.items)
        (λ key. slice_cmp nat_cmp name key.items) names changed None
        → AreIndexed (remove files place) changed next
    indexed_removed changed updates = record {
      order = all_pairs_remove ComesBefore files place within old.order;
      before = All-append (λ f. f.node < next) (take place files) (drop (suc place) files)
          (All-take (λ f. f.node < next) place files old.before)
          (All-drop (λ f. f.node < next) (suc place) files old.before);
      index = index_changed names changed (node_named files) old.index name None updates
          (node_named (remove files place))
          (ap (option_map (λ f. f.node)) (find_none (is_named name) (remove files place)
          (position_none (is_named name) (remove files place) none gone)))
          (λ other apart. ap (option_map (λ f. f.node))
          (find_removed_other (is_named other) files place (get_or files place none) within
          (get_or_default files place none (get_or files place none) within)
          (turned_name other (get_or files place none).name false
          (other_name name other (get_or files place none).name apart
          (turned_name (get_or files place none).name name true (named none))))));
    }

  -- other contents
  module _ (place : ℕ) (file : Stored) (contents : List ℕ) (within : place < length files)
      (is : file ≡ get_or files place file) where
    abbrev new : Stored
    new = record file { contents = contents }

    alike : (k : ℕ) (d : Stored) → k < length files
        → ((get_or (set files place new) k d).node ≡ (get_or files k d).node)
        × ((get_or (set files place new) k d).name ≡ (get_or files k d).name)
    alike k d inside =
        ⊎_elim
        (λ here.
        let now : get_or (set files place new) k d ≡ new =
        ap (λ (n : ℕ). get_or (set files place new) n d) here.1
        ∙ get_or-set_same files place new d within in
        let was : get_or files k d ≡ file =
        ap (λ (n : ℕ). get_or files n d) here.1 ∙ sym (get_or_read files place file within is d) in (
          ap (λ (f : Stored). f.node) now ∙ sym (ap (λ (f : Stored). f.node) was),
          ap (λ (f : Stored). f.name) now ∙ sym (ap (λ (f : Stored). f.name) was),
        ))
        (λ there.
        let same = get_or-set_other files place k new d there.1 in
        (ap (λ (f : Stored). f.node) same, ap (λ (f : Stored). f.name) same))
        (eqb_tells k place)

    pub indexed_written : AreIndexed (set files place new) names next
    indexed_written =
        let len = length-set files place new in
        record {
          order = λ i j d less inside.
              let a = alike i d (omega (arith, len)) in
              let b = alike j d (omega (arith, len)) in
              let was = old.order i j d less (omega (arith, len)) in
              record {
                rises = omega (arith, a.0, b.0, was.rises);
                apart = ap (λ (l : List ℕ). is_named l (get_or (set files place new) j d)) a.1
                    ∙ ap (λ (l : List ℕ). bytes_eq l (get_or files i d).name) b.1 ∙ was.apart;
              };
          before = λ k d inside.
              let a = alike k d (omega (arith, len)) in
              omega (arith, a.0, old.before k d (omega (arith, len)));
          index = λ other. old.index other ∙ sym (node_written other contents files place file is);
        }
