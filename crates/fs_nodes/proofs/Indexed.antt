-- The links and the index of a directory, after each change of one name.
use Rattle.std.proofs.Common.{◌≡◌, ◌+◌, ◌-◌, ◌^◌, ◌<◌, ◌≤◌, ℕ, not, List, ◌∷◌, map, find, filter, Some, None, option_map, Vec, Global, BTreeMap, nat_cmp, refl, sym, ap, ◌∙◌, subst, arith}
use Rattle.std.specs.Cmp.Lexicographic.{slice_cmp}
use Rattle.std.specs.Map.{lookup, remove_entry, set_value}
use Rattle.std.specs.BTreeMap.{UpdatesBy, insert_entry, is_at}
use Rattle.std.proofs.lemmas.Option.{none-some, same_Some}
use Rattle.vfs_files.proofs.Indexes.{mapped_some, mapped_none, index_same, index_changed}
use Rattle.fs_nodes.specs.Children.{Link, is_named, directories_of, relinked}
use Rattle.fs_nodes.specs.Index.{AreIndexed, place_of, place_named}
use Rattle.fs_nodes.specs.declared.children.Child.{Child}
use Rattle.fs_nodes.proofs.Finds.{every_filter}
use Rattle.fs_nodes.proofs.Index.{inserted_first, removed_first, found_by_place, removed_by_place, set_by_place, order_added, order_filtered, order_relinked, after_added, places_relinked, fewer_links, one_for, one_at_most, directories_some, counted, directories_removed, directories_set}
use Rattle.fs_nodes.proofs.Places.{place_added, place_added_other, place_removed, place_removed_other, place_relinked}

module _ (links : List (ℕ × Link)) (places : BTreeMap (Vec ℕ Global) ℕ) (next directories : ℕ)
    (old : AreIndexed links places next directories) where
  -- there are no more directories than places
  few_directories : directories ≤ 2 ^ 63
  few_directories =
      let few = fewer_links links (2 ^ 63) old.order old.within in
      omega (arith, old.count, directories_some links, few)

  -- one more still fits
  pub directories_fit : (link : Link) (n : ℕ) → n ≡ one_for link → directories + n < 2 ^ 64
  directories_fit link n is = omega (arith, is, one_at_most link, few_directories)

  -- a link that is a directory is counted
  pub link_counted : (place : ℕ) (link : Link) → lookup (is_at (nat_cmp place)) links ≡ Some link
      → one_for link ≤ directories
  link_counted place link found =
      omega (arith, old.count, directories_removed (is_at (nat_cmp place)) links link found)

  -- the index is another one with the same names
  pub indexed_same : (same : BTreeMap (Vec ℕ Global) ℕ) → same.entries ≡ places.entries
      → AreIndexed links same next directories
  indexed_same same is = record {
    order = old.order;
    following = old.following;
    within = old.within;
    room = old.room;
    index = index_same places same (place_named links) old.index is;
    count = old.count;
  }

  module _ (name : List ℕ) where
    -- a name that the index lacks is not there
    pub not_indexed : place_of places name ≡ None → find (is_named name) links ≡ None
    not_indexed none =
        mapped_none (λ (link : ℕ × Link). link.0) (find (is_named name) links)
        (sym (old.index name) ∙ none)

    module _ (place : ℕ) (has : place_of places name ≡ Some place) where
      -- the link at the place that the index has
      placed : (e : ℕ × Link) × (find (is_named name) links ≡ Some e) × (e.0 ≡ place)
      placed =
          mapped_some (λ (link : ℕ × Link). link.0) (find (is_named name) links) place
          (sym (old.index name) ∙ has)

      found_at : lookup (is_at (nat_cmp place)) links ≡ Some placed.0.1
      found_at =
          subst (λ (n : ℕ). lookup (is_at (nat_cmp n)) links ≡ Some placed.0.1) placed.2
          (found_by_place name links placed.0 old.order placed.1)

      -- it is found by its place, and is where the name leads
      pub link_found : (link : Link) → lookup (is_at (nat_cmp place)) links ≡ Some link
          → Some link.child ≡ option_map (λ (l : ℕ × Link). l.1.child) (find (is_named name) links)
      link_found link is =
          ap (λ (l : Link). Some l.child) (same_Some link placed.0.1 (sym is ∙ found_at))
          ∙ sym (ap (option_map (λ (l : ℕ × Link). l.1.child)) placed.1)

      pub link_missing : lookup (is_at (nat_cmp place)) links ≡ None → ⊥
      link_missing none = none-some placed.0.1 (sym none ∙ found_at)

      pub link_removed : remove_entry (is_at (nat_cmp place)) links
          ≡ filter (λ link. not (is_named name link)) links
      link_removed =
          subst (λ (n : ℕ). remove_entry (is_at (nat_cmp n)) links
          ≡ filter (λ link. not (is_named name link)) links) placed.2
          (removed_by_place name links placed.0 old.order placed.1)

      -- one name less
      pub indexed_removed : (link : Link) → lookup (is_at (nat_cmp place)) links ≡ Some link
          → (fewer : List (ℕ × Link)) → fewer ≡ remove_entry (is_at (nat_cmp place)) links
          → (changed : BTreeMap (Vec ℕ Global) ℕ)
          → UpdatesBy (λ x y. slice_cmp nat_cmp x.items y.items)
          (λ key. slice_cmp nat_cmp name key.items) places changed None
          → (counted : ℕ) → counted + one_for link ≡ directories
          → AreIndexed fewer changed next counted
      indexed_removed link found fewer is changed updates counted sum =
          let left = filter (λ link. not (is_named name link)) links in
          let same : left ≡ fewer = sym link_removed ∙ sym is in
          let gone = directories_removed (is_at (nat_cmp place)) links link found in
          let less = ap directories_of is in
          subst (λ (l : List (ℕ × Link)). AreIndexed l changed next counted) same (record {
            order = order_filtered (λ link. not (is_named name link)) links old.order;
            following = every_filter (λ link. next < link.0) (λ link. not (is_named name link)) links
                old.following;
            within = every_filter (λ link. link.0 < 2 ^ 63) (λ link. not (is_named name link)) links
                old.within;
            room = old.room;
            index = index_changed places changed (place_named links) old.index name None updates
                (place_named left) (place_removed links name)
                (place_removed_other links name);
            count = subst (λ (l : List (ℕ × Link)). counted ≡ directories_of l) (sym same)
                (omega (arith, gone, less, sum, old.count));
          })

      -- a name that leads elsewhere
      pub link_replaced : (child : Child) (link : Link)
          → lookup (is_at (nat_cmp place)) links ≡ Some link
          → set_value (is_at (nat_cmp place)) links (record link { child = child })
          ≡ map (relinked name child) links
      link_replaced child link found =
          let same = same_Some placed.0.1 link (sym found_at ∙ found) in
          subst (λ (l : Link). set_value (is_at (nat_cmp place)) links (record l { child = child })
          ≡ map (relinked name child) links) same
          (subst (λ (n : ℕ). set_value (is_at (nat_cmp n)) links
          (record placed.0.1 { child = child }) ≡ map (relinked name child) links) placed.2
          (set_by_place name child links placed.0 old.order placed.1))

      pub indexed_replaced : (child : Child) (link : Link)
          → lookup (is_at (nat_cmp place)) links ≡ Some link
          → (changed : List (ℕ × Link))
          → changed ≡ set_value (is_at (nat_cmp place)) links (record link { child = child })
          → (counted : ℕ)
          → counted + one_for link ≡ directories + one_for (record link { child = child })
          → AreIndexed changed places next counted
      indexed_replaced child link found changed is counted sum =
          let left = map (relinked name child) links in
          let new : Link = record link { child = child } in
          let same : left ≡ changed = sym (link_replaced child link found) ∙ sym is in
          let set = directories_set (is_at (nat_cmp place)) links link new found in
          let now = ap directories_of is in
          subst (λ (l : List (ℕ × Link)). AreIndexed l places next counted) same (record {
            order = order_relinked name child links old.order;
            following = places_relinked (λ n. next < n) name child links old.following;
            within = places_relinked (λ n. n < 2 ^ 63) name child links old.within;
            room = old.room;
            index = λ other. old.index other ∙ sym (place_relinked links name child other);
            count = subst (λ (l : List (ℕ × Link)). counted ≡ directories_of l) (sym same)
                (omega (arith, set, now, sum, old.count));
          })

      pub directories_replaced : (child : Child) (link : Link)
          → lookup (is_at (nat_cmp place)) links ≡ Some link → (counted : ℕ)
          → counted + one_for link ≡ directories + one_for (record link { child = child })
          → counted ≤ 2 ^ 63
      directories_replaced child link found counted sum =
          let changed = set_value (is_at (nat_cmp place)) links (record link { child = child }) in
          let new = indexed_replaced child link found changed refl counted sum in
          omega (
            arith,
            new.count,
            directories_some changed,
            fewer_links changed (2 ^ 63) new.order new.within,
          )

    -- one name more
    pub link_added : (child : Child) (more : List (ℕ × Link))
        → more ≡ insert_entry nat_cmp links next (record { name = name; child = child })
        → more ≡ (next, record { name = name; child = child }) ∷ links
    link_added child more is =
        is ∙ inserted_first links next (record { name = name; child = child }) old.following

    pub add_undone : (child : Child) (more back : List (ℕ × Link))
        → more ≡ insert_entry nat_cmp links next (record { name = name; child = child })
        → back ≡ remove_entry (is_at (nat_cmp next)) more → back ≡ links
    add_undone child more back is undone =
        undone ∙ ap (remove_entry (is_at (nat_cmp next))) (link_added child more is)
        ∙ removed_first links next (record { name = name; child = child })

    pub indexed_added : find (is_named name) links ≡ None → 0 < next → (child : Child)
        → (more : List (ℕ × Link))
        → more ≡ insert_entry nat_cmp links next (record { name = name; child = child })
        → (changed : BTreeMap (Vec ℕ Global) ℕ)
        → UpdatesBy (λ x y. slice_cmp nat_cmp x.items y.items)
        (λ key. slice_cmp nat_cmp name key.items) places changed (Some next)
        → (sum : ℕ) → sum ≡ directories + one_for (record { name = name; child = child })
        → AreIndexed more changed (next - 1) sum
    indexed_added none some child more is changed updates sum sums =
        let link : Link = record { name = name; child = child } in
        let all = (next, link) ∷ links in
        let same : all ≡ more = sym (link_added child more is) in
        subst (λ (l : List (ℕ × Link)). AreIndexed l changed (next - 1) sum) same (record {
          order = order_added name links next child old.order old.following none;
          following = after_added next link links some old.following;
          within = (old.room, old.within);
          room = omega (arith, old.room);
          index = index_changed places changed (place_named links) old.index name (Some next)
              updates (place_named all) (place_added links name next child)
              (place_added_other links name next child);
          count = omega (arith, counted (next, link) links, sums, old.count);
        })
