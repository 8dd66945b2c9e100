-- Calls keep the way up to the root.
use Rattle.std.proofs.Common.{min, ◌≡◌, ◌≢◌, ◌<◌, ◌+◌, ◌-◌, ◌==◌, ◌&&◌, ◌||◌, ◌^◌, nat_le, nat_lt, not, ℕ, zero, suc, Bool, true, false, List, [], ◌∷◌, length, Option, Some, None, IsSome, is_some, is_none, refl, sym, ap, subst, ◌∙◌, arith, if◌then◌else◌, ◌⊎◌, inl, inr, ⊎_elim}
use Rattle.std.proofs.lemmas.Bool.{both_ways, false≢true, not-false, eqb-false, and_cases}
use Rattle.std.proofs.lemmas.Option.{none-some, same_Some}
use Rattle.vfs_flags.specs.Numbers.{eperm, enoent, eexist, enotdir, einval, enospc, eoverflow, enametoolong, emlink}
use Rattle.fs_tree.specs.Children.{Children, is_directory, leading}
use Rattle.fs_tree.specs.Node.{accessed, new_node}
use Rattle.laws_tree.specs.Laws.{IsSound, IsLinked, IsRooted, CallsKeepTheWayUp, above}
use Rattle.fs_tree.specs.Outcome.{first_of}
use Rattle.fs_tree.specs.Rename.{is_below, is_own_child, same_node, parent_of, moved_into, whiteout, renamed}
use Rattle.fs_tree.specs.State.{State, node_at, room_of, with_node, with_resized, with_new, without_node, settled, change, lead, child_at}
use Rattle.fs_tree.specs.Tree.{linked, all_forgotten, taken_out, make_refusal, link_refusal}
use Rattle.fs_nodes.specs.declared.children.Child.{Child}
use Rattle.fs_nodes.specs.declared.kind.Kind.{Kind}
use Rattle.fs_nodes.specs.declared.node.Node.{Node}
use Rattle.laws_tree.proofs.Ascending.{gone-remove_entry, none_from}
use Rattle.laws_tree.proofs.Cases.{more_inodes, Covers, calls_covered}
use Rattle.laws_tree.proofs.Held.{at, sound_counted, settles}
use Rattle.laws_tree.proofs.Keeping.{keeps-with_names, keeps-begun, keeps-laid, there-change}
use Rattle.fs_tree.proofs.Nodes.{node_at-with_node, node_at-with_node_other, node_at-without_node_other, node_at-with_new, node_at-with_new_other, kinds_apart, changed, with_names}
use Rattle.laws_tree.proofs.WayUp.{IsPlaced, Goes, Avoids, rooted_from, goes_from, placed_from, names_place, name_leads, rooted_ways, goes_still, avoids_from, goes_on}
use Rattle.laws_tree.proofs.Refused.{all_false, or_none, Renames}
use Rattle.fs_tree.specs.Naming.{is_improper, directory_refusal, is_directory_at, is_nameless, is_crowded, name_refusal, has_no_number}
use Rattle.laws_tree.proofs.Changes.{unnamed_at, forgotten_at, made, nameless, white_of, begun, back_of, laid, left_with}
use Rattle.vfs_files.specs.declared.entry.Context.{Context}
use Rattle.laws_tree.proofs.Telling.{told_rooted}

-- ---- directories that lie where they lay

-- a directory that has a name had one and lies where it lay; what is gone leads to the root
record Follows (s new : State) : Type 0 where
  pub from : (m : ℕ) → IsPlaced new m → IsPlaced s m
  pub parents : (m : ℕ)
      → (parent_of (node_at new m) ≡ parent_of (node_at s m)) ⊎ (parent_of (node_at new m) ≡ 1)

-- the same of nodes none of which is gone
record Stays (s new : State) : Type 0 where
  pub from : (m : ℕ) → IsPlaced new m → IsPlaced s m
  pub parents : (m : ℕ) → parent_of (node_at new m) ≡ parent_of (node_at s m)

stays_itself : (s : State) → Stays s s
stays_itself s = record { from = λ m there. there; parents = λ m. refl }

stays_both : (a b c : State) → Stays a b → Stays b c → Stays a c
stays_both a b c first more = record {
  from = λ m there. first.from m (more.from m there);
  parents = λ m. more.parents m ∙ first.parents m;
}

follows_stays : (s new : State) → Stays s new → Follows s new
follows_stays s new stays = record { from = stays.from; parents = λ m. inl (stays.parents m) }

-- however many inodes are counted
counted_placed : (s : State) (inodes m : ℕ) → IsPlaced (record s { inodes = inodes }) m → IsPlaced s m
counted_placed s inodes m there = record {
  node = there.node;
  is = there.is;
  directory = there.directory;
  named = there.named;
}

stays_counted : (s : State) (inodes : ℕ) → Stays s (record s { inodes = inodes })
stays_counted s inodes = record { from = counted_placed s inodes; parents = λ m. refl }

follows_counted : (s : State) (inodes : ℕ) (new : State) → Follows (record s { inodes = inodes }) new
    → Follows s new
follows_counted s inodes new f = record {
  from = λ m there. counted_placed s inodes m (f.from m there);
  parents = f.parents;
}

follows_both : (a b c : State) → Follows a b → Follows b c → Follows a c
follows_both a b c first more = record {
  from = λ m there. first.from m (more.from m there);
  parents = λ m. ⊎_elim
      (λ same. ⊎_elim (λ was. inl (same ∙ was)) (λ root. inr (same ∙ root)) (first.parents m))
      (λ root. inr root)
      (more.parents m);
}

goes-follows : (s new : State) → Follows s new → (k n : ℕ) → above s k n ≡ 1 → Goes new n
goes-follows s new f zero n e = (0, e)
goes-follows s new f (suc k) n e =
    let rest = goes-follows s new f k (parent_of (node_at s n)) e in
    ⊎_elim
    (λ same. (suc rest.0, ap (above new rest.0) same ∙ rest.1))
    (λ root. (1, root))
    (f.parents n)

rooted-follows : (s new : State) → Follows s new → IsRooted s → IsRooted new
rooted-follows s new f rooted =
    rooted_from new
    (λ n there. let way = goes_from s rooted n (f.from n there) in
    goes-follows s new f way.0 n way.1)

-- ---- a node that is changed

-- a node that lies where another lay, and has a name as a directory where that had one
record Likes (was node : Node) : Type 0 where
  pub kind : node.kind ≡ was.kind
  pub parent : node.parent ≡ was.parent
  pub named : is_directory was.kind ≡ true → 0 < node.names → 0 < was.names

-- what is found at a number is this node
placed_at : (s : State) (n : ℕ) (node : Node) → node_at s n ≡ Some node → IsPlaced s n
    → (is_directory node.kind ≡ true) × (0 < node.names)
placed_at s n node is there =
    let same : there.node ≡ node = same_Some there.node node (sym there.is ∙ is) in (
      subst (λ x. is_directory x.kind ≡ true) same there.directory,
      subst (λ x. 0 < x.names) same there.named,
    )

module _ (s : State) (n : ℕ) (was node : Node) (is : node_at s n ≡ Some was)
    (named : is_directory was.kind ≡ true → 0 < node.names → 0 < was.names)
    (kind : node.kind ≡ was.kind) where
  from_here : IsPlaced (with_node s n node) n → IsPlaced s n
  from_here there =
      let facts = placed_at (with_node s n node) n node
      (node_at-with_node s n n node was is) there in
      let directory = ap is_directory (sym kind) ∙ facts.0 in
      record { node = was; is = is; directory = directory; named = named directory facts.1 }

  from-with_node : (m : ℕ) → IsPlaced (with_node s n node) m → IsPlaced s m
  from-with_node m there =
      at n m (IsPlaced s m)
      (λ e. subst (λ k. IsPlaced s k) e
      (from_here (subst (λ k. IsPlaced (with_node s n node) k) (sym e) there)))
      (λ apart. record {
        node = there.node;
        is = sym (node_at-with_node_other s n m node apart) ∙ there.is;
        directory = there.directory;
        named = there.named;
      })

module _ (s : State) (n : ℕ) (was node : Node) (is : node_at s n ≡ Some was)
    (likes : Likes was node) where
  stays-with_node : Stays s (with_node s n node)
  stays-with_node =
      let new = with_node s n node in
      record {
        from = from-with_node s n was node is likes.named likes.kind;
        parents = λ m. at n m (parent_of (node_at new m) ≡ parent_of (node_at s m))
            (λ e. subst (λ k. parent_of (node_at new k) ≡ parent_of (node_at s k)) e
            (ap parent_of (node_at-with_node s n n node was is) ∙ likes.parent
            ∙ sym (ap parent_of is)))
            (λ apart. ap parent_of (node_at-with_node_other s n m node apart));
      }

  follows-without_node : IsSound s → Follows s (without_node s n node)
  follows-without_node sound =
      let new = without_node s n node in
      let gone : node_at new n ≡ None = gone-remove_entry 1 s.next n s.nodes sound.ordered in
      record {
        from = λ m there. at n m (IsPlaced s m)
            (λ e. absurd (none-some there.node
            (sym gone ∙ ap (node_at new) e ∙ there.is)))
            (λ apart. record {
              node = there.node;
              is = sym (node_at-without_node_other s n m node apart) ∙ there.is;
              directory = there.directory;
              named = there.named;
            });
        parents = λ m. at n m
            ((parent_of (node_at new m) ≡ parent_of (node_at s m)) ⊎ (parent_of (node_at new m) ≡ 1))
            (λ e. inr (ap (λ k. parent_of (node_at new k)) (sym e) ∙ ap parent_of gone))
            (λ apart. inl (ap parent_of (node_at-without_node_other s n m node apart)));
      }

  follows-settled : IsSound s → Follows s (settled s n node)
  follows-settled sound = by (node.names == 0 && node.lookups == 0)
    where
      by : (t : Bool) → Follows s (if t then without_node s n node else with_node s n node)
      by true = follows-without_node sound
      by false = follows_stays s (with_node s n node) stays-with_node

-- ---- changes

stays-changed : (s : State) (n : ℕ) (f : Node → Node) → ((node : Node) → Likes node (f node))
    → (o : Option Node) → node_at s n ≡ o → Stays s (changed s n f o)
stays-changed s n f likes None is = stays_itself s
stays-changed s n f likes (Some node) is = stays-with_node s n node (f node) is (likes node)

stays-with_names : (s : State) (d : ℕ) (f : Children → Children) → Stays s (with_names s d f)
stays-with_names s d f =
    stays-changed s d _ (λ node. record { kind = refl; parent = refl; named = λ dir some. some })
    (node_at s d) refl

follows-with_resized : (s : State) (n : ℕ) (was node : Node) → node_at s n ≡ Some was
    → Likes was node → Follows s (with_resized s n was node)
follows-with_resized s n was node is likes =
    let stays = stays-with_node s n was node is likes in
    record {
      from = λ m there. stays.from m (record {
        node = there.node;
        is = there.is;
        directory = there.directory;
        named = there.named;
      });
      parents = λ m. inl (stays.parents m);
    }

follows-unnamed : (s : State) (n : ℕ) (o : Option Node) → node_at s n ≡ o → IsSound s
    → Follows s (unnamed_at s n o)
follows-unnamed s n None is sound = follows_stays s s (stays_itself s)
follows-unnamed s n (Some node) is sound =
    let less = s.inodes - min (node.names - 1) 1 in
    let left : Node = record node { names = node.names - 1; ctime = s.now } in
    follows_counted s less (settled (record s { inodes = less }) n left)
    (follows-settled (record s { inodes = less }) n node left is
    (record { kind = refl; parent = refl; named = λ dir some. omega (arith, some) })
    (sound_counted s less sound))

follows-all_forgotten : (s : State) (pairs : List (ℕ × ℕ)) → IsSound s
    → Follows s (all_forgotten s pairs)
follows-all_forgotten s [] sound = follows_stays s s (stays_itself s)
follows-all_forgotten s (r ∷ rs) sound =
    by (node_at s r.0) refl (λ mid there. follows-all_forgotten mid rs there)
  where
    by : (o : Option Node) → node_at s r.0 ≡ o
        → ((mid : State) → IsSound mid → Follows mid (all_forgotten mid rs))
        → Follows s (all_forgotten (forgotten_at s r.0 r.1 o) rs)
    by None is more = more s sound
    by (Some node) is more =
        let left : Node = record node { lookups = node.lookups - r.1 } in
        let mid = settled s r.0 left in
        follows_both s mid (all_forgotten mid rs)
        (follows-settled s r.0 node left is
        (record { kind = refl; parent = refl; named = λ dir some. some }) sound)
        (more mid (settles s r.0 node left is sound).stays)

follows-taken_out : (s : State) (parent : ℕ) (name : List ℕ) (child : Child) → IsSound s
    → Follows s (taken_out s parent name child)
follows-taken_out s parent name child sound =
    let rest = with_names s parent (leading name true None) in
    follows_both s rest (taken_out s parent name child)
    (follows_stays s rest (stays-with_names s parent _))
    (follows-unnamed rest child.node (node_at rest child.node) refl
    (keeps-with_names s parent (leading name true None) sound).sound)

-- ---- refusals

directory_there : (o : Option Node) (name : List ℕ) → directory_refusal o name ≡ None
    → is_directory_at o ≡ true
directory_there o name none =
    let facts = all_false ((is_none o, enoent) ∷ (not (is_directory_at o), enotdir)
    ∷ (nat_lt 255 (length name), enametoolong) ∷ []) none in
    not-false (is_directory_at o) facts.1.0

-- a directory with a name, in which a new one can be made
named_there : (s : State) (parent : ℕ) (name : List ℕ) → name_refusal s parent name ≡ None
    → (is_directory_at (node_at s parent) ≡ true) × (is_nameless (node_at s parent) ≡ false)
named_there s parent name none =
    let rs : List (Bool × ℕ) = (is_nameless (node_at s parent), enoent) ∷ (is_improper name, einval)
    ∷ (is_some (child_at s parent name), eexist) ∷ [] in
    let parts = or_none (directory_refusal (node_at s parent) name) (first_of rs) none in
    (directory_there (node_at s parent) name parts.0, (all_false rs parts.1).0)

not_below : (s : State) (child : Child) (d : ℕ) → is_own_child s (Some child) d ≡ false
    → IsPlaced s child.node → is_below s (length s.nodes) child.node d ≡ false
not_below s child d none there =
    let is_one = is_directory_at (node_at s child.node) in
    ⊎_elim
    (λ no. absurd (both_ways is_one no (ap is_directory_at there.is ∙ there.directory)))
    (λ not. not)
    (and_cases is_one (is_below s (length s.nodes) child.node d) none)

own_way : (s : State) (child : Child) (d : ℕ) → is_own_child s (Some child) d ≡ false
    → IsPlaced s child.node → (j : ℕ) × Avoids s child.node j d
own_way s child d none there =
    avoids_from s child.node (length s.nodes) d (not_below s child d none there)

-- ---- a node that comes to lie in another directory

record Moves (s new : State) (n d : ℕ) : Type 0 where
  pub from : (m : ℕ) → IsPlaced new m → IsPlaced s m
  pub here : IsSome (node_at s n) → parent_of (node_at new n) ≡ d
  pub other : (m : ℕ) → m ≢ n → parent_of (node_at new m) ≡ parent_of (node_at s m)

moves-moved_into : (s : State) (n d : ℕ) → Moves s (moved_into s n d) n d
moves-moved_into s n d = by (node_at s n) refl
  where
    by : (o : Option Node) → node_at s n ≡ o
        → Moves s (changed s n (λ node. record node { parent = d; ctime = s.now }) o) n d
    by None is = record {
      from = λ m there. there;
      here = λ some. let none = ap is_some is in cc (some, none);
      other = λ m apart. refl;
    }
    by (Some node) is =
        let moved : Node = record node { parent = d; ctime = s.now } in
        record {
          from = from-with_node s n node moved is (λ dir some. some) refl;
          here = λ some. ap parent_of (node_at-with_node s n n moved node is);
          other = λ m apart. ap parent_of (node_at-with_node_other s n m moved apart);
        }

module _ (s : State) (sound : IsSound s) (linked : IsLinked s) (new : State) (c d : ℕ)
    (placed : IsPlaced s d)
    (turns : (m : ℕ) → IsPlaced s m → m ≢ 1 → m ≢ c
    → (parent_of (node_at new m) ≡ parent_of (node_at s m)) ⊎ (parent_of (node_at s m) ≡ d)) where
  goes_moved : (j : ℕ) × Avoids s c j d → parent_of (node_at new c) ≡ d → Goes new c
  goes_moved way here =
      let goes = goes_on s new sound linked c d turns (way.0 + 1) way.0 (omega arith) placed way.1 in
      (suc goes.0, ap (above new goes.0) here ∙ goes.1)

-- directories are where they were, and no others
record Still (s new : State) : Type 0 where
  pub from : (m : ℕ) → IsPlaced new m → IsPlaced s m
  pub parents : (m : ℕ) → IsPlaced s m → parent_of (node_at new m) ≡ parent_of (node_at s m)
  pub there : (m : ℕ) → IsPlaced s m → IsSome (node_at new m)

still-begun : (s : State) (ctx : Context) (od flags : ℕ) → IsSound s
    → Still s (begun s (white_of s ctx od flags))
still-begun s ctx od flags sound = by (nat_le 4 flags)
  where
    white : Node
    white = whiteout s ctx od

    next_apart : (m : ℕ) → IsPlaced s m → m ≢ s.next
    next_apart m there e =
        none-some there.node
        (sym (none_from 1 s.next s.next s.nodes sound.ordered (omega arith))
        ∙ ap (node_at s) (sym e) ∙ there.is)

    beside : (m : ℕ) → IsPlaced s m → node_at (with_new s white) m ≡ node_at s m
    beside m there = node_at-with_new_other s m white (next_apart m there)

    by : (t : Bool) → Still s (begun s (if t then Some white else None))
    by true = record {
      from = λ m there. at s.next m (IsPlaced s m)
          (λ e. absurd (false≢true
          (placed_at (with_new s white) s.next white (node_at-with_new s s.next white)
          (subst (λ k. IsPlaced (with_new s white) k) (sym e) there)).0))
          (λ other. record {
            node = there.node;
            is = sym (node_at-with_new_other s m white other) ∙ there.is;
            directory = there.directory;
            named = there.named;
          });
      parents = λ m there. ap parent_of (beside m there);
      there = λ m there. ap is_some (beside m there ∙ there.is);
    }
    by false = record {
      from = λ m there. there;
      parents = λ m there. refl;
      there = λ m there. ap is_some there.is;
    }

module _ (s : State) (sound : IsSound s) (linked : IsLinked s) (rooted : IsRooted s) (mid : State)
    (still : Still s mid) (sound_mid : IsSound mid)
    (od : ℕ) (on : List ℕ) (nd : ℕ) (nn : List ℕ) (placed : IsPlaced s nd)
    (back target : Option Child) (child : Child) (leads : child_at s od on ≡ Some child)
    (way : IsPlaced s child.node → (j : ℕ) × Avoids s child.node j nd) where
  -- the names are changed
  abbrev first : State
  first = lead mid nd nn (is_some target) (Some child)

  abbrev renames : State
  renames = lead first od on true back

  stays : Stays mid renames
  stays = stays_both mid first renames (stays-with_names mid nd _) (stays-with_names first od _)

  there : (m : ℕ) → IsPlaced s m → IsSome (node_at renames m)
  there m placed = there-change first od m _ (there-change mid nd m _ (still.there m placed))

  -- and a node is moved
  abbrev once : State
  once = laid mid od on nd nn back target child

  moves : Moves renames once child.node nd
  moves = moves-moved_into renames child.node nd

  from_once : (m : ℕ) → IsPlaced once m → IsPlaced s m
  from_once m there = still.from m (stays.from m (moves.from m there))

  other_once : (m : ℕ) → m ≢ child.node → IsPlaced s m
      → parent_of (node_at once m) ≡ parent_of (node_at s m)
  other_once m apart there = moves.other m apart ∙ stays.parents m ∙ still.parents m there

  sound-once : IsSound once
  sound-once = (keeps-laid mid od on nd nn back target child sound_mid).sound

  rooted-once : IsRooted once
  rooted-once =
      let c = child.node in
      let goes : IsPlaced s c → Goes once c =
      λ placed_c. goes_moved s sound linked once c nd placed
      (λ m placed_m root apart. inl (other_once m apart placed_m))
      (way placed_c) (moves.here (there c placed_c)) in
      rooted_ways s once sound linked rooted
      (λ m placed_m. inl (from_once m placed_m))
      (λ m placed_m root.
      at c m ((parent_of (node_at once m) ≡ parent_of (node_at s m)) ⊎ Goes once m)
      (λ e. inr (subst (λ k. Goes once k) e (goes (subst (λ k. IsPlaced s k) (sym e) placed_m))))
      (λ apart. inl (other_once m apart placed_m)))

  -- or two are
  module _ (t : Child) (leads_target : child_at s nd nn ≡ Some t)
      (way_target : IsPlaced s t.node → (j : ℕ) × Avoids s t.node j od)
      (two : child.node ≢ t.node) where
    abbrev twice : State
    twice = moved_into once t.node od

    rooted-twice : IsRooted twice
    rooted-twice =
        let c = child.node in
        let d = t.node in
        let more = moves-moved_into once d od in
        let Other : ℕ → Type 0 = λ m. parent_of (node_at twice m) ≡ parent_of (node_at s m) in
        let other : (m : ℕ) → IsPlaced s m → m ≢ c → m ≢ d → Other m =
        λ m placed_m not_c not_d. more.other m not_d ∙ other_once m not_c placed_m in
        let goes_c : IsPlaced s c → Goes twice c =
        λ placed_c. goes_moved s sound linked twice c nd placed
        (λ m placed_m root not_c. at d m (Other m ⊎ (parent_of (node_at s m) ≡ nd))
        (λ e. inr (subst (λ k. parent_of (node_at s k) ≡ nd) e
        (name_leads s linked nd nn t leads_target
        (subst (λ k. IsPlaced s k) (sym e) placed_m))))
        (λ not_d. inl (other m placed_m not_c not_d)))
        (way placed_c)
        (more.other c two ∙ moves.here (there c placed_c)) in
        let goes_d : IsPlaced s d → Goes twice d =
        λ placed_d. goes_moved s sound linked twice d od (names_place s linked od on child leads)
        (λ m placed_m root not_d. at c m (Other m ⊎ (parent_of (node_at s m) ≡ od))
        (λ e. inr (subst (λ k. parent_of (node_at s k) ≡ od) e
        (name_leads s linked od on child leads
        (subst (λ k. IsPlaced s k) (sym e) placed_m))))
        (λ not_c. inl (other m placed_m not_c not_d)))
        (way_target placed_d)
        (more.here (there-change renames c d _ (there d placed_d))) in
        rooted_ways s twice sound linked rooted
        (λ m placed_m. inl (from_once m (more.from m placed_m)))
        (λ m placed_m root.
        at c m (Other m ⊎ Goes twice m)
        (λ e. inr (subst (λ k. Goes twice k) e (goes_c (subst (λ k. IsPlaced s k) (sym e) placed_m))))
        (λ not_c. at d m (Other m ⊎ Goes twice m)
        (λ e. inr (subst (λ k. Goes twice k) e (goes_d (subst (λ k. IsPlaced s k) (sym e) placed_m))))
        (λ not_d. inl (other m placed_m not_c not_d))))

-- ---- the calls

module _ (old : State) (sound : IsSound old) (links : IsLinked old) (rooted : IsRooted old) where
  after : (new : State) → Follows old new → IsRooted new
  after new follows = rooted-follows old new follows rooted

  -- a node that is new, in a directory that has a name
  module _ (node : Node) (placed : IsPlaced old node.parent) where
    free : node_at old old.next ≡ None
    free = none_from 1 old.next old.next old.nodes sound.ordered (omega arith)

    other : (m : ℕ) → IsPlaced old m → m ≢ 1
        → (parent_of (node_at (with_new old node) m) ≡ parent_of (node_at old m))
        ⊎ Goes (with_new old node) m
    other m there root =
        inl (ap parent_of (node_at-with_new_other old m node
        (λ e. none-some there.node (sym free ∙ ap (node_at old) (sym e) ∙ there.is))))

    goes_new : Goes (with_new old node) old.next
    goes_new =
        let way = goes_still old (with_new old node) sound links rooted other node.parent placed in
        let here = ap parent_of (node_at-with_new old old.next node) in
        (suc way.0, ap (above (with_new old node) way.0) here ∙ way.1)

    rooted-with_new : IsRooted (with_new old node)
    rooted-with_new =
        rooted_ways old (with_new old node) sound links rooted
        (λ m there. at old.next m (IsPlaced old m ⊎ Goes (with_new old node) m)
        (λ e. inr (subst (λ k. Goes (with_new old node) k) e goes_new))
        (λ apart. inl (record {
          node = there.node;
          is = sym (node_at-with_new_other old m node apart) ∙ there.is;
          directory = there.directory;
          named = there.named;
        })))
        other

  renames_by : (ctx : Context) (od : ℕ) (on : List ℕ) (nd : ℕ) (nn : List ℕ) (flags : ℕ) (child : Child)
      → Renames old od on nd nn flags child
      → IsRooted (renamed old ctx od on nd nn flags (child_at old nd nn) child)
  renames_by ctx od on nd nn flags child r =
      by (flags == 2) (child_at old nd nn) refl r.apart r.back
    where
      white : Option Node
      white = white_of old ctx od flags

      still : Still old (begun old white)
      still = still-begun old ctx od flags sound

      sound_mid : IsSound (begun old white)
      sound_mid = (keeps-begun old ctx od flags sound).sound

      placed : IsPlaced old nd
      placed = placed_from old nd (directory_there (node_at old nd) nn r.into) r.named

      by : (exchanges : Bool) (target : Option Child) → child_at old nd nn ≡ target
          → same_node (Some child) target ≡ false → (exchanges && is_own_child old target od) ≡ false
          → IsRooted (left_with
          (laid (begun old white) od on nd nn (back_of old exchanges white target) target child)
          exchanges od target)
      by exchanges None is apart back =
          rooted-once old sound links rooted (begun old white) still sound_mid od on nd nn placed
          (back_of old exchanges white None) None child r.found (own_way old child nd r.below)
      by true (Some t) is apart back =
          rooted-twice old sound links rooted (begun old white) still sound_mid od on nd nn placed
          (Some t) (Some t) child r.found (own_way old child nd r.below)
          t is (own_way old t od back) (eqb-false child.node t.node apart)
      by false (Some t) is apart back =
          let there = back_of old false white (Some t) in
          let last = laid (begun old white) od on nd nn there (Some t) child in
          rooted-follows last (unnamed_at last t.node (node_at last t.node))
          (follows-unnamed last t.node (node_at last t.node) refl
          (sound-once old sound links rooted (begun old white) still sound_mid od on nd nn placed
          there (Some t) child r.found (own_way old child nd r.below)))
          (rooted-once old sound links rooted (begun old white) still sound_mid od on nd nn placed
          there (Some t) child r.found (own_way old child nd r.below))

  makes : (uid gid : ℕ) (kind : Kind) (permissions parent : ℕ) (name text : List ℕ)
      → make_refusal old parent name (length text) ≡ None
      → IsRooted (made old parent name (new_node old.now uid gid kind permissions parent text))
  makes uid gid kind permissions parent name text none =
      let node = new_node old.now uid gid kind permissions parent text in
      let mid = with_new old node in
      let rs : List (Bool × ℕ) = (
        has_no_number old || is_crowded (node_at old parent)
            || nat_lt (room_of old) (length text),
        enospc,
      ) ∷ [] in
      let names = named_there old parent name (or_none (name_refusal old parent name) (first_of rs) none).0 in
      let above_it : IsPlaced old parent =
      placed_from old parent names.0 names.1 in
      rooted-follows mid (made old parent name node)
      (follows_stays mid (made old parent name node) (stays-with_names mid parent _))
      (rooted-with_new node above_it)

  makes_nameless : (uid gid permissions parent : ℕ) (is_linkable : Bool)
      → IsRooted (with_new old (nameless old.now uid gid permissions parent is_linkable))
  makes_nameless uid gid permissions parent is_linkable =
      let node = nameless old.now uid gid permissions parent is_linkable in
      let new = with_new old node in
      let free : node_at old old.next ≡ None =
      none_from 1 old.next old.next old.nodes sound.ordered (omega arith) in
      rooted_ways old new sound links rooted
      (λ m there. at old.next m (IsPlaced old m ⊎ Goes new m)
      (λ e. absurd (false≢true (placed_at new old.next node (node_at-with_new old old.next node)
      (subst (λ k. IsPlaced new k) (sym e) there)).0))
      (λ apart. inl (record {
        node = there.node;
        is = sym (node_at-with_new_other old m node apart) ∙ there.is;
        directory = there.directory;
        named = there.named;
      })))
      (λ m there root. inl (ap parent_of (node_at-with_new_other old m node
      (λ e. none-some there.node (sym free ∙ ap (node_at old) (sym e) ∙ there.is)))))

  adds_name : (n : ℕ) (node : Node) (parent : ℕ) (name : List ℕ) → node_at old n ≡ Some node
      → link_refusal old parent name node ≡ None
      → IsRooted (change (more_inodes (min node.names 1) (with_names old parent
      (leading name false (Some (record { node = n; kind = node.kind }))))) n (linked old.now))
  adds_name n node parent name is none =
      let child : Child = record { node = n; kind = node.kind } in
      let f : Children → Children = leading name false (Some child) in
      let named = with_names old parent f in
      let mid = more_inodes (min node.names 1) named in
      let rs : List (Bool × ℕ) = (is_directory node.kind, eperm)
      ∷ (node.names == 0 && not node.is_linkable, enoent)
      ∷ (nat_le 65000 node.names, emlink)
      ∷ (node.lookups == 2 ^ 64 - 1, eoverflow)
      ∷ ((not (node.names == 0) && nat_le old.limits.nodes old.inodes) || is_crowded (node_at old parent), enospc)
      ∷ [] in
      let parts = or_none (name_refusal old parent name) (first_of rs) none in
      let none_of = (all_false rs parts.1).0 in
      let found : node_at mid n ≡ Some node =
      kinds_apart old n parent f (ap is_directory_at is ∙ none_of)
      (named_there old parent name parts.0).0 ∙ is in
      let last = with_node mid n (linked old.now node) in
      subst IsRooted (sym (ap (changed mid n (linked old.now)) found))
      (after last (follows_stays old last
      (stays_both old mid last
      (stays_both old named mid (stays-with_names old parent f) (stays_counted named (named.inodes + min node.names 1)))
      (stays-with_node mid n node (linked old.now node) found
      (record {
        kind = refl;
        parent = refl;
        named = λ directory some. absurd (both_ways (is_directory node.kind) none_of directory);
      })))))

  pub covers : Covers old (λ taken reply left. IsRooted left)
  covers = record {
    same = λ reply none. rooted;
    looked_up = λ n node is. after _ (follows_stays old _
        (stays-with_node old n node (record node { lookups = node.lookups + 1 }) is
        (record { kind = refl; parent = refl; named = λ directory some. some })));
    reads = λ n node reply read is. after _ (follows_stays old _
        (stays-with_node old n node (accessed old.now node) is
        (record { kind = refl; parent = refl; named = λ directory some. some })));
    forgot = λ pairs reply told. after _ (follows-all_forgotten old pairs sound);
    began = λ offered pairs reply told.
        let left = all_forgotten old pairs in
        told_rooted left left.now offered (after left (follows-all_forgotten old pairs sound));
    resizes = λ n was now reply told is r. after _ (follows-with_resized old n was now is
        (record { kind = r.kind; parent = r.parent; named = λ dir some. omega (arith, r.names, some) }));
    makes = λ reply is. makes;
    makes_nameless = λ reply is uid gid permissions parent name is_linkable none.
        makes_nameless uid gid permissions parent is_linkable;
    links = adds_name;
    unlinks = λ parent name child node there found is file.
        after _ (follows-taken_out old parent name child sound);
    removes = λ parent name child node there found is empty.
        after _ (follows-taken_out old parent name child sound);
    renames = renames_by;
  }

pub calls_keep_the_way_up : CallsKeepTheWayUp
calls_keep_the_way_up old new call answer sound links rooted =
    calls_covered old new IsRooted (covers old sound links rooted) call answer
