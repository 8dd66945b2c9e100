-- How CREATE and LINK end, by what their steps left.
use Rattle.std.proofs.Common.{◌≡◌, ◌+◌, ◌==◌, ◌&&◌, ◌||◌, ◌^◌, ◌-◌, min, ℕ, Bool, true, false, List, ◌∷◌, [], nat_lt, nat_le, not, length, take, Option, Some, None, IfSome, is_some, is_none, if◌then◌else◌, refl, sym, ap, ◌∙◌, subst}
use Rattle.std.specs.Option.{option_or}
use Rattle.std.proofs.lemmas.Bool.{not-false}
use Rattle.std.proofs.lemmas.Option.{same_Some}
use Rattle.vfs_flags.specs.Numbers.{enoent, einval, eexist, eperm, eoverflow, enospc, enotdir, enametoolong, efbig, emlink}
use Rattle.vfs_files.specs.Values.{Item}
use Rattle.vfs_files.specs.Calls.{Failed, Found, Created, Wrote, Handed, Plain}
use Rattle.vfs_files.specs.declared.entry.Entry.{Entry}
use Rattle.fs_nodes.specs.Children.{leading, is_directory}
use Rattle.fs_nodes.specs.Node.{entry_of, overwritten}
use Rattle.vfs_files.specs.Bytes.{fitting}
use Rattle.fs_nodes.specs.Contents.{lacking}
use Rattle.fs_nodes.specs.declared.children.Child.{Child}
use Rattle.fs_nodes.specs.declared.node.Node.{Node}
use Rattle.fs_tree.specs.Naming.{directory_refusal, is_directory_at, is_improper, is_nameless, is_crowded, name_refusal}
use Rattle.fs_tree.specs.Outcome.{Outcome, Tried, HandsBack, first_of, unless, refusal_of, on}
use Rattle.fs_tree.specs.State.{State, node_at, child_at, with_node, with_resized, lead, change}
use Rattle.fs_tree.specs.Tree.{contents_refusal, link_refusal, linked, longest, most_size}
use Rattle.fs_tree.proofs.Nodes.{changed, kinds_apart}

-- it ends as the second of two
pub as_second : (old new : State) (handed : Handed (List Item)) (t : Bool) (a b : Outcome) → t ≡ false
    → HandsBack old b handed new → HandsBack old (if t then a else b) handed new
as_second old new handed true a b is ends = cc is
as_second old new handed false a b is ends = ends

-- where an entry is answered, a file is opened too
pub created_too : (old new : State) (refusal : Option ℕ) (made : Entry) (left : State) (entry : Entry)
    (options : ℕ) → options ≡ 0
    → HandsBack old (unless refusal (Tried true (Plain (Found made)) left)) (Plain (Found entry)) new
    → HandsBack old (unless refusal (Tried true (Plain (Created made None 0)) left))
    (Plain (Created entry None options)) new
created_too old new (Some error) made left entry options none ends = cc (ends.0)
created_too old new None made left entry options none ends =
    let same = ends.0 in
    let is : entry ≡ made = cc same in
    (cc (is, none), ends.1)

-- where it is refused, or there is no memory, so it is here
pub failed_too : (old new : State) (refusal : Option ℕ) (made : Entry) (left : State) (fault : Option ℕ)
    → HandsBack old (unless refusal (Tried true (Plain (Found made)) left)) (Plain (Failed fault)) new
    → HandsBack old (unless refusal (Tried true (Plain (Created made None 0)) left)) (Plain (Failed fault)) new
failed_too old new (Some error) made left fault ends = ends
failed_too old new None made left fault ends = ends

-- an entry is answered where nothing is refused
pub made_ends : (s new : State) (refusal : Option ℕ) (entry made : Entry) (left : State)
    → refusal ≡ None → entry ≡ made → new ≡ left
    → HandsBack s (unless refusal (Tried true (Plain (Found made)) left)) (Plain (Found entry)) new
made_ends s new None entry made left none is leaves = (ap (λ e. Plain (Found e)) is, leaves)
made_ends s new (Some error) entry made left none is leaves = cc none

-- ---- refusals

-- a file without a name is not refused
pub nameless_free : (there : Option ℕ) (full : Bool) → there ≡ None → full ≡ false
    → option_or there (first_of ((full, enospc) ∷ [])) ≡ None
nameless_free None false is room = refl
nameless_free None true is room = cc room
nameless_free (Some error) full is room = cc is

-- why WRITE does nothing, and how it ends for a node
abbrev pub write_refusal : State → (off size : ℕ) → Node → Option ℕ
write_refusal s off size node =
    option_or (contents_refusal node)
    (first_of ((nat_lt 0 size && nat_le (longest s) off, efbig)
    ∷ (nat_lt 0 size && nat_le (most_size s off size node) off, enospc) ∷ []))

abbrev pub writes :
    State → (number : ℕ) → (delayed kill : Bool) → (off size : ℕ) → List ℕ → Node → Outcome
writes s n delayed kill off size bytes node =
    let fit = fitting (most_size s off size node) off (take size bytes) in
    Tried (nat_lt 0 (length fit) && nat_lt 0 (lacking node.contents off (length fit)))
    (Plain (Wrote (length fit)))
    (with_resized s n node (overwritten s.now delayed kill node off fit))

-- a call of a node that is there is refused
pub refused_ends : (s : State) (o : Option Node) (refusal : Node → Option ℕ) (f : Node → Outcome)
    (node : Node) (error : ℕ) → o ≡ Some node → refusal node ≡ Some error
    → HandsBack s (on o refusal f) (Plain (Failed (Some error))) s
refused_ends s None refusal f node error is refused = cc is
refused_ends s (Some x) refusal f node error is refused =
    subst (λ (y : Node). HandsBack s (unless (refusal y) (f y)) (Plain (Failed (Some error))) s)
    (sym (same_Some x node is)) (by (refusal node) refused)
  where
    by : (o : Option ℕ) → o ≡ Some error
        → HandsBack s (unless o (f node)) (Plain (Failed (Some error))) s
    by None same = cc same
    by (Some e) same = (ap (λ x. Plain (Failed x)) (sym same), refl)

pub first_false : (b : Bool) (e : ℕ) (rest : List (Bool × ℕ)) → first_of ((b, e) ∷ rest) ≡ None
    → (b ≡ false) × (first_of rest ≡ None)
first_false true e rest none = cc none
first_false false e rest none = (refl, none)

both_none : (a b : Option ℕ) → option_or a b ≡ None → (a ≡ None) × (b ≡ None)
both_none (Some e) b none = cc none
both_none None b none = (refl, none)

-- no name is found in what is no directory
directory_there : (o : Option Node) (name : List ℕ) → directory_refusal o name ≡ None
    → is_directory_at o ≡ true
directory_there o name none =
    let long : List (Bool × ℕ) = (nat_lt 255 (length name), enametoolong) ∷ [] in
    let rest : List (Bool × ℕ) = (not (is_directory_at o), enotdir) ∷ long in
    let second = (first_false (is_none o) enoent rest none).1 in
    not-false (is_directory_at o) (first_false (not (is_directory_at o)) enotdir long second).0

-- nor does a second one lead to a directory
file_linked : (s : State) (parent : ℕ) (name : List ℕ) (node : Node)
    → link_refusal s parent name node ≡ None
    → (is_directory_at (node_at s parent) ≡ true) × (is_directory node.kind ≡ false)
file_linked s parent name node none =
    let above = node_at s parent in
    let last : List (Bool × ℕ) = (node.names == 0 && not node.is_linkable, enoent)
    ∷ (nat_le 65000 node.names, emlink)
    ∷ (node.lookups == 2 ^ 64 - 1, eoverflow)
    ∷ ((not (node.names == 0) && nat_le s.limits.nodes s.inodes) || is_crowded above, enospc) ∷ [] in
    let parts = both_none (name_refusal s parent name) (first_of ((is_directory node.kind, eperm) ∷ last))
    none in
    let names : List (Bool × ℕ) = (is_nameless above, enoent) ∷ (is_improper name, einval)
    ∷ (is_some (child_at s parent name), eexist) ∷ [] in (
      directory_there above name (both_none (directory_refusal above name) (first_of names) parts.0).0,
      (first_false (is_directory node.kind) eperm last parts.1).0,
    )

-- ---- LINK

-- what is done with a node that is there and gives no refusal
on_there : (old new : State) (o : Option Node) (refusal : Node → Option ℕ) (f : Node → Outcome)
    (node : Node) (entry : Entry) → o ≡ Some node → refusal node ≡ None
    → HandsBack old (f node) (Plain (Found entry)) new
    → HandsBack old (on o refusal f) (Plain (Found entry)) new
on_there old new None refusal f node entry is free ends = cc is
on_there old new (Some x) refusal f node entry is free ends =
    subst (λ (y : Node). HandsBack old (unless (refusal y) (f y)) (Plain (Found entry)) new)
    (sym (same_Some x node is)) (by (refusal node) free)
  where
    by : (o : Option ℕ) → o ≡ None → HandsBack old (unless o (f node)) (Plain (Found entry)) new
    by None none = ends
    by (Some error) none = cc none

changed_now : (s : State) (n : ℕ) (f : Node → Node) (o : Option Node) → (changed s n f o).now ≡ s.now
changed_now s n f None = refl
changed_now s n f (Some node) = refl

module _ (s : State) (n parent : ℕ) (name : List ℕ) (entry : Entry) (last : State) where
  -- a name more is there
  abbrev named_too : Child → State
  named_too child = lead s parent name false (Some child)

  -- with the inodes that are counted more
  abbrev counted : State → Node → State
  counted t node = record t { inodes = t.inodes + min node.names 1 }

  -- how LINK ends
  abbrev pub links : Outcome
  links = on (node_at s n) (link_refusal s parent name) (λ node.
      let child : Child = record { node = n; kind = node.kind } in
      Tried true (Plain (Found (entry_of n (linked s.now node))))
      (change (counted (named_too child) node) n (linked s.now)))

  -- the node of a state has one name and one lookup more
  abbrev pub IsCounted : State → Option Node → Type 0
  IsCounted t o = IfSome o (λ node. (entry ≡ entry_of n (linked t.now node))
      × (last ≡ with_node (counted t node) n (linked t.now node)))

  ends : (node : Node) → node_at s n ≡ Some node → link_refusal s parent name node ≡ None
      → IsCounted (named_too (record { node = n; kind = node.kind }))
      (node_at (named_too (record { node = n; kind = node.kind })) n)
      → HandsBack s links (Plain (Found entry)) last
  ends node is free counts =
      let child : Child = record { node = n; kind = node.kind } in
      let named = named_too child in
      let t = counted named node in
      let file = file_linked s parent name node free in
      let found : node_at named n ≡ Some node =
      kinds_apart s n parent (leading name false (Some child)) (ap is_directory_at is ∙ file.1) file.0
      ∙ is in
      let now : named.now ≡ s.now =
      changed_now s parent
      (λ (x : Node).
      record x { children = leading name false (Some child) x.children; mtime = s.now; ctime = s.now })
      (node_at s parent) in
      let here : IsCounted named (Some node) = subst (IsCounted named) found counts in
      on_there s last (node_at s n) (link_refusal s parent name)
      (λ node.
      let child : Child = record { node = n; kind = node.kind } in
      Tried true (Plain (Found (entry_of n (linked s.now node))))
      (change (counted (named_too child) node) n (linked s.now)))
      node entry is free (
        ap (λ e. Plain (Found e)) (here.0 ∙ ap (λ k. entry_of n (linked k node)) now),
        here.1 ∙ ap (λ k. with_node t n (linked k node)) now
            ∙ sym (ap (changed t n (linked s.now)) found),
      )

  pub linked_ends : (o : Option Node) (child : Child) (named : State) → node_at s n ≡ o
      → IfSome o (λ node. child ≡ record { node = n; kind = node.kind })
      → refusal_of o (link_refusal s parent name) ≡ None
      → named ≡ lead s parent name false (Some child)
      → IsCounted named (node_at named n)
      → HandsBack s links (Plain (Found entry)) last
  linked_ends None child named is same free step counts = cc free
  linked_ends (Some node) child named is same free step counts =
      ends node is free
      (subst (λ (c : Child). IsCounted (named_too c) (node_at (named_too c) n)) same
      (subst (λ (t : State). IsCounted t (node_at t n)) step counts))
