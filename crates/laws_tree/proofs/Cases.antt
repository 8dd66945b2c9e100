-- What the calls leave: a fact of all states that are left follows from that fact of each change.
use Rattle.std.proofs.Common.{◌≡◌, ◌≤◌, ◌+◌, ◌-◌, ◌^◌, ◌/◌, ◌==◌, ◌&&◌, ◌||◌, not, nat_lt, nat_le, ℕ, min, max, ◌⊎◌, inl, inr, ⊎_elim, Bool, true, false, List, [], ◌∷◌, ◌++◌, length, take, drop, replicate, Option, Some, None, is_some, is_none, refl, sym, ap, subst, ◌∙◌, arith, if◌then◌else◌, bit_and, length-append, length-take, length-drop}
use Rattle.vfs_segments.specs.Memory.{with_bytes_at}
use Rattle.vfs_flags.specs.Numbers.{enoent, eperm, eexist, eisdir, einval, enodata, enospc, enosys, enotdir, enotempty, eoverflow, erange, efbig, enxio}
use Rattle.vfs_files.specs.Bytes.{part_of, most_put, fitting, written, lengthened}
use Rattle.vfs_files.specs.Values.{Item}
use Rattle.vfs_files.specs.Calls.{Call, Lookup, Forget, BatchForget, Getattr, Setattr, Symlink, Readlink, Open, Unlink, Rmdir, Rename, Link, Mknod, Mkdir, Create, Read, Write, Fallocate, Setxattr, Getxattr, Listxattr, Removexattr, Statfs, Release, Fsync, Init, Opendir, Readdir, Releasedir, Fsyncdir, Destroy, Lseek, Answer, Done, Failed, Options, Found, Attributes, Created, Text, Count, Put, Wrote, Statistics, Opened, Offset, Handed, Plain, Iterator, default_answer}
use Rattle.vfs_files.specs.declared.entry.Context.{Context}
use Rattle.vfs_files.specs.declared.entry.Entry.{Entry}
use Rattle.vfs_wire.specs.declared.stat.Statvfs64.{Statvfs64}
use Rattle.vfs_grammar.specs.Books.{entry_node, answered_nodes, forgets_of}
use Rattle.vfs_wire.specs.declared.attributes.SetattrIn.{SetattrIn}
use Rattle.std.specs.Option.{unwrap_or}
use Rattle.std.proofs.lemmas.Bool.{ltb-false, eqb-true, not-false}
use Rattle.std.proofs.lemmas.List.{length-replicate}
use Rattle.fs_nodes.specs.Contents.{Contents, resized, allocated, punched, zeroed, fallocated, data_from, hole_from, lacking}
use Rattle.fs_tree.specs.Children.{leading, is_directory, is_file, is_link}
use Rattle.fs_tree.specs.Listing.{items_after}
use Rattle.fs_tree.specs.Node.{attr_of, entry_of, lasting, weight, rewritten, is_other, truncates, opened, set_attr, overwritten, kind_by_mode, new_node, accessed}
use Rattle.fs_tree.specs.Outcome.{Outcome, Refused, Answered, Tried, HandsBack, done, first_of, unless, with_it, on}
use Rattle.fs_tree.specs.Rename.{same_node, rename_refusal, renamed}
use Rattle.fs_tree.specs.State.{State, node_at, room_of, with_new, with_node, with_resized, change, child_at}
use Rattle.laws_tree.specs.Laws.{IsShort}
use Rattle.fs_tree.specs.Tree.{namespace_refusal, TreeAllows, outcome, wanted_options, opens_nothing, at_name, makes, makes_nameless, linked, all_forgotten, contents_refusal, longest, most_size, fallocate_refusal, make_refusal, taken_out, link_refusal, tells}
use Rattle.fs_tree.specs.Xattrs.{Xattr, xattr_named, xattr_bytes, with_xattr, without_xattr, name_list}
use Rattle.fs_nodes.specs.declared.children.Child.{Child}
use Rattle.fs_nodes.specs.declared.kind.Kind.{Kind}
use Rattle.fs_nodes.specs.declared.kind.Kind.TheVariants as kind
use Rattle.fs_nodes.specs.declared.node.Node.{Node}
use Rattle.fs_nodes.specs.declared.node.Time.{Time}
use Rattle.fs_nodes.proofs.Weights.{resized_holds, set_attr_weighs, stripped_bytes, without_xattr_bytes}
use Rattle.fs_tree.proofs.Nodes.{with_names}
use Rattle.fs_tree.proofs.Weights.{fitting_ends, written_fits, fallocate_room, fallocated_fits}
use Rattle.std.specs.Option.{option_map_or, option_or}
use Rattle.fs_tree.specs.Naming.{directory_refusal, new_in, asks_nameless, new_nameless, nameless_refusal}
use Rattle.laws_tree.proofs.Changes.{held_of, made, nameless}
use Rattle.laws_tree.proofs.Refused.{all_false, or_none, Renames, rename_takes}

-- a node with other contents or extended attributes, for which there is room
pub record Resizes (s : State) (was now : Node) : Type 0 where
  pub kind : now.kind ≡ was.kind
  pub parent : now.parent ≡ was.parent
  pub names : now.names ≡ was.names
  pub lookups : now.lookups ≡ was.lookups
  pub children : now.children ≡ was.children
  pub birth : now.btime ≡ was.btime
  pub room : weight now ≤ weight was + room_of s
  pub file : IsShort s.limits.file was → IsShort s.limits.file now

-- the lookups that a call takes back, as pairs of a node and a count
abbrev pub taken_pairs : State → Call → List (ℕ × ℕ)
taken_pairs old (Init _) = held_of old.nodes
taken_pairs old Destroy = held_of old.nodes
taken_pairs old call = forgets_of call

-- that many inodes more are counted
abbrev pub more_inodes : (count : ℕ) → State → State
more_inodes count s = record s { inodes = s.inodes + count }

-- the node of the entry that is answered, where one is
abbrev pub nodes_of : Handed (List Item) → List ℕ
nodes_of (Plain answer) = entry_node answer
nodes_of (Iterator items) = []

-- those that a call's answer gives
abbrev pub handed_nodes : Call → Handed (List Item) → List ℕ
handed_nodes call (Plain answer) = answered_nodes call answer
handed_nodes call (Iterator items) = []

-- neither an entry is answered nor what a directory holds
abbrev pub IsTold : Handed (List Item) → Type 0
IsTold (Plain answer) = entry_node answer ≡ []
IsTold (Iterator items) = ⊥

-- what is answered where a node was read: of a directory what it holds, and no entry
abbrev pub Reads : (number : ℕ) → Node → Handed (List Item) → Type 0
Reads n node (Plain answer) = entry_node answer ≡ []
Reads n node (Iterator items) = (off : ℕ) × (size : ℕ) × (items ≡ items_after n node off size)

-- what a fact holds of: the state itself, and what each change leaves, with the lookups that are taken
-- back and what is answered
pub record Covers
    (old : State) (P : List (ℕ × ℕ) → Handed (List Item) → State → Type 0)
    : Type 0 where
  pub same : (reply : Handed (List Item)) → IsTold reply → P [] reply old
  pub looked_up : (n : ℕ) (node : Node) → node_at old n ≡ Some node
      → P [] (Plain (Found (entry_of n node))) (with_node old n (record node { lookups = node.lookups + 1 }))
  pub reads : (n : ℕ) (node : Node) (reply : Handed (List Item)) → Reads n node reply
      → node_at old n ≡ Some node → P [] reply (with_node old n (accessed old.now node))
  pub forgot : (pairs : List (ℕ × ℕ)) (reply : Handed (List Item)) → IsTold reply
      → P pairs reply (all_forgotten old pairs)
  pub began : (offered : ℕ) (pairs : List (ℕ × ℕ)) (reply : Handed (List Item)) → IsTold reply
      → P pairs reply (record (all_forgotten old pairs) { offered = offered })
  pub resizes : (n : ℕ) (was now : Node) (reply : Handed (List Item)) → IsTold reply → node_at old n ≡ Some was
      → Resizes old was now → P [] reply (with_resized old n was now)
  pub makes : (reply : Handed (List Item)) → nodes_of reply ≡ old.next ∷ []
      → (uid gid : ℕ) (kind : Kind) (permissions parent : ℕ) (name text : List ℕ)
      → make_refusal old parent name (length text) ≡ None
      → P [] reply (made old parent name (new_node old.now uid gid kind permissions parent text))
  pub makes_nameless : (reply : Handed (List Item)) → nodes_of reply ≡ old.next ∷ []
      → (uid gid permissions parent : ℕ) (name : List ℕ) (is_linkable : Bool)
      → nameless_refusal old parent name ≡ None
      → P [] reply (with_new old (nameless old.now uid gid permissions parent is_linkable))
  pub links : (n : ℕ) (node : Node) (parent : ℕ) (name : List ℕ) → node_at old n ≡ Some node
      → link_refusal old parent name node ≡ None
      → P [] (Plain (Found (entry_of n (linked old.now node))))
      (change (more_inodes (min node.names 1) (with_names old parent
      (leading name false (Some (record { node = n; kind = node.kind }))))) n (linked old.now))
  pub unlinks : (parent : ℕ) (name : List ℕ) (child : Child) (node : Node)
      → directory_refusal (node_at old parent) name ≡ None → child_at old parent name ≡ Some child
      → node_at old child.node ≡ Some node → is_directory node.kind ≡ false
      → P [] (Plain Done) (taken_out old parent name child)
  pub removes : (parent : ℕ) (name : List ℕ) (child : Child) (node : Node)
      → directory_refusal (node_at old parent) name ≡ None → child_at old parent name ≡ Some child
      → node_at old child.node ≡ Some node → length node.children.links ≡ 0
      → P [] (Plain Done) (taken_out old parent name child)
  pub renames : (ctx : Context) (od : ℕ) (on : List ℕ) (nd : ℕ) (nn : List ℕ) (flags : ℕ) (child : Child)
      → Renames old od on nd nn flags child
      → P [] (Plain Done) (renamed old ctx od on nd nn flags (child_at old nd nn) child)

-- ---- contents

length-with_bytes_at : (at : ℕ) (bs xs : List ℕ) → at + length bs ≤ length xs
    → length (with_bytes_at at bs xs) ≡ length xs
unfolding with_bytes_at
length-with_bytes_at at bs xs within =
    omega (
      arith,
      length-append (take at xs) (bs ++ drop (at + length bs) xs),
      length-append bs (drop (at + length bs) xs),
      length-take at xs,
      length-drop (at + length bs) xs,
      within,
    )

length-lengthened : (old : List ℕ) (len : ℕ) → length (lengthened old len) ≡ max (length old) len
length-lengthened old len =
    omega (
      arith,
      length-append old (replicate (len - length old) 0),
      length-replicate {A = ℕ} (len - length old) 0,
    )

length-written : (old : List ℕ) (off : ℕ) (bytes : List ℕ)
    → length (written old off bytes) ≤ max (length old) (off + length bytes)
length-written old off [] = omega arith
length-written old off (b ∷ bs) =
    let long = lengthened old (off + length (b ∷ bs)) in
    let len = length-lengthened old (off + length (b ∷ bs)) in
    omega (arith, len, length-with_bytes_at off (b ∷ bs) long (omega (arith, len)))

-- ---- changes of one node

resizes_itself : (s : State) (node : Node) → Resizes s node node
resizes_itself s node = record {
  kind = refl;
  parent = refl;
  names = refl;
  lookups = refl;
  children = refl;
  birth = refl;
  room = omega arith;
  file = λ h. h;
}

-- contents of another size have this size
length-resized : (c : Contents) (size : ℕ) → length (resized c size).bytes ≡ size
length-resized c size =
    omega (
      arith,
      length-append (take size c.bytes) (replicate (size - length c.bytes) 0),
      length-take size c.bytes,
      length-replicate {A = ℕ} (size - length c.bytes) 0,
    )

-- a hole leaves them as long
length-punched : (c : Contents) (off len : ℕ) → length (punched c off len).bytes ≡ length c.bytes
length-punched c off len =
    let zeros : List ℕ = replicate (min len (length c.bytes - off)) 0 in
    omega (
      arith,
      length-append (take off c.bytes) (zeros ++ drop (off + len) c.bytes),
      length-append zeros (drop (off + len) c.bytes),
      length-take off c.bytes,
      length-drop (off + len) c.bytes,
      length-replicate {A = ℕ} (min len (length c.bytes - off)) 0,
    )

-- SETATTR
set_attr_resizes : (s : State) (node : Node) (attr : SetattrIn) (is_open : Bool) (valid : ℕ)
    → (if bit_and valid 8 == 8
    then option_or (contents_refusal node) (first_of ((nat_lt (longest s) attr.size, efbig) ∷ []))
    else None) ≡ None
    → Resizes s node (set_attr s.now node attr is_open valid)
set_attr_resizes s node attr is_open valid none = record {
  kind = refl;
  parent = refl;
  names = refl;
  lookups = refl;
  children = refl;
  birth = refl;
  room = omega (arith, set_attr_weighs s.now node attr is_open valid);
  file = λ short is. by (bit_and valid 8 == 8) none (short is);
}
  where
    by : (t : Bool)
        → (if t
        then option_or (contents_refusal node) (first_of ((nat_lt (longest s) attr.size, efbig) ∷ []))
        else None)
        ≡ None
        → length node.contents.bytes ≤ s.limits.file
        → length (if t then resized node.contents attr.size else node.contents).bytes ≤ s.limits.file
    by true none short =
        let rs : List (Bool × ℕ) = (nat_lt (longest s) attr.size, efbig) ∷ [] in
        let fits = all_false rs (or_none (contents_refusal node) (first_of rs) none).1 in
        omega (arith, ltb-false (longest s) attr.size fits.0, length-resized node.contents attr.size)
    by false none short = short

-- OPEN
opened_resizes : (s : State) (uid : ℕ) (kill : Bool) (node : Node) (flags : ℕ)
    → Resizes s node (opened s.now uid kill node flags)
opened_resizes s uid kill node flags = by (truncates node flags)
  where
    by : (t : Bool)
        → Resizes s node
        (if t then rewritten s.now true (kill || is_other uid) node (resized node.contents 0)
        else node)
    by true = record {
      kind = refl;
      parent = refl;
      names = refl;
      lookups = refl;
      children = refl;
      birth = refl;
      room = omega (arith, resized_holds node.contents 0, stripped_bytes true true node);
      file = λ h is. omega (arith, length-resized node.contents 0);
    }
    by false = resizes_itself s node

-- WRITE
overwritten_short : (now : Time) (delayed kill : Bool) (node : Node) (off most : ℕ) (bytes : List ℕ)
    → off + length bytes ≤ most ⊎ (bytes ≡ []) → length node.contents.bytes ≤ most
    → length (overwritten now delayed kill node off bytes).contents.bytes ≤ most
overwritten_short now delayed kill node off most [] within short = short
overwritten_short now delayed kill node off most (b ∷ bs) within short =
    let ends : off + length (b ∷ bs) ≤ most = ⊎_elim (λ h. h) (λ none. cc) within in
    omega (arith, length-written node.contents.bytes off (b ∷ bs), ends, short)

overwritten_resizes : (s : State) (delayed kill : Bool) (node : Node) (off size : ℕ) (bytes : List ℕ)
    → Resizes s node
    (overwritten s.now delayed kill node off (fitting (most_size s off size node) off bytes))
overwritten_resizes s delayed kill node off size bytes =
    by (fitting (most_size s off size node) off bytes)
    (written_fits s node s.now delayed kill off size bytes)
    (fitting_ends (most_size s off size node) off bytes)
  where
    by : (fit : List ℕ)
        → weight (overwritten s.now delayed kill node off fit) ≤ weight node + room_of s
        → off + length fit ≤ most_size s off size node ⊎ (fit ≡ [])
        → Resizes s node (overwritten s.now delayed kill node off fit)
    by [] weighs ends = resizes_itself s node
    by (b ∷ bs) weighs ends = record {
      kind = refl;
      parent = refl;
      names = refl;
      lookups = refl;
      children = refl;
      birth = refl;
      room = weighs;
      file = λ short is.
          overwritten_short s.now delayed kill node off s.limits.file (b ∷ bs)
          (⊎_elim
          (λ (h : off + length (b ∷ bs) ≤ most_size s off size node). inl (omega (arith, h)))
          (λ (none : b ∷ bs ≡ []). inr none) ends)
          (short is);
    }

-- FALLOCATE
fallocated_resizes : (s : State) (node : Node) (mode off len : ℕ)
    → fallocate_refusal s mode off len node ≡ None
    → Resizes s node (rewritten s.now true false node (fallocated mode off len node.contents))
fallocated_resizes s node mode off len none = record {
  kind = refl;
  parent = refl;
  names = refl;
  lookups = refl;
  children = refl;
  birth = refl;
  room = fallocated_fits s node s.now mode off len none;
  file = λ short is.
      by (mode == 3) (bit_and mode 16 == 16) (bit_and mode 1 == 1)
      (fallocate_room s mode off len node none) (short is);
}
  where
    grown : (keeps : Bool) → off + len ≤ most_size s off len node
        → length node.contents.bytes ≤ s.limits.file
        → length (lengthened node.contents.bytes (if keeps then 0 else off + len)) ≤ s.limits.file
    grown true room short = omega (arith, length-lengthened node.contents.bytes 0, short)
    grown false room short =
        omega (arith, room, length-lengthened node.contents.bytes (off + len), short)

    by : (hole zeros keeps : Bool) → (hole ≡ false → off + len ≤ most_size s off len node)
        → length node.contents.bytes ≤ s.limits.file
        → let held : Contents = allocated node.contents off len (if keeps then 0 else off + len) in
        let new : Contents = if hole then punched node.contents off len
        else if zeros then zeroed held off len else held in
        length new.bytes ≤ s.limits.file
    by true zeros keeps room short = omega (arith, length-punched node.contents off len, short)
    by false true keeps room short =
        let held : Contents = allocated node.contents off len (if keeps then 0 else off + len) in
        omega (arith, length-punched held off len, grown keeps (room refl) short)
    by false false keeps room short = grown keeps (room refl) short

-- a node with other extended attributes
abbrev with_xattrs : (now : Time) → Node → List Xattr → Node
with_xattrs now node xattrs = record node { xattrs = xattrs; ctime = now }

-- SETXATTR
xattr_fits : (s : State) (node : Node) (name value : List ℕ)
    → xattr_bytes (with_xattr node.xattrs name value) - xattr_bytes node.xattrs ≤ room_of s
    → Resizes s node (with_xattrs s.now node (with_xattr node.xattrs name value))
xattr_fits s node name value fits = record {
  kind = refl;
  parent = refl;
  names = refl;
  lookups = refl;
  children = refl;
  birth = refl;
  room = omega (arith, fits);
  file = λ h. h;
}

-- REMOVEXATTR
xattr_leaves : (s : State) (node : Node) (name : List ℕ)
    → Resizes s node (with_xattrs s.now node (without_xattr node.xattrs name))
xattr_leaves s node name = record {
  kind = refl;
  parent = refl;
  names = refl;
  lookups = refl;
  children = refl;
  birth = refl;
  room = omega (arith, without_xattr_bytes node.xattrs name);
  file = λ h. h;
}

-- ---- outcomes

-- a call that may be refused takes no lookups back, and then answers no entry
abbrev pub Fails : State → Call → Type 0
Fails old call = (taken_pairs old call ≡ []) × ((error : Option ℕ) → answered_nodes call (Failed error) ≡ [])

-- what holds where it is refused, and of each answer and the state then
abbrev pub Each : Type 0 → (Handed (List Item) → State → Type 0) → Outcome → Type 0
Each F L (Refused error) = F
Each F L (Answered reply left) = L reply left
Each F L (Tried needs reply left) = F × L reply left

module _ (F : Type 0) (L : Handed (List Item) → State → Type 0) (fails : F) where
  each-unless : (refusal : Option ℕ) (o : Outcome) → (refusal ≡ None → Each F L o)
      → Each F L (unless refusal o)
  each-unless (Some error) o more = fails
  each-unless None o more = more refl

  each-some : {A : Type 0} (error : ℕ) (o : Option A) (f : A → Outcome)
      → ((it : A) → o ≡ Some it → Each F L (f it)) → Each F L (option_map_or f o (Refused error))
  each-some error None f more = fails
  each-some error (Some it) f more = more it refl

  each-on : (node : Option Node) (r : Node → Option ℕ) (f : Node → Outcome)
      → ((it : Node) → node ≡ Some it → r it ≡ None → Each F L (f it)) → Each F L (on node r f)
  each-on node r f more =
      each-some enoent node (λ it. unless (r it) (f it))
      (λ it is. each-unless (r it) (f it) (more it is))

  each-at_name : (s : State) (parent : ℕ) (name : List ℕ) (f : Child → Node → Outcome)
      → ((child : Child) (node : Node) → directory_refusal (node_at s parent) name ≡ None
      → child_at s parent name ≡ Some child → node_at s child.node ≡ Some node
      → Each F L (f child node))
      → Each F L (at_name s parent name f)
  each-at_name s parent name f more =
      each-unless (directory_refusal (node_at s parent) name)
      (with_it (child_at s parent name) (λ child. with_it (node_at s child.node) (f child)))
      (λ free. each-some enoent (child_at s parent name) (λ child. with_it (node_at s child.node) (f child))
      (λ child is. each-some enoent (node_at s child.node) (f child)
      (λ node there. more child node free is there)))

  each-if : (t : Bool) (a b : Outcome) → (t ≡ true → Each F L a) → (t ≡ false → Each F L b)
      → Each F L (if t then a else b)
  each-if true a b first second = first refl
  each-if false a b first second = second refl

-- ---- the table

module _ (old : State) (P : List (ℕ × ℕ) → Handed (List Item) → State → Type 0) (q : Covers old P) where
  -- a fact of a call's answer and the state then: the answer has the entries that it is to have
  abbrev pub Leaves : Call → Handed (List Item) → State → Type 0
  Leaves call reply left = (handed_nodes call reply ≡ nodes_of reply) × P (taken_pairs old call) reply left

  abbrev pub Covered : Call → Type 0
  Covered call = Each (Fails old call) (Leaves call) (outcome old call)

  makes_covered : (call : Call)
      → ((answer : Answer) → answered_nodes call answer ≡ entry_node answer)
      → taken_pairs old call ≡ [] → (ctx : Context) (told : Entry → Answer)
      → ((entry : Entry) → entry_node (told entry) ≡ entry.inode ∷ [])
      → (kind : Kind) (permissions parent : ℕ) (name text : List ℕ)
      → Each (Fails old call) (Leaves call) (makes old ctx told kind permissions parent name text)
  makes_covered call same none ctx told tells kind permissions parent name text =
      let node = new_in old ctx kind permissions parent text in
      let reply : Handed (List Item) = Plain (told (entry_of old.next node)) in
      let last = made old parent name node in
      let fails : Fails old call = (none, λ error. same (Failed error)) in
      each-unless (Fails old call) (Leaves call) fails (make_refusal old parent name (length text))
      (Tried true reply last)
      (λ free. (
        fails,
        (
          same (told (entry_of old.next node)),
          subst (λ pairs. P pairs reply last) (sym none)
              (q.makes reply (tells (entry_of old.next node)) ctx.uid node.gid kind node.permissions
              parent name text free),
        ),
      ))

  nameless_covered : (call : Call)
      → ((answer : Answer) → answered_nodes call answer ≡ entry_node answer)
      → taken_pairs old call ≡ [] → (ctx : Context) (told : Entry → Answer)
      → ((entry : Entry) → entry_node (told entry) ≡ entry.inode ∷ [])
      → (permissions parent : ℕ) (name : List ℕ) (flags : ℕ)
      → Each (Fails old call) (Leaves call) (makes_nameless old ctx told permissions parent name flags)
  nameless_covered call same none ctx told tells permissions parent name flags =
      let node = new_nameless old ctx permissions parent flags in
      let reply : Handed (List Item) = Plain (told (entry_of old.next node)) in
      let last = with_new old node in
      let fails : Fails old call = (none, λ error. same (Failed error)) in
      each-unless (Fails old call) (Leaves call) fails (nameless_refusal old parent name) (Tried true reply last)
      (λ free. (
        fails,
        (
          same (told (entry_of old.next node)),
          subst (λ pairs. P pairs reply last) (sym none)
              (q.makes_nameless reply (tells (entry_of old.next node)) ctx.uid node.gid node.permissions
              parent name node.is_linkable free),
        ),
      ))

  tells_covered : (call : Call) → ((answer : Answer) → answered_nodes call answer ≡ [])
      → taken_pairs old call ≡ [] → (size : ℕ) (text : Option (List ℕ))
      → Each (Fails old call) (Leaves call) (tells old size text)
  tells_covered call none gives size None = (gives, λ e. none (Failed e))
  tells_covered call none gives size (Some text) = by (size == 0)
    where
      quiet : (answer : Answer) → entry_node answer ≡ [] → Leaves call (Plain answer) old
      quiet answer is = (
        none answer ∙ sym is,
        subst (λ pairs. P pairs (Plain answer) old) (sym gives) (q.same (Plain answer) is),
      )

      by : (asks : Bool)
          → Each (Fails old call) (Leaves call)
          (if asks then Answered (Plain (Count (length text))) old
          else unless (first_of ((nat_lt size (length text), erange) ∷ []))
          (Tried true (Plain (Text text)) old))
      by true = quiet (Count (length text)) refl
      by false =
          let fails : Fails old call = (gives, λ e. none (Failed e)) in
          each-unless (Fails old call) (Leaves call) fails
          (first_of ((nat_lt size (length text), erange) ∷ [])) (Tried true (Plain (Text text)) old)
          (λ fits. (fails, quiet (Text text) refl))

  -- a READ, which moves no time if no byte was asked for
  some_read : (n : ℕ) (node : Node) (answer : Answer) → entry_node answer ≡ []
      → node_at old n ≡ Some node → (none : Bool)
      → P [] (Plain answer) (if none then old else with_node old n (accessed old.now node))
  some_read n node answer quiet is true = q.same (Plain answer) quiet
  some_read n node answer quiet is false = q.reads n node (Plain answer) quiet is

  renames_covered : (ctx : Context) (od : ℕ) (on : List ℕ) (nd : ℕ) (nn : List ℕ) (flags : ℕ)
      → Covered (Rename ctx od on nd nn flags)
  renames_covered ctx od on nd nn flags =
      each-unless F L fails
      (option_or (directory_refusal (node_at old od) on)
      (option_or (directory_refusal (node_at old nd) nn)
      (rename_refusal old od nd nn flags moved target))) (with_it moved ends)
      (λ free.
      let one = or_none (directory_refusal (node_at old od) on)
      (option_or (directory_refusal (node_at old nd) nn)
      (rename_refusal old od nd nn flags moved target)) free in
      let two = or_none (directory_refusal (node_at old nd) nn)
      (rename_refusal old od nd nn flags moved target) one.1 in
      each-some F L fails enoent moved ends
      (λ child is.
      each-if F L fails (same_node moved target) (done old) (last child)
      (λ same. (refl, q.same (Plain Done) refl))
      (λ apart. (
        fails,
        (
          refl,
          q.renames ctx od on nd nn flags child
              (rename_takes old od on nd nn flags child one.0 two.0 is
              (ap (λ o. same_node o target) (sym is) ∙ apart)
              (ap (λ o. rename_refusal old od nd nn flags o target) (sym is) ∙ two.1)),
        ),
      ))))
    where
      moved : Option Child
      moved = child_at old od on

      target : Option Child
      target = child_at old nd nn

      F : Type 0
      F = Fails old (Rename ctx od on nd nn flags)

      L : Handed (List Item) → State → Type 0
      L = Leaves (Rename ctx od on nd nn flags)

      fails : F
      fails = (refl, λ e. refl)

      last : Child → Outcome
      last child =
          Tried (is_none target || nat_le 4 flags) (Plain Done)
          (renamed old ctx od on nd nn flags target child)

      ends : Child → Outcome
      ends child = if same_node moved target then done old else last child

  pub covered : (call : Call) → Covered call
  covered (Lookup c parent name) =
      let call = (Lookup c parent name) in
      let fails : Fails old call = (refl, λ e. refl) in
      let last = λ (child : Child) (node : Node).
      Answered (Plain (Found (entry_of child.node node)))
      (with_node old child.node (record node { lookups = node.lookups + 1 })) in
      let full = λ (node : Node). first_of ((node.lookups == 2 ^ 64 - 1, eoverflow) ∷ []) in
      each-at_name (Fails old call) (Leaves call) fails old parent name
      (λ child node. unless (full node) (last child node))
      (λ child node free is there.
      each-unless (Fails old call) (Leaves call) fails (full node) (last child node)
      (λ fits. (refl, q.looked_up child.node node there)))
  covered (Forget c n count) =
      (refl, q.forgot ((n, count) ∷ []) (Plain Done) refl)
  covered (BatchForget c pairs) =
      (refl, q.forgot pairs (Plain Done) refl)
  covered (Getattr c n h) =
      let call = (Getattr c n h) in
      let fails : Fails old call = (refl, λ e. refl) in
      let reply : Node → Handed (List Item) = λ node. Plain (Attributes (attr_of n node) (lasting node)) in
      each-some (Fails old call) (Leaves call) fails enoent (node_at old n)
      (λ node. Answered (reply node) old) (λ node is. (refl, q.same (reply node) refl))
  covered (Setattr c n attr h valid) =
      let call = (Setattr c n attr h valid) in
      let fails : Fails old call = (refl, λ e. refl) in
      let is_open = is_some h || opens_nothing old.offered && attr.size == 0 in
      let set = λ (node : Node). set_attr old.now node attr is_open valid in
      let reply : Node → Handed (List Item) =
      λ node. Plain (Attributes (attr_of n (set node)) (lasting (set node))) in
      let none = λ (node : Node). if bit_and valid 8 == 8
      then option_or (contents_refusal node) (first_of ((nat_lt (longest old) attr.size, efbig) ∷ []))
      else None in
      each-on (Fails old call) (Leaves call) fails (node_at old n) none
      (λ node. Answered (reply node) (with_resized old n node (set node)))
      (λ node is free. (
        refl,
        q.resizes n node (set node) (reply node) refl is
            (set_attr_resizes old node attr is_open valid free),
      ))
  covered (Mkdir c parent name mode u e) =
      makes_covered (Mkdir c parent name mode u e) (λ a. refl) refl c Found (λ entry. refl) kind.Directory mode parent name []
  covered (Create c parent name mode k f u e) =
      let call = (Create c parent name mode k f u e) in
      let fails : Fails old call = (refl, λ e. refl) in
      let told : Entry → Answer = λ entry. Created entry None 0 in
      let makes_file = makes old c told kind.File mode parent name [] in
      each-if (Fails old call) (Leaves call) fails (asks_nameless name)
      (makes_nameless old c told mode parent name f)
      (if opens_nothing old.offered then Refused enosys else makes_file)
      (λ none. nameless_covered call (λ a. refl) refl c told (λ entry. refl) mode parent name f)
      (λ named. each-if (Fails old call) (Leaves call) fails (opens_nothing old.offered) (Refused enosys)
      makes_file (λ none. fails)
      (λ some. makes_covered call (λ a. refl) refl c told (λ entry. refl) kind.File mode parent name []))
  covered (Symlink c text parent name e) =
      makes_covered (Symlink c text parent name e) (λ a. refl) refl c Found (λ entry. refl) kind.Link 0o777 parent name text
  covered (Mknod c parent name mode r u e) =
      let call = (Mknod c parent name mode r u e) in
      let fails : Fails old call = (refl, λ e. refl) in
      each-some (Fails old call) (Leaves call) fails eperm (kind_by_mode mode r)
      (λ kind. makes old c Found kind mode parent name [])
      (λ kind is. makes_covered call (λ a. refl) refl c Found (λ entry. refl) kind mode parent name [])
  covered (Link c n parent name) =
      let call = (Link c n parent name) in
      let fails : Fails old call = (refl, λ e. refl) in
      each-on (Fails old call) (Leaves call) fails (node_at old n) (link_refusal old parent name)
      (λ node. Tried true (Plain (Found (entry_of n (linked old.now node))))
      (change (more_inodes (min node.names 1) (with_names old parent
      (leading name false (Some (record { node = n; kind = node.kind }))))) n (linked old.now)))
      (λ node is free. (
        fails,
        (refl, q.links n node parent name is free),
      ))
  covered (Unlink c parent name) =
      let call = (Unlink c parent name) in
      let fails : Fails old call = (refl, λ e. refl) in
      let last = λ (child : Child). done (taken_out old parent name child) in
      let rs = λ (node : Node). (is_directory node.kind, eisdir) ∷ [] in
      each-at_name (Fails old call) (Leaves call) fails old parent name
      (λ child node. unless (first_of (rs node)) (last child))
      (λ child node free is there.
      each-unless (Fails old call) (Leaves call) fails (first_of (rs node)) (last child)
      (λ fits. (refl, q.unlinks parent name child node free is there (all_false (rs node) fits).0)))
  covered (Rmdir c parent name) =
      let call = (Rmdir c parent name) in
      let fails : Fails old call = (refl, λ e. refl) in
      let last = λ (child : Child). done (taken_out old parent name child) in
      let empty = λ (node : Node). length node.children.links == 0 in
      let rs = λ (node : Node).
      (not (is_directory node.kind), enotdir) ∷ (not (empty node), enotempty) ∷ [] in
      each-at_name (Fails old call) (Leaves call) fails old parent name
      (λ child node. unless (first_of (rs node)) (last child))
      (λ child node free is there.
      each-unless (Fails old call) (Leaves call) fails (first_of (rs node)) (last child)
      (λ fits. (
        refl,
        q.removes parent name child node free is there
            (eqb-true (length node.children.links) 0
            (not-false (empty node) (all_false (rs node) fits).1.0)),
      )))
  covered (Rename c od on nd nn flags) = renames_covered c od on nd nn flags
  covered (Readlink c n) =
      let call = (Readlink c n) in
      let fails : Fails old call = (refl, λ e. refl) in
      let text = λ (node : Node). Tried true (Plain (Text node.text)) (with_node old n (accessed old.now node)) in
      let none = λ (node : Node).
      first_of ((not (is_link node.kind) || nat_lt (2 ^ 32 - 17) (length node.text), einval) ∷ []) in
      each-some (Fails old call) (Leaves call) fails enoent (node_at old n)
      (λ node. unless (none node) (text node))
      (λ node is. each-unless (Fails old call) (Leaves call) fails (none node) (text node)
      (λ some. (fails, (refl, q.reads n node (Plain (Text node.text)) refl is))))
  covered (Open c n k flags) =
      let call = (Open c n k flags) in
      let fails : Fails old call = (refl, λ e. refl) in
      let last = λ (node : Node). opened old.now c.uid k node flags in
      let reply : Node → Handed (List Item) = λ node. Plain (Opened None (if truncates node flags then 0 else 2)) in
      let opens = λ (node : Node). Answered (reply node) (with_resized old n node (last node)) in
      each-if (Fails old call) (Leaves call) fails (opens_nothing old.offered) (Refused enosys)
      (with_it (node_at old n) opens) (λ none. fails)
      (λ some. each-some (Fails old call) (Leaves call) fails enoent (node_at old n) opens
      (λ node is. (
        refl,
        q.resizes n node (last node) (reply node) refl is (opened_resizes old c.uid k node flags),
      )))
  covered (Read c n h room size off o f) =
      let call = (Read c n h room size off o f) in
      let fails : Fails old call = (refl, λ e. refl) in
      let reply : Node → Handed (List Item) = λ node. Plain (Put (part_of node.contents.bytes off (most_put room size))) in
      each-on (Fails old call) (Leaves call) fails (node_at old n) contents_refusal
      (λ node. Answered (reply node)
      (if size == 0 then old else with_node old n (accessed old.now node)))
      (λ node is free. (
        refl,
        some_read n node (Put (part_of node.contents.bytes off (most_put room size))) refl is (size == 0),
      ))
  covered (Write c n h bytes size off o d k f) =
      let call = (Write c n h bytes size off o d k f) in
      let fails : Fails old call = (refl, λ e. refl) in
      let most = λ (node : Node). most_size old off size node in
      let fit = λ (node : Node). fitting (most node) off (take size bytes) in
      let none = λ (node : Node). option_or (contents_refusal node)
      (first_of ((nat_lt 0 size && nat_le (longest old) off, efbig)
      ∷ (nat_lt 0 size && nat_le (most node) off, enospc) ∷ [])) in
      let last = λ (node : Node). overwritten old.now d k node off (fit node) in
      let reply : Node → Handed (List Item) = λ node. Plain (Wrote (length (fit node))) in
      each-on (Fails old call) (Leaves call) fails (node_at old n) none
      (λ node. Tried (nat_lt 0 (length (fit node)) && nat_lt 0 (lacking node.contents off (length (fit node))))
      (reply node) (with_resized old n node (last node)))
      (λ node is free. (
        fails,
        (
          refl,
          q.resizes n node (last node) (reply node) refl is
              (overwritten_resizes old d k node off size (take size bytes)),
        ),
      ))
  covered (Fallocate c n h mode off len) =
      let call = (Fallocate c n h mode off len) in
      let fails : Fails old call = (refl, λ e. refl) in
      let last = λ (node : Node).
      rewritten old.now true false node (fallocated mode off len node.contents) in
      each-on (Fails old call) (Leaves call) fails (node_at old n) (fallocate_refusal old mode off len)
      (λ node. Tried (not (mode == 3) && nat_lt 0 (lacking node.contents off len)) (Plain Done)
      (with_resized old n node (last node)))
      (λ node is free. (
        fails,
        (
          refl,
          q.resizes n node (last node) (Plain Done) refl is
              (fallocated_resizes old node mode off len free),
        ),
      ))
  covered (Setxattr c n name value flags e) =
      let call = (Setxattr c n name value flags e) in
      let fails : Fails old call = (refl, λ e. refl) in
      let was = λ (node : Node). xattr_named node.xattrs name in
      let last = λ (node : Node). with_xattrs old.now node (with_xattr node.xattrs name value) in
      let more = λ (node : Node). xattr_bytes (last node).xattrs in
      let rs : Node → List (Bool × ℕ) = λ node. (bit_and flags 1 == 1 && is_some (was node), eexist)
      ∷ (bit_and flags 2 == 2 && is_none (was node), enodata)
      ∷ (nat_lt 65536 (more node), enospc)
      ∷ (nat_lt (room_of old) (more node - xattr_bytes node.xattrs), enospc) ∷ [] in
      each-on (Fails old call) (Leaves call) fails (node_at old n)
      (λ node. option_or (namespace_refusal name) (first_of (rs node)))
      (λ node. Tried true (Plain Done) (with_resized old n node (last node)))
      (λ node is free. (
        fails,
        (
          refl,
          q.resizes n node (last node) (Plain Done) refl is
              (xattr_fits old node name value
              (ltb-false (room_of old) (more node - xattr_bytes node.xattrs)
              (all_false (rs node) (or_none (namespace_refusal name) (first_of (rs node)) free).1).1.1.1.0)),
        ),
      ))
  covered (Removexattr c n name) =
      let call = (Removexattr c n name) in
      let fails : Fails old call = (refl, λ e. refl) in
      let last = λ (node : Node). with_xattrs old.now node (without_xattr node.xattrs name) in
      let none = λ (node : Node). option_or (namespace_refusal name)
      (first_of ((is_none (xattr_named node.xattrs name), enodata) ∷ [])) in
      each-some (Fails old call) (Leaves call) fails enoent (node_at old n)
      (λ node. unless (none node) (done (with_resized old n node (last node))))
      (λ node is.
      each-unless (Fails old call) (Leaves call) fails (none node) (done (with_resized old n node (last node)))
      (λ free. (refl, q.resizes n node (last node) (Plain Done) refl is (xattr_leaves old node name))))
  covered (Getxattr c n name size) =
      let call = (Getxattr c n name size) in
      let fails : Fails old call = (refl, λ e. refl) in
      each-some (Fails old call) (Leaves call) fails enoent (node_at old n)
      (λ node. unless (namespace_refusal name) (tells old size (xattr_named node.xattrs name)))
      (λ node is.
      each-unless (Fails old call) (Leaves call) fails (namespace_refusal name)
      (tells old size (xattr_named node.xattrs name))
      (λ free. tells_covered call (λ a. refl) refl size (xattr_named node.xattrs name)))
  covered (Listxattr c n size) =
      let call = (Listxattr c n size) in
      let fails : Fails old call = (refl, λ e. refl) in
      each-some (Fails old call) (Leaves call) fails enoent (node_at old n)
      (λ node. tells old size (Some (name_list (is_other c.uid) node.xattrs)))
      (λ node is. tells_covered call (λ a. refl) refl size (Some (name_list (is_other c.uid) node.xattrs)))
  covered (Readdir c n h size off) =
      let call = (Readdir c n h size off) in
      let fails : Fails old call = (refl, λ e. refl) in
      let reply : Node → Handed (List Item) = λ node. Iterator (items_after n node off size) in
      let last = λ (node : Node). with_node old n (accessed old.now node) in
      let none = λ (node : Node). first_of ((not (is_directory node.kind), enotdir) ∷ []) in
      each-some (Fails old call) (Leaves call) fails enoent (node_at old n)
      (λ node. unless (none node) (Tried true (reply node) (last node)))
      (λ node is. each-unless (Fails old call) (Leaves call) fails (none node)
      (Tried true (reply node) (last node))
      (λ free. (fails, (refl, q.reads n node (reply node) (off, size, refl) is))))
  covered (Statfs c n) =
      let statistics : Statvfs64 = record {
        f_bsize = 4096;
        f_frsize = 4096;
        f_blocks = old.limits.bytes / 4096;
        f_bfree = room_of old / 4096;
        f_bavail = room_of old / 4096;
        f_files = old.limits.nodes;
        f_ffree = old.limits.nodes - old.inodes;
        f_namemax = 255;
      } in
      (refl, q.same (Plain (Statistics statistics)) refl)
  covered (Init offered) = (
    refl,
    q.began offered (held_of old.nodes) (Plain (Options (wanted_options old.writeback offered))) refl,
  )
  covered (Release c n f h x y o) =
      (refl, q.same (Plain Done) refl)
  covered (Fsync c n x h) =
      (refl, q.same (Plain Done) refl)
  covered (Releasedir c n f h) =
      (refl, q.same (Plain Done) refl)
  covered (Fsyncdir c n x h) =
      (refl, q.same (Plain Done) refl)
  covered (Opendir c n f) =
      let call = (Opendir c n f) in
      let fails : Fails old call = (refl, λ e. refl) in
      each-if (Fails old call) (Leaves call) fails (bit_and old.offered 0x1000000 == 0x1000000)
      (Refused enosys) (Answered (Plain (Opened None 10)) old) (λ none. fails)
      (λ some. (refl, q.same (Plain (Opened None 10)) refl))
  covered Destroy =
      (refl, q.forgot (held_of old.nodes) (Plain Done) refl)
  covered (Lseek c n h off w) =
      let call = (Lseek c n h off w) in
      let fails : Fails old call = (refl, λ e. refl) in
      let at = λ (node : Node). if w == 4 then Some (hole_from node.contents off)
      else data_from node.contents off in
      let none = λ (node : Node).
      first_of ((not (is_file node.kind) || not (w == 3 || w == 4), einval)
      ∷ (nat_le (length node.contents.bytes) off || is_none (at node), enxio) ∷ []) in
      let reply : Node → Handed (List Item) = λ node. Plain (Offset (unwrap_or (at node) 0)) in
      let last = λ (node : Node). unless (none node) (Answered (reply node) old) in
      each-if (Fails old call) (Leaves call) fails old.writeback (Refused enosys)
      (with_it (node_at old n) last) (λ none. fails)
      (λ may. each-some (Fails old call) (Leaves call) fails enoent (node_at old n) last
      (λ node is. each-unless (Fails old call) (Leaves call) fails (none node) (Answered (reply node) old)
      (λ free. (refl, q.same (reply node) refl))))
  covered call =
      (refl, q.same (Plain (default_answer call)) refl)

-- ---- what a call leaves

-- a call is refused, and nothing is changed, or this is answered and left
pub left_so : (old new : State) (F : Type 0) (L : Handed (List Item) → State → Type 0) (o : Outcome)
    (handed : Handed (List Item)) (C : Type 0)
    → (F → (error : Option ℕ) → handed ≡ Plain (Failed error) → new ≡ old → C)
    → ((reply : Handed (List Item)) → handed ≡ reply → L reply new → C)
    → Each F L o → HandsBack old o handed new → C
left_so old new F L (Refused error) handed C fails leaves each h =
    fails each (Some error) h.0 h.1
left_so old new F L (Answered reply left) handed C fails leaves each h =
    leaves reply h.0 (subst (L reply) (sym h.1) each)
left_so old new F L (Tried needs reply left) handed C fails leaves each h = by handed fails leaves h
  where
    by : (handed : Handed (List Item))
        → (F → (error : Option ℕ) → handed ≡ Plain (Failed error) → new ≡ old → C)
        → ((reply : Handed (List Item)) → handed ≡ reply → L reply new → C)
        → HandsBack old (Tried needs reply left) handed new → C
    by (Plain (Failed x)) fails leaves h = fails each.0 x refl h.1
    by (Iterator x) fails leaves h = leaves reply h.0 (subst (L reply) (sym h.1) each.1)
    by (Plain Done) fails leaves h = leaves reply h.0 (subst (L reply) (sym h.1) each.1)
    by (Plain (Options x)) fails leaves h = leaves reply h.0 (subst (L reply) (sym h.1) each.1)
    by (Plain (Found x)) fails leaves h = leaves reply h.0 (subst (L reply) (sym h.1) each.1)
    by (Plain (Attributes x y)) fails leaves h = leaves reply h.0 (subst (L reply) (sym h.1) each.1)
    by (Plain (Put x)) fails leaves h = leaves reply h.0 (subst (L reply) (sym h.1) each.1)
    by (Plain (Opened x y)) fails leaves h = leaves reply h.0 (subst (L reply) (sym h.1) each.1)
    by (Plain (Created x y z)) fails leaves h = leaves reply h.0 (subst (L reply) (sym h.1) each.1)
    by (Plain (Statistics x)) fails leaves h = leaves reply h.0 (subst (L reply) (sym h.1) each.1)
    by (Plain (Text x)) fails leaves h = leaves reply h.0 (subst (L reply) (sym h.1) each.1)
    by (Plain (Count x)) fails leaves h = leaves reply h.0 (subst (L reply) (sym h.1) each.1)
    by (Plain (Offset x)) fails leaves h = leaves reply h.0 (subst (L reply) (sym h.1) each.1)
    by (Plain (Wrote x)) fails leaves h = leaves reply h.0 (subst (L reply) (sym h.1) each.1)

-- a fact of all states that are left
pub calls_covered : (old new : State) (Q : State → Type 0) → Covers old (λ taken reply left. Q left)
    → (call : Call) (answer : Answer) → TreeAllows old call (Plain answer) new → Q new
calls_covered old new Q q call answer =
    left_so old new (Fails old call) (Leaves old (λ taken reply left. Q left) q call) (outcome old call)
    (Plain answer) (Q new)
    (λ fails error is same. subst Q (sym same) (q.same (Plain Done) refl))
    (λ reply replies leaves. leaves.1)
    (covered old (λ taken reply left. Q left) q call)
