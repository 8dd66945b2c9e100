-- What holds of every state of a tree that can be reached, and what a call does to the lookups that are
-- held.
use Rattle.std.specs.Prelude.{◌≡◌, ◌≤◌, ◌<◌, ◌⊎◌, ℕ, zero, suc, ◌+◌, ◌==◌, max, Bool, true, false, List, [], ◌∷◌, length, map, Option, Some, None, IfSome, sum_by, count_by, if◌then◌else◌}
use Rattle.std.specs.List.{All, IsDistinct}
use Rattle.std.specs.Map.{values_of}
use Rattle.std.specs.Str.{bytes_eq}
use Rattle.vfs_files.specs.Values.{Item}
use Rattle.vfs_files.specs.Calls.{Call, Init, Destroy, Answer, Handed, Plain, Iterator}
use Rattle.vfs_grammar.specs.Books.{times, forgotten, answered_nodes, forgets_of}
use Rattle.fs_tree.specs.Children.{Link, is_directory, is_file}
use Rattle.fs_tree.specs.Listing.{items_after}
use Rattle.fs_tree.specs.Node.{weight, accessed}
use Rattle.fs_tree.specs.Rename.{parent_of}
use Rattle.fs_tree.specs.State.{State, node_at, with_node}
use Rattle.fs_tree.specs.Tree.{TreeAllows, first_state}
use Rattle.fs_nodes.specs.declared.children.Child.{Child}
use Rattle.fs_tree.specs.declared.fs.Capacity.{Capacity}
use Rattle.fs_nodes.specs.declared.node.Node.{Node}
use Rattle.fs_nodes.specs.declared.node.Time.{Time}

-- how many lookups of a node are held
abbrev pub lookups_in : Option Node → ℕ
lookups_in None = 0
lookups_in (Some node) = node.lookups

abbrev pub lookups_of : State → (number : ℕ) → ℕ
lookups_of s n = lookups_in (node_at s n)

-- a node that no name leads to is held by a lookup
abbrev pub IsHeld : Node → Type 0
IsHeld node = node.names ≡ 0 → 0 < node.lookups

-- entries in order of their numbers, which are at least the first one and below the last
abbrev pub Ascend : (from : ℕ) → List (ℕ × Node) → (to : ℕ) → Type 0
Ascend from [] to = from ≤ to
Ascend from (e ∷ es) to = (from ≤ e.0) × Ascend (e.0 + 1) es to

-- The nodes are in order of their numbers, from 1 to below the next one, and of each a name leads to
-- it or a lookup is held.
pub record IsSound (s : State) : Type 0 where
  pub ordered : Ascend 1 s.nodes s.next
  pub held : (n : ℕ) → IfSome (node_at s n) IsHeld

-- How many lookups of a node a call takes back: at an INIT and a DESTROY all that are held, since a client
-- that goes away sends no FORGET.
abbrev pub taken_back : State → Call → (n : ℕ) → ℕ
taken_back old (Init _) n = lookups_of old n
taken_back old Destroy n = lookups_of old n
taken_back old call n = forgotten n (forgets_of call)

-- Of a node of which a call takes back no more lookups than are held, that many are held then as were, with
-- those that it gives, by the entry that it answers, and without those that it takes back.
abbrev pub CountsLookups : State → Call → Answer → State → Type 0
CountsLookups old call answer new =
    (n : ℕ) → taken_back old call n ≤ lookups_of old n
    → lookups_of new n + taken_back old call n
    ≡ lookups_of old n + times n (answered_nodes call answer)

-- a call keeps a sound state sound, and counts lookups
abbrev pub CallsAreSound : Type 0
CallsAreSound =
    (old new : State) (call : Call) (answer : Answer)
    → IsSound old → TreeAllows old call (Plain answer) new
    → IsSound new × CountsLookups old call answer new

-- ---- what is in use

-- how many inodes a node is counted as: one, and one more for each further name that leads to it
abbrev pub inodes_of : Node → ℕ
inodes_of node = max 1 node.names

-- a file has at most that many bytes
abbrev pub IsShort : (most : ℕ) → Node → Type 0
IsShort most node = is_file node.kind ≡ true → length node.contents.bytes ≤ most

abbrev pub AreShort : (most : ℕ) → List (ℕ × Node) → Type 0
AreShort most [] = Unit {0}
AreShort most (e ∷ es) = IsShort most e.1 × AreShort most es

-- The bytes that are in use are those of the nodes, and the inodes too; both are within the limits, but for
-- the root, which is always there; and so is each file.
pub record IsWithin (s : State) : Type 0 where
  pub used : s.used ≡ sum_by weight (values_of s.nodes)
  pub bytes : s.used ≤ s.limits.bytes
  pub counted : s.inodes ≡ sum_by inodes_of (values_of s.nodes)
  pub inodes : s.inodes ≤ max 1 s.limits.nodes
  pub files : AreShort s.limits.file s.nodes

-- a call keeps a state within its limits, which stay
abbrev pub CallsStayWithin : Type 0
CallsStayWithin =
    (old new : State) (call : Call) (answer : Answer)
    → IsSound old → IsWithin old → TreeAllows old call (Plain answer) new
    → IsWithin new × (new.limits ≡ old.limits)

-- ---- names

-- how many names of a directory lead to a node
abbrev pub names_in : (number : ℕ) → List (ℕ × Link) → ℕ
names_in n links = count_by (λ link. link.1.child.node == n) links

-- how many names of all directories do
abbrev pub names_to : State → (number : ℕ) → ℕ
names_to s n = sum_by (λ node. names_in n node.children.links) (values_of s.nodes)

-- how many lead to it as it says
abbrev pub names_of : Option Node → ℕ
names_of None = 0
names_of (Some node) = node.names

-- no name is there twice
abbrev pub AreApart : List (ℕ × Link) → Type 0
AreApart links = IsDistinct bytes_eq (map (λ link. link.1.name) links)

-- a name of this directory leads to a node that is there; it says what that is, and where that is a
-- directory, it lies in this one
abbrev pub Leads : State → (directory : ℕ) → Child → Option Node → Type 0
Leads s d child None = ⊥
Leads s d child (Some node) =
    (child.kind ≡ node.kind) × (is_directory node.kind ≡ true → node.parent ≡ d)

-- The names of a node: it has as many as lead to it, the root one more. It holds names only where it is a
-- directory that has a name itself, none of them twice, each leading where it says; and a directory has
-- one name at most.
pub record IsNamed (s : State) (n : ℕ) (node : Node) : Type 0 where
  pub apart : AreApart node.children.links
  pub leads : All (λ link. Leads s n link.1.child (node_at s link.1.child.node)) node.children.links
  pub files : is_directory node.kind ≡ false → node.children.links ≡ []
  pub nameless : node.names ≡ 0 → node.children.links ≡ []
  pub single : is_directory node.kind ≡ true → node.names ≤ 1

-- Every name leads to a node that is there, and as many lead to a node as it says; the root is a
-- directory, which one more keeps, that no directory has, and which lies in itself.
pub record IsLinked (s : State) : Type 0 where
  pub root : IfSome (node_at s 1) (λ node. is_directory node.kind ≡ true)
  pub top : parent_of (node_at s 1) ≡ 1
  pub counted : (n : ℕ) → names_of (node_at s n) ≡ names_to s n + (if n == 1 then 1 else 0)
  pub named : (n : ℕ) → IfSome (node_at s n) (IsNamed s n)

abbrev pub CallsKeepLinks : Type 0
CallsKeepLinks =
    (old new : State) (call : Call) (answer : Answer)
    → IsSound old → IsLinked old → TreeAllows old call (Plain answer) new → IsLinked new

-- ---- the way up

-- the directory that many steps above a node
abbrev pub above : State → (steps number : ℕ) → ℕ
above s zero n = n
above s (suc k) n = above s k (parent_of (node_at s n))

-- a directory that has a name leads up to the root: so none lies in itself
abbrev pub IsRooted : State → Type 0
IsRooted s =
    (n : ℕ) → IfSome (node_at s n) (λ node. is_directory node.kind ≡ true → 0 < node.names
    → (k : ℕ) × (above s k n ≡ 1))

abbrev pub CallsKeepTheWayUp : Type 0
CallsKeepTheWayUp =
    (old new : State) (call : Call) (answer : Answer)
    → IsSound old → IsLinked old → IsRooted old → TreeAllows old call (Plain answer) new
    → IsRooted new

-- ---- trees

-- a tree: what a new one is, and calls keep
pub record IsTree (s : State) : Type 0 where
  pub sound : IsSound s
  pub within : IsWithin s
  pub linked : IsLinked s
  pub rooted : IsRooted s

-- a new one, of which no lookup is held
abbrev pub NewOnesAreTrees : Type 0
NewOnesAreTrees =
    (uid gid permissions : ℕ) (limits : Capacity) (writeback : Bool) (now : Time)
    → IsTree (first_state uid gid permissions limits writeback now)
    × ((n : ℕ) → lookups_of (first_state uid gid permissions limits writeback now) n ≡ 0)

-- a change that keeps a tree one, and the lookups of each node that are held
pub record LeavesLookups (old new : State) : Type 0 where
  pub tree : IsTree old → IsTree new
  pub lookups : (n : ℕ) → lookups_of new n ≡ lookups_of old n

-- a reading of a directory began: it tells what this holds after an offset, and but for its time of access,
-- which moves as in any reading, all is as it was
pub record BeginsReading (old : State) (items : List Item) (new : State) : Type 0 where
  pub number : ℕ
  pub directory : Node
  pub off : ℕ
  pub size : ℕ
  pub there : node_at old number ≡ Some directory
  pub told : items ≡ items_after number directory off size
  pub left : new ≡ with_node old number (accessed old.now directory)

-- a reading that begins does no more, and so keeps a tree one, with its lookups
abbrev pub ReadingsMoveATime : Type 0
ReadingsMoveATime =
    (old new : State) (call : Call) (items : List Item)
    → TreeAllows old call (Iterator items) new → BeginsReading old items new × LeavesLookups old new

-- a call keeps a tree one, whatever it asks, and its limits, and counts lookups
abbrev pub CallsKeepTrees : Type 0
CallsKeepTrees =
    (old new : State) (call : Call) (answer : Answer)
    → IsTree old → TreeAllows old call (Plain answer) new
    → IsTree new × (new.limits ≡ old.limits) × CountsLookups old call answer new

-- ---- births

-- a node that was there had the same birth; another is born now
abbrev pub IsBorn : State → (number : ℕ) → Node → Type 0
IsBorn old n node =
    ((was : Node) × (node_at old n ≡ Some was) × (node.btime ≡ was.btime))
    ⊎ ((node_at old n ≡ None) × (node.btime ≡ old.now))

-- a call sets the time of birth of the nodes that it makes, and of no other
abbrev pub CallsKeepBirths : Type 0
CallsKeepBirths =
    (old new : State) (call : Call) (handed : Handed (List Item))
    → IsSound old → TreeAllows old call handed new → (n : ℕ) → IfSome (node_at new n) (IsBorn old n)
