-- A reading of a directory that begins moves the directory's time of access at most.
use Rattle.std.proofs.Common.{◌≡◌, ◌∙◌, ℕ, List, [], Some, refl, sym, ap, subst}
use Rattle.vfs_files.specs.Values.{Item}
use Rattle.vfs_files.specs.Calls.{Done, Handed, Plain, Iterator}
use Rattle.fs_nodes.specs.declared.node.Node.{Node}
use Rattle.fs_tree.specs.Node.{accessed}
use Rattle.fs_tree.specs.State.{State, node_at, with_node, with_resized}
use Rattle.fs_tree.specs.Tree.{outcome, all_forgotten}
use Rattle.laws_tree.specs.Laws.{IsTree, BeginsReading, LeavesLookups, ReadingsMoveATime, lookups_in, lookups_of}
use Rattle.laws_tree.proofs.Cases.{Covers, Fails, IsTold, Leaves, Reads, covered, left_so, nodes_of}
use Rattle.laws_tree.proofs.Linked as linked
use Rattle.laws_tree.proofs.Rooted as rooted
use Rattle.laws_tree.proofs.Sound as sound
use Rattle.laws_tree.proofs.Steps.{seen-with_node}
use Rattle.laws_tree.proofs.Within as within

-- what a directory holds is handed out only where it was read
abbrev Begins : State → List (ℕ × ℕ) → Handed (List Item) → State → Type 0
Begins old taken reply left = (items : List Item) → Iterator items ≡ reply → BeginsReading old items left

told : (old left : State) (reply : Handed (List Item)) → IsTold reply → Begins old [] reply left
told old left (Plain answer) is items read = cc read
told old left (Iterator all) is items read = absurd is

begun : (old : State) (n : ℕ) (node : Node) (reply : Handed (List Item)) → Reads n node reply
    → node_at old n ≡ Some node → Begins old [] reply (with_node old n (accessed old.now node))
begun old n node (Plain answer) reads is items read = cc read
begun old n node (Iterator all) reads is items read =
    let same : items ≡ all = cc read in
    record {
      number = n;
      directory = node;
      off = reads.0;
      size = reads.1;
      there = is;
      told = same ∙ reads.2;
      left = refl;
    }

covers : (old : State) → Covers old (Begins old)
covers old = record {
  same = told old old;
  looked_up = λ n node is items read. cc read;
  reads = begun old;
  forgot = λ pairs reply is. told old (all_forgotten old pairs) reply is;
  began = λ offered pairs reply is.
      told old (record (all_forgotten old pairs) { offered = offered }) reply is;
  resizes = λ n was now reply is at r. told old (with_resized old n was now) reply is;
  makes = λ reply is uid gid kind permissions parent name text free items read.
      let none = ap nodes_of read in cc (none, is);
  makes_nameless = λ reply is uid gid permissions parent name is_linkable free items read.
      let none = ap nodes_of read in cc (none, is);
  links = λ n node parent name is free items read. cc read;
  unlinks = λ parent name child node there found is file items read. cc read;
  removes = λ parent name child node there found is empty items read. cc read;
  renames = λ ctx od on nd nn flags child r items read. cc read;
}

-- a node that was read leaves a tree one
tree_read : (old : State) (n : ℕ) (node : Node) → node_at old n ≡ Some node → IsTree old
    → IsTree (with_node old n (accessed old.now node))
tree_read old n node is tree = record {
  sound = ((sound.covers old tree.sound).reads n node (Plain Done) refl is).sound;
  within = ((within.covers old tree.sound tree.within).reads n node (Plain Done) refl is).within;
  linked = (linked.covers old tree.sound tree.linked).reads n node (Plain Done) refl is;
  rooted = (rooted.covers old tree.sound tree.linked tree.rooted).reads n node (Plain Done) refl is;
}

leaves_lookups : (old new : State) (items : List Item) → BeginsReading old items new
    → LeavesLookups old new
leaves_lookups old new items b = record {
  tree = λ tree. subst IsTree (sym b.left) (tree_read old b.number b.directory b.there tree);
  lookups = λ m.
      ap (λ (s : State). lookups_of s m) b.left
      ∙ seen-with_node old b.number b.directory (accessed old.now b.directory) b.there lookups_in refl m;
}

pub readings_move_a_time : ReadingsMoveATime
readings_move_a_time old new call items allowed =
    let begins =
    left_so old new (Fails old call) (Leaves old (Begins old) (covers old) call) (outcome old call)
    (Iterator items) (BeginsReading old items new)
    (λ fails error is same. cc is)
    (λ reply replies leaves. leaves.1 items replies)
    (covered old (Begins old) (covers old) call) allowed in
    (begins, leaves_lookups old new items begins)
