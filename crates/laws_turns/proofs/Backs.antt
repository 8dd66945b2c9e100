-- Entries that are given back: as many forgets are sent as the answer has entries.
use Rattle.std.proofs.Common.{◌≡◌, ◌≢◌, ◌≤◌, ℕ, nat_eq, Bool, true, false, if◌then◌else◌, List, [], ◌∷◌, length, Option, Some, None, refl, ap, sym, ◌∙◌, arith, zero-add}
use Rattle.std.proofs.lemmas.Bool.Decides.{nat_tests}
use Rattle.vfs_files.specs.declared.entry.Context.{Context}
use Rattle.vfs_files.specs.Answers.{Kind, Quiet, Entries, Creations, Answer, Found, Created, IsAnswer}
use Rattle.vfs_files.specs.Calls.{Call, Lookup, Symlink, Mknod, Mkdir, Link, Create, kind_of}
use Rattle.vfs_files.specs.Runs.{Event, Called}
use Rattle.vfs_grammar.specs.Listing.{given_back}
use Rattle.vfs_grammar.specs.Reply.{Reply}
use Rattle.vfs_grammar.specs.Room.{unseen}
use Rattle.vfs_grammar.specs.Turn.{node_answered}
use Rattle.vfs_grammar.specs.Words.{counted}
use Rattle.vfs_grammar.specs.Books.{times, forgotten, entry_node, answered_nodes, forgets_of, answered, sent}
use Rattle.laws_turns.proofs.ListedNodes.{no_node}
use Rattle.laws_turns.proofs.Replying.{LastOnly, one_event}
use Rattle.laws_turns.proofs.Saying.{AreForgets}

-- what is given back answers no entry
pub back_answered : (n : ℕ) (ctx : Context) (back : Option ℕ) → answered n (given_back ctx back) ≡ 0
back_answered n ctx None = refl
back_answered n ctx (Some node) = refl

back_short : (ctx : Context) (back : Option ℕ) → length (given_back ctx back) ≤ 1
back_short ctx None = omega arith
back_short ctx (Some node) = omega arith

module _ (n : ℕ) (some : n ≢ 0) (ctx : Context) where
  counted_by : (none : Bool) (node : ℕ) → nat_eq node 0 ≡ none
      → sent n (given_back ctx (if none then None else Some node)) ≡ times n (node ∷ [])
  counted_by true node e = let zero : node ≡ 0 = grind (arith, nat_tests) in sym (no_node n node some zero)
  counted_by false node e = zero-add _

  counted_back : (node : ℕ) → sent n (given_back ctx (counted node)) ≡ times n (node ∷ [])
  counted_back node = counted_by (nat_eq node 0) node refl

  entries_back : (answer : Answer) → IsAnswer Entries answer → sent n (given_back ctx (node_answered Entries answer)) ≡ times n (entry_node answer)
  entries_back (Found entry) is = counted_back entry.inode
  entries_back (Created entry handle options) is = absurd is
  entries_back _ is = refl

  creations_back : (answer : Answer) → IsAnswer Creations answer → sent n (given_back ctx (node_answered Creations answer)) ≡ times n (entry_node answer)
  creations_back (Created entry handle options) is = counted_back entry.inode
  creations_back (Found entry) is = absurd is
  creations_back _ is = refl

  -- where an answer's node is given back, as much is sent as was answered
  pub nodes_back : (c : Call) (answer : Answer) → IsAnswer (kind_of c) answer
      → sent n (given_back ctx (node_answered (kind_of c) answer)) ≡ times n (answered_nodes c answer)
  nodes_back (Lookup _ _ _) answer is = entries_back answer is
  nodes_back (Symlink _ _ _ _ _) answer is = entries_back answer is
  nodes_back (Mknod _ _ _ _ _ _ _) answer is = entries_back answer is
  nodes_back (Mkdir _ _ _ _ _ _) answer is = entries_back answer is
  nodes_back (Link _ _ _ _) answer is = entries_back answer is
  nodes_back (Create _ _ _ _ _ _ _ _) answer is = creations_back answer is
  nodes_back _ answer is = refl

-- of a call and what is given back after it only the last gives back anything
pub call_last : (n : ℕ) (ctx : Context) (kind : Kind) (c : Call) (answer : Answer) (room : ℕ) (reply : Reply) (events : List Event)
    → AreForgets kind (forgets_of c) → events ≡ Called c answer ∷ given_back ctx (unseen room reply (node_answered kind answer)) → LastOnly n events
call_last n ctx Quiet c answer room reply events none e = one_event n (Called c answer) events e
call_last n ctx kind c answer room reply events none e = record {
  front = Called c answer ∷ [];
  last = given_back ctx (unseen room reply (node_answered kind answer));
  are = e;
  none = zero-add _ ∙ ap (forgotten n) none;
  short = back_short ctx (unseen room reply (node_answered kind answer));
}
