-- Calls that take back every lookup, and all others.
use Rattle.std.proofs.Common.{◌≡◌, ◌⊎◌, inl, inr, ℕ, true, false, [], None, refl}
use Rattle.vfs_files.specs.Calls.{Call, Init, Destroy, Answer, kind_of}
use Rattle.vfs_files.specs.Runs.{Called}
use Rattle.vfs_grammar.specs.Books.{forgotten, answered_nodes, forgets_of}
use Rattle.vfs_grammar.specs.Turn.{node_answered}
use Rattle.fs_tree.specs.State.{State}
use Rattle.laws_tree.specs.Laws.{lookups_of, taken_back}
use Rattle.laws_tree.specs.Runs.{takes_all}
use Rattle.laws_tree.proofs.Cases.{taken_pairs}
use Rattle.laws_tree.proofs.Changes.{held_of}

-- a call that takes back what it says
pub record IsOrdinary (old : State) (call : Call) (answer : Answer) : Type 0 where
  pub goes_on : takes_all (Called call answer) ≡ false
  pub taken : (n : ℕ) → taken_back old call n ≡ forgotten n (forgets_of call)
  pub pairs : taken_pairs old call ≡ forgets_of call

-- one that takes back all, and answers no entry
pub record IsEnding (old : State) (call : Call) (answer : Answer) : Type 0 where
  pub ends : takes_all (Called call answer) ≡ true
  pub taken : (n : ℕ) → taken_back old call n ≡ lookups_of old n
  pub pairs : taken_pairs old call ≡ held_of old.nodes
  pub gives : answered_nodes call answer ≡ []
  pub back : forgets_of call ≡ []
  pub unseen : node_answered (kind_of call) answer ≡ None

pub which : (old : State) (call : Call) (answer : Answer)
    → IsOrdinary old call answer ⊎ IsEnding old call answer
which old (Init _) answer =
    inr (record { ends = refl; taken = λ n. refl; pairs = refl; gives = refl; back = refl; unseen = refl })
which old Destroy answer =
    inr (record { ends = refl; taken = λ n. refl; pairs = refl; gives = refl; back = refl; unseen = refl })
which old _ answer =
    inl (record { goes_on = refl; taken = λ n. refl; pairs = refl })
