-- A tree over the history of its server: requests, in however many calls, and what the tree's owner did
-- to it between them.
use Rattle.std.specs.Prelude.{◌≡◌, ◌≢◌, ◌<◌, ℕ, ◌+◌, Bool, List, [], ◌∷◌, IsSome, sum_by}
use Rattle.vfs_files.specs.Listing.{GivesFirst}
use Rattle.vfs_grammar.specs.Books.{accepted, delivered, KeepsBooks}
use Rattle.vfs_grammar.specs.Words.{GivesBackWithin}
use Rattle.vfs_grammar.specs.Turn.{Turn}
use Rattle.vfs_server.specs.Step.{ServerState}
use Rattle.laws_history.specs.History.{Moment, Handled, Changed, turns_in, IsHistory}
use Rattle.fs_tree.specs.State.{State, node_at}
use Rattle.fs_tree.specs.Tree.{TreeAllows, first_state}
use Rattle.fs_tree.specs.declared.fs.Capacity.{Capacity}
use Rattle.fs_nodes.specs.declared.node.Time.{Time}
use Rattle.laws_tree.specs.Laws.{IsTree, LeavesLookups, lookups_of, names_of}
use Rattle.laws_tree.specs.Runs.{last_turns, KeepsTree, LeavesNone}

-- each change by the owner keeps a tree one, and the lookups that are held
abbrev pub OwnerLeavesLookups : List (Moment State) → Type 0
OwnerLeavesLookups [] = Unit {0}
OwnerLeavesLookups (Handled t ∷ moments) = OwnerLeavesLookups moments
OwnerLeavesLookups (Changed before after ∷ moments) =
    LeavesLookups before after × OwnerLeavesLookups moments

-- over any history with such changes alone a tree stays one, and its lookups are as the books say
abbrev pub HistoriesKeepTrees : Type 0
HistoriesKeepTrees =
    (old new : ServerState State) (moments : List (Moment State))
    → IsHistory TreeAllows GivesFirst old moments new → OwnerLeavesLookups moments → IsTree old.fs
    → KeepsTree old.fs (turns_in moments) new.fs × LeavesNone old.fs (turns_in moments) new.fs

-- telling a tree the time is such a change
abbrev pub TellingLeavesLookups : Type 0
TellingLeavesLookups = (s : State) (now : Time) → LeavesLookups s (record s { now = now })

-- the owner told the tree the time, and did nothing else to it
abbrev pub OnlyTold : List (Moment State) → Type 0
OnlyTold [] = Unit {0}
OnlyTold (Handled t ∷ moments) = OnlyTold moments
OnlyTold (Changed before after ∷ moments) =
    ((now : Time) × (after ≡ record before { now = now })) × OnlyTold moments

-- What holds of a tree over all turns since it was made. The books are kept, and the tree is one. Of a node
-- of which the last client gave back no more than was delivered to it, after each turn, just those lookups
-- are held that were delivered to it and not accepted of it; and if it gave all back, the node is there
-- only if a name leads to it.
pub record IsKept (turns : List Turn) (new : State) : Type 0 where
  pub books : KeepsBooks turns
  pub tree : IsTree new
  pub lookups : (n : ℕ) → n ≢ 0 → GivesBackWithin n (last_turns turns)
      → lookups_of new n + sum_by (accepted n) (last_turns turns)
      ≡ sum_by (delivered n) (last_turns turns)
  pub leaves_none : (n : ℕ) → n ≢ 0 → GivesBackWithin n (last_turns turns)
      → sum_by (accepted n) (last_turns turns) ≡ sum_by (delivered n) (last_turns turns)
      → IsSome (node_at new n) → 0 < names_of (node_at new n)

-- from a new tree on, over any requests and tellings of the time
abbrev pub NewTreesAreKept : Type 0
NewTreesAreKept =
    (uid gid permissions : ℕ) (limits : Capacity) (writeback : Bool) (now : Time)
    (first new : ServerState State) (moments : List (Moment State))
    → first.fs ≡ first_state uid gid permissions limits writeback now
    → IsHistory TreeAllows GivesFirst first moments new → OnlyTold moments
    → IsKept (turns_in moments) new.fs
