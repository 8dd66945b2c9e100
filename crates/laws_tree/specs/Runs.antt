-- A tree over runs and sessions.
use Rattle.std.specs.Prelude.{◌≡◌, ◌≢◌, ◌<◌, ℕ, ◌+◌, Bool, true, false, List, [], ◌∷◌, Option, IsSome, sum_by, if◌then◌else◌}
use Rattle.std.specs.List.{list_any}
use Rattle.vfs_files.specs.Values.{Item}
use Rattle.vfs_files.specs.Calls.{Init, Destroy}
use Rattle.vfs_files.specs.Runs.{Event, Called, IsRun}
use Rattle.vfs_grammar.specs.Books.{answered, sent, accepted, delivered}
use Rattle.vfs_grammar.specs.Words.{GivesBackWithin, NeverBelow}
use Rattle.vfs_grammar.specs.Turn.{Turn}
use Rattle.laws_tree.specs.Laws.{IsTree, lookups_of, names_of}
use Rattle.vfs_files.specs.Listing.{GivesFirst}
use Rattle.fs_tree.specs.State.{State, node_at}
use Rattle.fs_tree.specs.Tree.{TreeAllows}

-- whether an event takes back every lookup: an INIT or a DESTROY, since a client that goes away sends no
-- FORGET
abbrev pub takes_all : Event → Bool
takes_all (Called (Init _) answer) = true
takes_all (Called Destroy answer) = true
takes_all _ = false

-- those after the last that passes a test; all of them where none does
abbrev pub since : {A : Type 0} → (A → Bool) → List A → List A
since test [] = []
since test (x ∷ xs) = if list_any test xs then since test xs else if test x then xs else x ∷ xs

-- how many lookups of a node are held to begin with: none once all were taken back
abbrev pub held_before : (ended : Bool) → State → (n : ℕ) → ℕ
held_before ended old n = if ended then 0 else lookups_of old n

-- A run keeps a tree one. Of a node of which no more lookups are sent back than were answered, after each
-- event since all were taken back, that many are held then as were to begin with, with those that were
-- answered since and without those that were sent back.
abbrev pub RunsKeepTrees : Type 0
RunsKeepTrees =
    (it : Option (List Item)) (old new : State) (events : List Event)
    → IsTree old → IsRun TreeAllows GivesFirst it old events new
    → let last = since takes_all events in
    IsTree new
    × ((n : ℕ) → NeverBelow n last
    → lookups_of new n + sent n last
    ≡ held_before (list_any takes_all events) old n + answered n last)

-- whether a turn took back every lookup: its request was an INIT that was answered, or a DESTROY
abbrev pub ends_client : Turn → Bool
ends_client t = list_any takes_all t.events

-- the turns of the last client: those since the last INIT or DESTROY
abbrev pub last_turns : List Turn → List Turn
last_turns turns = since ends_client turns

abbrev pub held_by_last : State → List Turn → (n : ℕ) → ℕ
held_by_last old turns n = held_before (list_any ends_client turns) old n

-- What the books of turns say of a tree, which stays one. Of a node of which the last client gave back no
-- more than was delivered to it, after each turn, that many lookups are held then as were to begin with, with
-- those that were delivered to it and without those that were accepted of it.
pub record KeepsTree (old : State) (turns : List Turn) (new : State) : Type 0 where
  pub tree : IsTree new
  pub lookups : (n : ℕ) → n ≢ 0 → GivesBackWithin n (last_turns turns)
      → lookups_of new n + sum_by (accepted n) (last_turns turns)
      ≡ held_by_last old turns n + sum_by (delivered n) (last_turns turns)

-- The last client had nothing to begin with, and gave back of this node all that was delivered to it, and
-- never more. So did one whose last turn is a DESTROY: there are no turns since.
pub record GivesAllBack (old : State) (turns : List Turn) (n : ℕ) : Type 0 where
  pub nothing : held_by_last old turns n ≡ 0
  pub within : GivesBackWithin n (last_turns turns)
  pub all : sum_by (accepted n) (last_turns turns) ≡ sum_by (delivered n) (last_turns turns)

-- a node of which a client gave all back is there only where a name leads to it
abbrev pub LeavesNone : State → List Turn → State → Type 0
LeavesNone old turns new =
    (n : ℕ) → n ≢ 0 → GivesAllBack old turns n → IsSome (node_at new n)
    → 0 < names_of (node_at new n)
