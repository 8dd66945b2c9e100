-- How a call ends: what it hands back, and which state it leaves.
use Rattle.std.specs.Prelude.{◌≡◌, ℕ, Bool, List, IsTrue, Option, Some}
use Rattle.std.specs.Option.{option_map_or}
use Rattle.vfs_flags.specs.Numbers.{enoent, enomem}
use Rattle.vfs_files.specs.Values.{Item}
use Rattle.vfs_files.specs.Calls.{Done, Failed, Handed, Plain}
pub use Rattle.fs_nodes.specs.Refusals.{first_of}
use Rattle.fs_nodes.specs.declared.node.Node.{Node}
use Rattle.fs_tree.specs.State.{State}

-- how a call ends: it is refused with an error, and nothing is changed; or it hands this back, and this is
-- the state; or so it is tried, and where it needs memory that there isn't, refused with ENOMEM
pub data Outcome : Type 0 where
  Refused : (error : ℕ) → Outcome
  Answered : Handed (List Item) → State → Outcome
  Tried : (needs_memory : Bool) → Handed (List Item) → State → Outcome

-- from the old state a call that ends so may hand this back and leave the new state
abbrev pub HandsBack : State → Outcome → Handed (List Item) → State → Type 0
HandsBack old (Refused error) handed new = (handed ≡ Plain (Failed (Some error))) × (new ≡ old)
HandsBack old (Answered reply left) handed new = (handed ≡ reply) × (new ≡ left)
HandsBack old (Tried needs reply left) (Plain (Failed fault)) new =
    (fault ≡ Some enomem) × (new ≡ old) × IsTrue needs
HandsBack old (Tried needs reply left) handed new = (handed ≡ reply) × (new ≡ left)

-- nothing is told but that it is done
abbrev pub done : State → Outcome
done left = Answered (Plain Done) left

-- ---- refusals

-- refused with this error, or else ended so
abbrev pub unless : Option ℕ → Outcome → Outcome
unless refusal outcome = option_map_or Refused refusal outcome

-- what is done with what was found, if it was
abbrev pub with_it : {A : Type 0} → Option A → (A → Outcome) → Outcome
with_it it outcome = option_map_or outcome it (Refused enoent)

-- what is done with a node that is there and gives no refusal
abbrev pub on : Option Node → (Node → Option ℕ) → (Node → Outcome) → Outcome
on node refusal outcome = with_it node (λ node. unless (refusal node) (outcome node))

-- why nothing is done with a node: it is not there, or its own refusal
abbrev pub refusal_of : Option Node → (Node → Option ℕ) → Option ℕ
refusal_of node refusal = option_map_or refusal node (Some enoent)
