-- What a call adds to the history of a server.
use Rattle.std.proofs.Common.{ℕ, ℤ, List, refl, sym, ◌∙◌, inl, inr}
use Rattle.std.proofs.lemmas.List.{append_cancel_left}
use Rattle.vfs_server.specs.Step.{ServerState}
use Rattle.laws_history.specs.History.{GoesOnHandled, GoesOnChanged, turn_of}
use Rattle.nizwarf_tree.specs.Files.{State, Allows, Gives}
use Rattle.codec_decode.specs.Further.{What, Ordinary, Short, Row, Unnamed}
use Rattle.laws_flight.specs.OfferedTurns.{as_create}
use Rattle.nizwarf_tree.specs.History.{Answered, AnsweredAs, Told, Turned}
use Rattle.nizwarf_tree.specs.Offered.{what_asked}
use Rattle.nizwarf_tree.specs.Served.{ServedAs, ServedInC, SteppedInC, told_time}

module _ (goes : GoesOnHandled Allows Gives) (old : ServerState State) (total : ℕ) (number : ℤ) (len : ℕ)
    (room : List ℕ) (shown : ℕ) (new : ServerState State) where
  -- a step is a turn
  turned : (request : List ℕ) → SteppedInC old request total number len room shown new
      → Turned old request total number len room shown new
  turned request s = record {
    t = turn_of Allows Gives old request s.before s.outcome s.after new s.step;
    asked = refl;
    space = s.space;
    numbered = s.numbered;
    counted = s.counted;
    left = append_cancel_left s.before.passed room s.step.room_after (sym s.left ∙ s.step.leaves.kept);
    copied = s.copied;
    extends = λ first moments h. goes first old new moments request s.before s.outcome s.after h s.step;
  }

  answered_as : (w : What) (request : List ℕ) → ServedAs w old request total number len room shown new
      → AnsweredAs w old request total number len room shown new
  answered_as Ordinary request s = turned request s
  answered_as Unnamed request s = turned (as_create request) s
  answered_as Short request s = s
  answered_as (Row told) request s = s

  pub answered : (request : List ℕ) → ServedInC old request total number len room shown new
      → Answered old request total number len room shown new
  answered request (inl s) = inl (answered_as (what_asked old.limits request) request s)
  answered request (inr r) = inr r

pub is_told : GoesOnChanged Allows Gives → (old : ServerState State) (seconds nanoseconds : ℕ)
    → Told old seconds nanoseconds (told_time old seconds nanoseconds)
is_told goes old seconds nanoseconds = λ first moments h.
    goes first old (told_time old seconds nanoseconds) moments h refl refl
