-- A request that was served, as a moment of a history.
use Rattle.std.proofs.Common.{ℕ, List, replicate, take, Option, Result, Ok, Err, refl, ap, sym, subst, ◌∙◌, append-nil}
use Rattle.vfs_segments.specs.Written.{Written}
use Rattle.vfs_files.specs.Values.{Item}
use Rattle.vfs_files.specs.Calls.{Call, Handed}
use Rattle.vfs_grammar.specs.declared.error.Error.{Error}
use Rattle.vfs_server.specs.Served.{room_of}
use Rattle.vfs_server.specs.Step.{ServerState, IsStep}
use Rattle.vfs_server.specs.declared.transport.error.ServeError.TheVariants.{OutOfMemory, Segments, Server, FileSystem}
use Rattle.laws_history.specs.History.{turn_of, IsHistory}
use Rattle.laws_history.specs.Serving.{IsTurnOf, GoesOnServed}
use Rattle.laws_history.proofs.Going.{goes_on}

module _ {S I : Type 0} (allows : S → Call → Handed I → S → Type 0)
    (gives : I → Option Item → I → Type 0) where
  is_served : (old : ServerState S) (request : List ℕ) (size : ℕ) (outcome : Result ℕ Error)
      (after : Written) (new : ServerState S)
      → (step : IsStep allows gives old request (room_of size) outcome after new)
      → IsTurnOf request size outcome
      (turn_of allows gives old request (room_of size) outcome after new step)
  is_served old request size outcome after new step =
      record { asked = refl; room = append-nil (replicate size 0); came = refl }

  pub goes_on_served : GoesOnServed allows gives
  goes_on_served first old new moments request size (Ok reply) h served =
      let step = served.stepped.step in
      record {
        t = turn_of allows gives old request (room_of size) (Ok served.len) served.after new step;
        len = served.len;
        served = is_served old request size (Ok served.len) served.after new step;
        bytes = served.bytes ∙ ap (λ (bytes : List ℕ). take served.len bytes) step.leaves.kept;
        history = goes_on allows gives first old new moments request (room_of size) (Ok served.len)
            served.after h step;
      }
  goes_on_served first old new moments request size (Err OutOfMemory) h served =
      subst (λ (s : ServerState S). IsHistory allows gives first moments s) (sym served) h
  goes_on_served first old new moments request size (Err (Segments error)) h served =
      subst (λ (s : ServerState S). IsHistory allows gives first moments s) (sym served.1) h
  goes_on_served first old new moments request size (Err (Server error)) h served =
      let step = served.stepped.step in
      record {
        t = turn_of allows gives old request (room_of size) (Err error) served.after new step;
        served = is_served old request size (Err error) served.after new step;
        history = goes_on allows gives first old new moments request (room_of size) (Err error)
            served.after h step;
      }
  goes_on_served first old new moments request size (Err (FileSystem fault)) h served = absurd served
