-- A history, moment by moment.
use Rattle.std.proofs.Common.{◌≡◌, ℕ, List, [], ◌∷◌, map, Option, None, Result, refl, ap, ◌∙◌, subst}
use Rattle.vfs_segments.specs.Written.{Written}
use Rattle.vfs_files.specs.Values.{Item}
use Rattle.vfs_files.specs.Calls.{Call, Handed}
use Rattle.vfs_files.specs.RunLaws.{run-join}
use Rattle.vfs_grammar.specs.Turn.{Turn, AreTurns, events_in}
use Rattle.vfs_grammar.specs.Books.{KeepsBooks}
use Rattle.vfs_grammar.specs.declared.limits.Limits.{Limits}
use Rattle.vfs_grammar.specs.declared.error.Error.{Error}
use Rattle.vfs_server.specs.Step.{ServerState, IsStep, turn_over}
use Rattle.laws_history.specs.History.{Handled, Changed, turns_in, turn_of_end, IsHandled, IsHistory, GoesOnHandled, GoesOnChanged, GoesOnEnded, HasOneRun, HasTurns, HeldCountsStay, HistoriesJoin, HistoriesKeepBooks, HistoriesSplit}
use Rattle.laws_history.proofs.Counts.{never_below_held}
use Rattle.laws_history.proofs.Ending.{is_end}

-- the turns of requests with nothing between them
pub turns_of_handled : (S : Type 0) (ts : List Turn) → turns_in {S = S} (map Handled ts) ≡ ts
turns_of_handled S [] = refl
turns_of_handled S (t ∷ ts) = ap (λ (l : List Turn). t ∷ l) (turns_of_handled S ts)

module _ {S I : Type 0} (allows : S → Call → Handed I → S → Type 0)
    (gives : I → Option Item → I → Type 0) where
  -- a step is a request that was handled
  is_handled : (old : ServerState S) (request : List ℕ) (writer : Written)
      (outcome : Result ℕ Error) (after : Written) (new : ServerState S)
      → (step : IsStep allows gives old request writer outcome after new)
      → IsHandled allows gives old (turn_over request writer step.events outcome step.room_after) new
  is_handled old request writer outcome after new step = record {
    is_run = step.is_run;
    turn = step.turn;
    same_limits = step.same_limits;
  }

  pub join : HistoriesJoin allows gives
  join first middle last [] after h k =
      subst (λ (s : ServerState S). IsHistory allows gives s after last) h k
  join first middle last (Handled t ∷ ms) after h k =
      (h.0, h.1, join h.0 middle last ms after h.2 k)
  join first middle last (Changed a b ∷ ms) after h k =
      (h.0, join (record first { fs = b }) middle last ms after h.1 k)

  pub goes_on : GoesOnHandled allows gives
  goes_on first old new ms request writer outcome after h step =
      join first old new ms
      (Handled (turn_over request writer step.events outcome step.room_after) ∷ []) h
      (new, is_handled old request writer outcome after new step, refl)

  -- a server whose file system alone is another
  changed : (old new : ServerState S) → new.options ≡ old.options → new.limits ≡ old.limits
      → new ≡ record old { fs = new.fs }
  changed old new options limits =
      ap (λ (o : ℕ). let s : ServerState S =
      record { options = o; limits = new.limits; fs = new.fs } in s) options
      ∙ ap (λ (l : Limits). let s : ServerState S =
      record { options = old.options; limits = l; fs = new.fs } in s) limits

  pub goes_on_changed : GoesOnChanged allows gives
  goes_on_changed first old new ms h options limits =
      join first old new ms (Changed old.fs new.fs ∷ []) h (refl, changed old new options limits)

  pub goes_on_ended : GoesOnEnded allows gives
  goes_on_ended first old new ms h called none same =
      join first old new ms (Handled turn_of_end ∷ []) h
      (new, is_end allows gives old new called none same, refl)

  pub is_cut : HistoriesSplit allows gives
  is_cut first last [] after h = (first, refl, h)
  is_cut first last (Handled t ∷ ms) after h =
      let r = is_cut h.0 last ms after h.2 in (r.0, (h.0, h.1, r.1), r.2)
  is_cut first last (Changed a b ∷ ms) after h =
      let r = is_cut (record first { fs = b }) last ms after h.1 in (r.0, (h.0, r.1), r.2)

  pub has_turns : HasTurns allows gives
  has_turns old new [] h =
      (ap (λ (s : ServerState S). s.options) h, ap (λ (s : ServerState S). s.limits) h)
  has_turns old new (Handled t ∷ ms) h =
      let r = has_turns h.0 new ms h.2 in (
        (h.0.options, h.1.turn, subst (λ (l : Limits). AreTurns l h.0.options (turns_in ms) new.options) h.1.same_limits r.0),
        r.1 ∙ h.1.same_limits,
      )
  has_turns old new (Changed a b ∷ ms) h = has_turns (record old { fs = b }) new ms h.1

  pub has_one_run : HasOneRun allows gives
  has_one_run old new [] h untouched =
      ap (λ (s : ServerState S). s.fs) h
  has_one_run old new (Handled t ∷ ms) h untouched =
      run-join allows gives None old.fs h.0.fs new.fs t.events (events_in (turns_in ms))
      h.1.is_run (has_one_run h.0 new ms h.2 untouched)
  has_one_run old new (Changed a b ∷ ms) h untouched = absurd untouched

  pub keeps_books : ((limits : Limits) (options after : ℕ) (turns : List Turn)
      → AreTurns limits options turns after → KeepsBooks turns) → HistoriesKeepBooks allows gives
  keeps_books keep old new ms h =
      keep old.limits old.options new.options (turns_in ms) (has_turns old new ms h).0

  pub held_counts_stay : HeldCountsStay allows gives
  held_counts_stay old new ms n held h some within =
      never_below_held n some old.limits held old.options (turns_in ms) new.options
      (has_turns old new ms h).0 within
