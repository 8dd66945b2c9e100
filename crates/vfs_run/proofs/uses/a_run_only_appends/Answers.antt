use Rattle.std.proofs.Common.{◌≡◌, ◌++◌, ◌∙◌, ℕ, List, Some, Err, length, take, ap, subst}
use Rattle.std.proofs.Math.Seq.{take-append_seam}
use Rattle.vfs_run.specs.Output.{Wrote}
use Rattle.vfs_run.specs.declared.error.RunError.{RunError}
use Rattle.vfs_run.proofs.uses.a_run_only_appends.Goals as goal

front : (old new text : List ℕ) → new ≡ old ++ text → take (length old) new ≡ old
front old new text is = ap (take (length old)) is ∙ take-append_seam old text

pub returns-in-Ok : goal.returns-in-Ok
returns-in-Ok g c =
    let wrote = c.in-Ok.ensures.wrote in
    front _ _ wrote.0 wrote.1

pub returns-in-Err : goal.returns-in-Err
returns-in-Err g c = λ number is.
    let old = c.args.output.now.items in
    let new = c.run.new.output.items in
    let wrote = subst (λ (e : RunError). Wrote (Some old) (Some new) (Err e)) is c.in-Err.ensures.wrote in
    front old new wrote.0 wrote.1
