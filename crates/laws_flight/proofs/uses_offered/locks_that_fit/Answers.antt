use Rattle.std.proofs.Common.{◌≡◌, ◌==◌, ℕ, true, List, length, arith}
use Rattle.std.proofs.lemmas.Bool.Decides.{nat_tests}
use Rattle.vfs_files.specs.Calls.{Text, Texts}
use Rattle.codec_encode.specs.Fitting.{IsFit}
use Rattle.codec_encode.specs.Uses.{getlk_asked}
use Rattle.laws_flight.proofs.uses_offered.locks_that_fit.Goals as goal

of_lock : (options room : ℕ) (bytes : List ℕ) → IsFit (getlk_asked options room) Texts (Text bytes)
    → length bytes ≡ 24
of_lock options room bytes h =
    let long : (length bytes == 24) ≡ true = h in
    grind (arith, nat_tests, long)

pub returns : goal.returns
returns c = of_lock
