use Rattle.std.proofs.Common.{◌≡◌, ℕ, List, [], ◌∷◌, take, codes, Option, Result, Ok, Err, OnOk}
use Rattle.vfs_segments.specs.Memory.{with_bytes_at}
use Rattle.vfs_files.specs.Bytes.{Writes}
use Rattle.vfs_files.proofs.uses.two_of_three.Goals as goal

two_fit : (result : Result ℕ (Option ℕ)) (old left new : List ℕ) → old ≡ codes "a"
    → left ≡ codes "bcd" → Writes 4 old (take 3 left) 2 result new
    → OnOk result (new ≡ 97 ∷ 0 ∷ 98 ∷ 99 ∷ [])
unfolding with_bytes_at
two_fit (Ok n) old left new a b w = rw (a, b) at w.1
two_fit (Err fault) old left new a b w = tt

pub returns-clause-wrote : goal.returns-clause-wrote
returns-clause-wrote g c =
    two_fit _ _ _ _ c.requires.held c.requires.left c.write_bytes.ensures.2
