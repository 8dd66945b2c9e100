use Rattle.std.proofs.Common.{◌≡◌, ℕ, List, Result, Ok, Err, IfErr, length, refl, inl, inr}
use Rattle.std.specs.declared.alloc.Global.{Global}
use Rattle.std.specs.declared.vec.Vec.{Vec}
use Rattle.vfs_grammar.specs.Forms.{pairs_in, pairs_of}
use Rattle.vfs_grammar.specs.declared.error.Error.{Error}
use Rattle.vfs_grammar.specs.declared.error.Error.TheVariants.{OutOfMemory}
use Rattle.vfs_messages.specs.Parts.{GivesPairs}
use Rattle.test_uses.proofs.clauses.messages.two_pairs.Goals as goal

is_memory : {I : Type 0} (value : I → ℕ) (result : Result (Vec (I × ℕ) Global) Error) (all : List (ℕ × ℕ))
    (pairs : Result (List (ℕ × ℕ)) Error) → pairs ≡ Ok all → GivesPairs value result pairs
    → IfErr result (λ e. e ≡ OutOfMemory)
is_memory value (Ok v) all pairs is given = tt
is_memory value (Err e) all pairs is (inl refused) = absurd (cc (is, refused))
is_memory value (Err e) all pairs is (inr (whole, same, memory)) = memory

are_there : (left : List ℕ) → length left ≡ 32 → pairs_in 2 left ≡ Ok (pairs_of 2 left)
are_there left len = rw len refl

pub returns : goal.returns
returns c =
    is_memory _ c.read_pairs.result _ _ (are_there c.args.r.now.left c.requires) c.read_pairs.ensures
