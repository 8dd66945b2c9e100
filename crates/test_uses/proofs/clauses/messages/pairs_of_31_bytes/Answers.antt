use Rattle.std.proofs.Common.{◌≡◌, ℕ, List, Result, Ok, Err, length, refl, inl, inr}
use Rattle.std.specs.declared.alloc.Global.{Global}
use Rattle.std.specs.declared.vec.Vec.{Vec}
use Rattle.vfs_grammar.specs.Forms.{pairs_in}
use Rattle.vfs_grammar.specs.declared.error.Error.{Error}
use Rattle.vfs_grammar.specs.declared.error.Error.TheVariants.{DecodeMessage}
use Rattle.vfs_messages.specs.Parts.{GivesPairs}
use Rattle.test_uses.proofs.clauses.messages.pairs_of_31_bytes.Goals as goal

is_refused : {I : Type 0} (value : I → ℕ) (error : Error) (result : Result (Vec (I × ℕ) Global) Error)
    (pairs : Result (List (ℕ × ℕ)) Error) → pairs ≡ Err error → GivesPairs value result pairs → result ≡ Err error
is_refused value error (Ok v) pairs is given = absurd (cc (is, given))
is_refused value error (Err e) pairs is (inl refused) = cc (is, refused)
is_refused value error (Err e) pairs is (inr (whole, same, memory)) = absurd (cc (is, same))

are_cut : (left : List ℕ) → length left ≡ 31 → pairs_in 2 left ≡ Err DecodeMessage
are_cut left len = rw len refl

pub returns : goal.returns
returns c =
    is_refused _ DecodeMessage c.read_pairs.result _ (are_cut c.args.r.now.left c.requires) c.read_pairs.ensures
