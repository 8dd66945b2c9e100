-- What a clause says of a result that was tested.
use Rattle.std.proofs.Common.{◌≡◌, Bool, false, Result, Ok, Err, is_ok, is_err, cond}

pub ok_case : {T E X : Type 0} (r : Result T E) (b : Bool) → b ≡ is_err r → b ≡ false
    → (x y z : X) → x ≡ cond (is_ok r) y z → x ≡ y
ok_case (Ok v) b is failed x y z clause = clause
ok_case (Err e) b is failed x y z clause = cc
