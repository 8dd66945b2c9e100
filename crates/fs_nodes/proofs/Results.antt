-- What a clause says of a result that was tested.
use Rattle.std.proofs.Common.{◌≡◌, Bool, true, false, Result, Ok, Err, is_err, OnOk, IfErr}

pub ok_clause : {T E P : Type 0} (r : Result T E) (b : Bool) → b ≡ is_err r → b ≡ false
    → OnOk r P → P
ok_clause (Ok x) b is failed clause = clause
ok_clause (Err e) b is failed clause = cc

pub err_clause : {T E P : Type 0} (r : Result T E) (b : Bool) → b ≡ is_err r → b ≡ true
    → IfErr r (λ _. P) → P
err_clause (Ok x) b is failed clause = cc
err_clause (Err e) b is failed clause = clause
