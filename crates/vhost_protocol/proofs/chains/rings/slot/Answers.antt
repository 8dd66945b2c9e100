use Rattle.std.proofs.Common.{◌≡◌, ◌%◌, ◌∙◌, ap}
use Rattle.std.proofs.Math.Nat.{mod-mod_of_dvd}
use Rattle.std.proofs.lemmas.Nat.Gcd.{dvd_of_mod-eq-zero}
use Rattle.vhost_protocol.proofs.chains.rings.slot.Goals as goal

pub returns-clause-counted : goal.returns-clause-counted
returns-clause-counted c count is fits =
    let e : c.from.result ≡ count % 65536 = cc in
    ap (λ m. m % c.args.size) e
    ∙ mod-mod_of_dvd c.args.size count (dvd_of_mod-eq-zero c.args.size fits)
