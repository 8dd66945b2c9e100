use Rattle.std.proofs.Common.{ap, sym, ◌∙◌}
use Rattle.test_uses.proofs.clauses.wire.numbers_tell_values.Goals as goal

pub returns : goal.returns
returns g c = λ x y first second same.
    let again = c.decoding_is_the_inverse.ensures.made_of_fields in
    sym (again x first) ∙ (ap g.T.ByteValued.table.made same ∙ again y second)
