use Rattle.std.proofs.Common.{[], ◌∷◌}
use Rattle.test_uses.proofs.wire.pair_of_two_numbers.Goals as goal

pub returns : goal.returns
returns c = λ node count node_fits count_fits.
    let same =
    c.decoding_is_the_inverse.ensures.fields_of_made (node ∷ count ∷ []) (node_fits, (count_fits, tt)) in
    (cc (same), cc (same))
