use Rattle.std.proofs.Common.{◌≡◌, refl, rules}
use Rattle.c_rooms.specs.Codes.{no_memory}
use Rattle.nizwarf_codec.proofs.Lookup.{are_limits, entry_back, fits_lookup}
use Rattle.nizwarf_codec.proofs.uses.find.Goals as goal

pub returns : goal.returns
returns c = λ is.
    let want : c.nizwarf_encode_at.result ≡ no_memory = search rules in
    entry_back _ _ _ _ _ _ _ _ _ c.requires refl refl
    (fits_lookup _ _ _ _ _ _ _ _ _ c.requires (c.nizwarf_encode_at.ensures.answered are_limits)) want
