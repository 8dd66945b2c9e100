use Rattle.std.proofs.Common.{◌≡◌, refl, rules}
use Rattle.c_rooms.specs.Codes.{ok, no_memory}
use Rattle.nizwarf_codec.proofs.Lookup.{are_limits, fits_lookup, refused}
use Rattle.nizwarf_codec.proofs.uses.refuse_lookup.Goals as goal

pub returns-clause-bytes : goal.returns-clause-bytes
returns-clause-bytes c = λ is.
    let fine : c.nizwarf_encode_at.result ≡ ok = search rules in
    (refused _ _ _ _ _ _ _ _ c.requires refl (fits_lookup _ _ _ _ _ _ _ _ _ c.requires (c.nizwarf_encode_at.ensures.answered are_limits)) fine).0

pub returns-clause-length : goal.returns-clause-length
returns-clause-length c = λ is.
    let fine : c.nizwarf_encode_at.result ≡ ok = search rules in
    (refused _ _ _ _ _ _ _ _ c.requires refl (fits_lookup _ _ _ _ _ _ _ _ _ c.requires (c.nizwarf_encode_at.ensures.answered are_limits)) fine).1

pub returns-clause-none_back : goal.returns-clause-none_back
returns-clause-none_back c = λ is.
    let fine : c.nizwarf_encode_at.result ≡ ok = search rules in
    (refused _ _ _ _ _ _ _ _ c.requires refl (fits_lookup _ _ _ _ _ _ _ _ _ c.requires (c.nizwarf_encode_at.ensures.answered are_limits)) fine).2

pub returns-clause-memory : goal.returns-clause-memory
returns-clause-memory c = λ has code.
    let want : c.nizwarf_encode_at.result ≡ no_memory = search (rules, code) in
    c.nizwarf_encode_at.ensures.memory has want
