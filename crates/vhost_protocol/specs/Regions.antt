-- Where bytes of a guest lie in the regions that it shares.
use Rattle.std.specs.Prelude.{ℕ, Bool, List, [], ◌∷◌, ◌+◌, ◌-◌, ◌&&◌, nat_le, Option, Some, None, if◌then◌else◌}
use Rattle.vhost_protocol.specs.declared.chains.regions.Region.{Region}
use Rattle.vhost_protocol.specs.declared.chains.regions.Place.{Place}

-- whether all of the `len` bytes from this address on are the region's
abbrev pub holds : Region → (addr len : ℕ) → Bool
holds r addr len = nat_le r.address addr && nat_le (addr + len) (r.address + r.size)

-- where they are, in the first region that has all of them; the first of these regions has the number `i`
abbrev pub place_from : (i : ℕ) → List Region → (addr len : ℕ) → Option Place
place_from i [] addr len = None
place_from i (r ∷ rs) addr len =
    if holds r addr len then Some (record { region = i; offset = addr - r.address })
    else place_from (i + 1) rs addr len

-- where they are, if one region has all of them
abbrev pub place_of : List Region → (addr len : ℕ) → Option Place
place_of rs addr len = place_from 0 rs addr len
