-- How running totals, few in place or many in memory, stand for what those who keep them see.
use Rattle.std.specs.Prelude.{take, vec_capacity, nat_lt, if◌then◌else◌}
use Rattle.vfs_segments.specs.Totals.{Kept}
use Rattle.vfs_segments.specs.declared.running.Running.TheInside.{Inside}

-- those in memory where the count is past four, else the first ones in place
abbrev pub kept_of : Inside → Kept
kept_of r =
    if nat_lt 4 r.count
    then (record { items = r.many.items; capacity = vec_capacity r.many })
    else (record { items = take r.count r.few; capacity = 4 })
