-- What a handle of taken memory owns, and where in that memory a reply lies.
use base.Fml.{Fml}
use base.Stored.{Coded}
use denote.RawPtr.{Ptr}
use Rattle.std.specs.Prelude.{length, min, ◌-◌}
use Rattle.std.specs.Coded.{coded_option}
use Rattle.std.specs.declared.alloc.Global.{Global}
use Rattle.std.specs.declared.option.Option.{Option}
use Rattle.std_alloc.specs.Vec.{vec_ptr}
use Rattle.raw_box.specs.Held.{held}
use Rattle.nizwarf_tree.specs.contracts.memory.Memory.{the_row}
use Rattle.nizwarf_tree.specs.declared.instance.Instance.{Instance}
use Rattle.nizwarf_tree.specs.declared.memory.Place.{Place}

abbrev pub owned : Global → Ptr → Option the_row.Denot → Fml
owned = held the_row

abbrev pub coded : Coded (Option the_row.Denot)
coded = coded_option the_row.coded

-- where the bytes lie that are there to be copied out of a server
abbrev pub place_of : Instance → Place
place_of s = record {
  at = vec_ptr s.room;
  start = s.start;
  len = min s.shown (length s.room.items - s.start);
}
