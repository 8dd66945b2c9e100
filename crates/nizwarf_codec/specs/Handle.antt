-- What a handle owns: what a `Slot` of its type owns.
use base.Fml.{Fml}
use base.Stored.{Coded}
use denote.RawPtr.{Ptr}
use Rattle.std.specs.Coded.{coded_option}
use Rattle.std.specs.declared.alloc.Global.{Global}
use Rattle.std.specs.declared.option.Option.{Option}
use Rattle.raw_box.specs.Held.{held}
use Rattle.nizwarf_codec.specs.contracts.memory.Memory.{the_row}

abbrev pub owned : Global → Ptr → Option the_row.Denot → Fml
owned = held the_row

abbrev pub coded : Coded (Option the_row.Denot)
coded = coded_option the_row.coded
