-- A walk along a chain: what each descriptor makes of it.
use Rattle.std.specs.Prelude.{ℕ, ℤ, pos, List, ◌-◌, ◌/◌, ◌%◌, ◌==◌, ◌&&◌, ◌||◌, not, true, false, nat_le, nat_lt, Option, Some, None, is_some, if◌then◌else◌}
use Rattle.vhost_protocol.specs.Descriptors.{goes_on, is_writable, is_table}
use Rattle.vhost_protocol.specs.Numbers.{chain_refusal_number}
use Rattle.vhost_protocol.specs.Regions.{place_of}
use Rattle.vhost_protocol.specs.declared.chains.descriptor.Descriptor.{Descriptor}
use Rattle.vhost_protocol.specs.declared.chains.regions.Region.{Region}
use Rattle.vhost_protocol.specs.declared.chains.regions.Place.{Place}
use Rattle.vhost_protocol.specs.declared.chains.walk.Piece.{Piece}
use Rattle.vhost_protocol.specs.declared.chains.walk.Walk.{Walk}
use Rattle.vhost_protocol.specs.declared.numbers.ChainRefusal.{ChainRefusal}
use Rattle.vhost_protocol.specs.declared.numbers.ChainRefusal.TheVariants.{OutsideTable, LongerThanTable, Outside, PastEnd, ReadableAfterWritable, TooManyBytes, TableInTable, TableGoesOn, TableSize, TooManyEntries}
use Rattle.vhost_protocol.specs.declared.chains.walk.Step.{Step}
use Rattle.vhost_protocol.specs.declared.chains.walk.Step.TheVariants.{Last, More, Table, Refused}
use Rattle.vhost_protocol.specs.declared.chains.walk.TheConstants.{MOST_BYTES}

-- the bytes of a descriptor
abbrev pub entry_size : ℕ
entry_size = 16

-- a walk from the first entry of the queue's table on
abbrev pub table_walk : (size most : ℕ) → Walk
table_walk size most = record {
  at = 0;
  entries = size;
  left = size;
  most = most;
  rest = MOST_BYTES;
  indirect = false;
  writable = false;
}

-- a walk that begins with this entry of the queue's table
abbrev pub begun : (size most head : ℕ) → Option Walk
begun size most head =
    if nat_lt head size then Some (record (table_walk size most) { at = head }) else None

-- why there is no place for bytes: a region has the first one, or none has
abbrev pub unplaced : List Region → (addr : ℕ) → ChainRefusal
unplaced regions addr = if is_some (place_of regions addr 1) then PastEnd else Outside

-- the piece of a descriptor, at its place
abbrev pub piece_at : Descriptor → Place → Piece
piece_at d place = record { place = place; len = d.len; writable = is_writable d }

-- the walk after a descriptor that another one follows
abbrev pub gone_on : Walk → Descriptor → Walk
gone_on w d = record w {
  at = d.next;
  left = w.left - 1;
  rest = w.rest - d.len;
  writable = is_writable d;
}

-- a piece that has its place, and what follows it
abbrev pub at_place : Walk → Descriptor → List Region → Option Place → Step
at_place w d regions None = Refused (unplaced regions d.addr)
at_place w d regions (Some place) =
    if goes_on d then More (piece_at d place) (gone_on w d) else Last (piece_at d place)

-- the step at a descriptor of bytes
abbrev pub piece_step : Walk → Descriptor → List Region → Step
piece_step w d regions =
    if w.writable && not (is_writable d) then Refused ReadableAfterWritable
    else if nat_lt w.rest d.len then Refused TooManyBytes
    else if goes_on d && nat_le w.left 1 then Refused LongerThanTable
    else if goes_on d && nat_le w.entries d.next then Refused OutsideTable
    else at_place w d regions (place_of regions d.addr d.len)

-- the walk at the first entry of a table of a descriptor
abbrev pub entered : Walk → Descriptor → Walk
entered w d = record w {
  at = 0;
  entries = d.len / entry_size;
  left = d.len / entry_size;
  indirect = true;
}

abbrev pub at_table : Walk → Descriptor → List Region → Option Place → Step
at_table w d regions None = Refused (unplaced regions d.addr)
at_table w d regions (Some place) = Table place (entered w d)

-- the step at a descriptor of a table
abbrev pub table_step : Walk → Descriptor → List Region → Step
table_step w d regions =
    if w.indirect then Refused TableInTable
    else if goes_on d then Refused TableGoesOn
    else if d.len == 0 || not (d.len % entry_size == 0) then Refused TableSize
    else if nat_lt w.most (d.len / entry_size) then Refused TooManyEntries
    else at_table w d regions (place_of regions d.addr d.len)

-- the step at a descriptor
abbrev pub step_at : Walk → Descriptor → List Region → Step
step_at w d regions = if is_table d then table_step w d regions else piece_step w d regions

-- ---- for C

-- the number of a step
abbrev pub code_of : Step → ℤ
code_of (Last piece) = pos 0
code_of (More piece walk) = pos 1
code_of (Table place walk) = pos 2
code_of (Refused refusal) = pos (chain_refusal_number refusal)

-- the walk after a step: where none goes on it stays
abbrev pub walk_after : Step → Walk → Walk
walk_after (More piece walk) old = walk
walk_after (Table place walk) old = walk
walk_after step old = old

-- the piece of a step, of a table its place alone; of a refusal none
abbrev pub piece_after : Step → Piece → Piece
piece_after (Last piece) old = piece
piece_after (More piece walk) old = piece
piece_after (Table place walk) old = record old { place = place }
piece_after (Refused refusal) old = old
