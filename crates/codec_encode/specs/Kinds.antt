-- Which kind of answer a call has, by the numbers that tell it.
use Rattle.std.specs.Prelude.{ℕ, ◌==◌, if◌then◌else◌, Option, Some, None}
use Rattle.vfs_files.specs.Calls.{Kind, Quiet, Told, Untold, Data, Agreements, Entries, TimedAttributes, Openings, Creations, Capacities, Texts, TextsOrCounts, Offsets, Writes, Iterators, Faults}
use Rattle.codec_calls.specs.declared.call.kind.TheConstants as kind

-- the kind of this number, of a READ of this size: none of another number
abbrev pub kind_told : (n size : ℕ) → Option Kind
kind_told n size =
    if n == kind.NONE then Some Quiet
    else if n == kind.STATUS then Some Told
    else if n == kind.ERROR_OR_NONE then Some Untold
    else if n == kind.DATA then Some (Data size)
    else if n == kind.INIT then Some Agreements
    else if n == kind.ENTRY then Some Entries
    else if n == kind.ATTR then Some TimedAttributes
    else if n == kind.OPEN then Some Openings
    else if n == kind.CREATE then Some Creations
    else if n == kind.STATFS then Some Capacities
    else if n == kind.BYTES then Some Texts
    else if n == kind.BYTES_OR_SIZE then Some TextsOrCounts
    else if n == kind.OFFSET then Some Offsets
    else if n == kind.COUNT then Some Writes
    else if n == kind.DIRECTORY then Some Iterators
    else if n == kind.ERROR then Some Faults
    else None
