-- The file system after the server, as contracts see it. A library over another one has other
-- values here, and another `src/files.rt`.
use Rattle.std.specs.Prelude.{ℕ, ◌==◌, bit_and, List, Option, Some, if◌then◌else◌}
use Rattle.vfs_flags.specs.Numbers.{enosys}
use Rattle.vfs_files.specs.Values.{Item}
use Rattle.vfs_files.specs.Calls.{Answer, Failed, Call, Handed}
use Rattle.vfs_files.specs.Listing.{GivesFirst}
use Rattle.codec_calls.specs.declared.call.CallData.{CallData}
use Rattle.codec_calls.specs.declared.call.number.TheConstants as number
use Rattle.fs_tree.specs.Rows.{ioctl_answer, statx_answer}
use Rattle.fs_tree.specs.State as tree
use Rattle.fs_tree.specs.Tree.{TreeAllows, first_state}
use Rattle.nizwarf_tree.specs.declared.settings.Settings.{Settings}

-- its state
abbrev pub State : Type 0
State = tree.State

-- the state of a new one: a root alone, with the owner, the permissions, the limits, the flag and the time that
-- were set
abbrev pub new_state : Settings → State
new_state set =
    first_state set.uid set.gid set.mode
    (record { nodes = set.nodes; bytes = set.bytes; file = set.file }) (bit_and set.flags 1 == 1)
    (record { seconds = set.seconds; nanoseconds = set.nanoseconds })

-- what is left of a directory that is read
abbrev pub Iterator : Type 0
Iterator = List Item

-- what its calls may hand back
abbrev pub Allows : State → Call → Handed Iterator → State → Type 0
Allows = TreeAllows

-- what a directory that is read gives
abbrev pub Gives : Iterator → Option Item → Iterator → Type 0
Gives = GivesFirst

-- what it answers to a call of a row, and changes nothing
abbrev pub row_answer : State → CallData → Answer
row_answer files call =
    if call.call == number.IOCTL then ioctl_answer files call.node call.more call.size
    else if call.call == number.STATX then statx_answer files call.node
    else Failed (Some enosys)

-- one that was told the time
abbrev pub at_time : State → (seconds nanoseconds : ℕ) → State
at_time files seconds nanoseconds =
    record files { now = record { seconds = seconds; nanoseconds = nanoseconds } }
