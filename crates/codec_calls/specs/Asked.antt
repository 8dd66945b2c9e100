-- A file system that notes its call.
use Rattle.std.specs.Prelude.{◌≡◌}
use Rattle.vfs_files.specs.Calls.{Call, Handed, Plain}
use Rattle.codec_calls.specs.Shapes.{shape_over, held_back}
use Rattle.codec_calls.specs.declared.asking.Asking.{Asking}
use Rattle.codec_calls.specs.declared.asking.NoEntries.{NoEntries}

-- the call is noted in the record, which stays the caller's, and its answer is held back
abbrev pub Notes : Asking → Call → Handed NoEntries → Asking → Type 0
Notes old call handed new =
    (new.call.now ≡ shape_over old.call.now call) × (handed ≡ Plain (held_back call))
    × (new.call.ghost_name ≡ old.call.ghost_name)
