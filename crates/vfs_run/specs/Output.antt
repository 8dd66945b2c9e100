-- What a run says of its output.
use Rattle.std.specs.Prelude.{ℕ, List, Option, Result, Ok, Err}
use Rattle.std.specs.Io.KnownBytes.{Appends}
use Rattle.vfs_run.specs.declared.error.RunError.{RunError}
use Rattle.vfs_run.specs.declared.error.RunError.TheVariants.{BadLine, Io, OutOfMemory}

-- a run that ended with its lines, well or at a bad one, has appended a text whole
abbrev pub Wrote : (old new : Option (List ℕ)) → Result (Unit {0}) RunError → Type 0
Wrote old new (Ok done) = (text : List ℕ) × Appends old new text
Wrote old new (Err (BadLine number)) = (text : List ℕ) × Appends old new text
Wrote old new (Err Io) = Unit {0}
Wrote old new (Err OutOfMemory) = Unit {0}
