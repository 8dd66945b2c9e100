-- The program's exit status.
use Rattle.std.specs.Prelude.{ℕ, Result, Ok, Err}
use Rattle.vfs_run.specs.declared.error.RunError.{RunError}
use Rattle.vfs_run.specs.declared.error.RunError.TheVariants.{BadLine, Io, OutOfMemory}

-- 0 where every line was answered, else a number for each kind of error
abbrev pub status_of : Result (Unit {0}) RunError → ℕ
status_of (Ok done) = 0
status_of (Err (BadLine number)) = 2
status_of (Err Io) = 3
status_of (Err OutOfMemory) = 4
