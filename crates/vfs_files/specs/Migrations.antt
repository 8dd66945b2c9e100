-- Calls that carry the state of a file system over, what they answer, and what they write or read.
use Rattle.std.specs.Prelude.{◌≡◌, ℕ, List, Bool, Option, Result, Err, IsErr}
use Rattle.std.specs.Io.KnownBytes.{Appends, Consumes}
use Rattle.vfs_files.specs.declared.migration.MigrateError.{MigrateError}
use Rattle.vfs_files.specs.declared.migration.MigrateError.TheVariants.{Unsupported}

-- a call with its argument as a value
pub data MigrationCall : Type 0 where
  PrepareSerialization : (cancel : Bool) → MigrationCall
  Serialize : MigrationCall
  DeserializeAndApply : MigrationCall

-- what a call did with the writer or the reader that it was lent
pub data Traffic : Type 0 where
  -- nothing: it is as it was
  Untouched : Traffic
  -- it wrote or read these bytes
  Moved : (bytes : List ℕ) → Traffic
  -- it failed over it, and what was written or read before isn't said
  Broken : Traffic

-- an answer, and what was written or read
pub data MigrationAnswer : Type 0 where
  -- of a call that has nothing to answer
  Prepared : MigrationAnswer
  -- that it was done, or why it wasn't
  Migrated : (result : Result (Unit {0}) MigrateError) (traffic : Traffic) → MigrationAnswer

-- a call of this outcome did this with a writer, where the first argument gives the bytes that one
-- holds, as far as they are known
abbrev pub IsWritten : {W E : Type 0} → (W → Option (List ℕ)) → W → Result (Unit {0}) E → Traffic
    → W → Type 0
IsWritten contents old result Untouched new = new ≡ old
IsWritten contents old result (Moved bytes) new = Appends (contents old) (contents new) bytes
IsWritten contents old result Broken new = IsErr result

-- a call of this outcome did this with a reader, where the first argument gives the bytes that one
-- has left, as far as they are known
abbrev pub IsTaken : {R E : Type 0} → (R → Option (List ℕ)) → R → Result (Unit {0}) E → Traffic
    → R → Type 0
IsTaken remaining old result Untouched new = new ≡ old
IsTaken remaining old result (Moved bytes) new = Consumes (remaining old) (remaining new) bytes
IsTaken remaining old result Broken new = IsErr result

-- the answer of a call that a file system doesn't serve: there is nothing to prepare, and nothing
-- is written or read
abbrev pub default_migration : MigrationCall → MigrationAnswer
default_migration (PrepareSerialization cancel) = Prepared
default_migration Serialize = Migrated (Err Unsupported) Untouched
default_migration DeserializeAndApply = Migrated (Err Unsupported) Untouched
