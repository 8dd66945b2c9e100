-- What memory a session takes: none for a request that wants none.
use Rattle.std.specs.Prelude.{◌≡◌, ◌≢◌, length, ℕ, List, [], ◌∷◌, Option, Result, Err}
use Rattle.vfs_segments.specs.Unread.{Unread}
use Rattle.vfs_segments.specs.Written.{Written}
use Rattle.vfs_files.specs.Values.{Item}
use Rattle.vfs_files.specs.Calls.{Call, Handed}
use Rattle.vfs_grammar.specs.Turn.{Turn}
use Rattle.vfs_grammar.specs.declared.limits.Limits.{Limits}
use Rattle.vfs_grammar.specs.declared.error.Error.{Error}
use Rattle.vfs_grammar.specs.declared.error.Error.TheVariants.{OutOfMemory}
use Rattle.vfs_server.specs.Memory.{WantsNoMemory}
use Rattle.vfs_server.specs.Session.{IsServed, IsSession}
use Rattle.vfs_server.specs.State.{ServerState}

-- A request was served by this turn, as `IsServed` says, and if it wants no memory, it was not refused
-- for want of it.
pub record IsServedSparingly (limits : Limits) (options : ℕ) (reader : Unread) (writer : Written)
    (t : Turn) (writer_after : Written) (after : ℕ) : Type 0 where
  pub served : IsServed limits options reader writer t writer_after after
  pub memory :
      WantsNoMemory limits options (length writer.left) reader → t.outcome ≢ Err OutOfMemory

-- requests were served so in order, each with the options that the one before it left, as `AreServed`
-- says
abbrev pub AreServedSparingly : Limits → (options : ℕ) → List Unread → List Written → List Turn
    → (writers_after : List Written) → (after : ℕ) → Type 0
AreServedSparingly limits options [] [] [] [] after = after ≡ options
AreServedSparingly limits options (reader ∷ readers) (writer ∷ writers) (t ∷ turns) (new ∷ news)
    after =
    (mid : ℕ)
    × IsServedSparingly limits options reader writer t new mid
    × AreServedSparingly limits mid readers writers turns news after
AreServedSparingly limits options _ _ _ _ after = ⊥

-- a session in whose turns the requests were served so
pub record IsSparing {S I : Type 0} (allows : S → Call → Handed I → S → Type 0)
    (gives : I → Option Item → I → Type 0) (old : ServerState S) (readers : List Unread)
    (writers : List Written) (outcomes : List (Result ℕ Error)) (writers_after : List Written)
    (new : ServerState S) : Type 0 where
  pub session : IsSession allows gives old readers writers outcomes writers_after new
  pub sparing :
      AreServedSparingly old.limits old.options readers writers session.turns writers_after
      new.options
