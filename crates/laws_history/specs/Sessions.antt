-- A session that was handed over in one call, as a history.
use Rattle.std.specs.Prelude.{ℕ, List, map, Option, Result}
use Rattle.vfs_segments.specs.Unread.{Unread}
use Rattle.vfs_segments.specs.Written.{Written}
use Rattle.vfs_files.specs.Values.{Item}
use Rattle.vfs_files.specs.Calls.{Call, Handed}
use Rattle.vfs_grammar.specs.declared.error.Error.{Error}
use Rattle.vfs_server.specs.Session.{IsSession}
use Rattle.vfs_server.specs.Step.{ServerState}
use Rattle.laws_history.specs.History.{Handled, IsHistory}

module _ {S I : Type 0}
    (allows : S → Call → Handed I → S → Type 0) (gives : I → Option Item → I → Type 0) where
  -- a session is a history of the turns that it has
  abbrev pub SessionsAreHistories : Type 0
  SessionsAreHistories =
      (old new : ServerState S) (readers : List Unread) (writers : List Written)
      (outcomes : List (Result ℕ Error)) (writers_after : List Written)
      → (s : IsSession allows gives old readers writers outcomes writers_after new)
      → IsHistory allows gives old (map Handled s.turns) new
