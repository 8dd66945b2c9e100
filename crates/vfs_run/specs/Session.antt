-- The requests of a session's lines, handled as one session.
use Rattle.std.specs.Prelude.{◌≡◌, ℕ, List, map, replicate, Option, Result}
use Rattle.vfs_files.specs.Values.{Item}
use Rattle.vfs_files.specs.Calls.{Call, Handed}
use Rattle.vfs_grammar.specs.declared.error.Error.{Error}
use Rattle.vfs_run.specs.Lines.{request}
use Rattle.vfs_run.specs.declared.line.Line.{Line}
use Rattle.vfs_segments.specs.Segments.{flat_bytes}
use Rattle.vfs_segments.specs.Unread.{Unread}
use Rattle.vfs_segments.specs.Written.{Written, unwritten}
use Rattle.vfs_server.specs.Session.{IsSession}
use Rattle.vfs_server.specs.Step.{ServerState}

-- the segments of a line's request
abbrev pub segments_asked : Line → List (List ℕ)
segments_asked line = (request line).segments

-- that many zeros
abbrev pub zeros : ℕ → List ℕ
zeros n = replicate n 0

-- a writer over the rooms of a line, with zeros in them
abbrev pub room_for : Line → Written
room_for line = unwritten (map zeros (request line).rooms)

-- The requests of lines were handled as one session: readers have their bytes, in order, and writers have
-- rooms of their lengths, with zeros in them.
pub record IsSessionOf {S I : Type 0} (allows : S → Call → Handed I → S → Type 0)
    (gives : I → Option Item → I → Type 0) (old : ServerState S) (lines : List Line)
    (new : ServerState S) : Type 0 where
  pub readers : List Unread
  pub outcomes : List (Result ℕ Error)
  pub writers : List Written
  pub bytes : map (λ r. r.left) readers ≡ map (λ line. flat_bytes (segments_asked line)) lines
  pub session : IsSession allows gives old readers (map room_for lines) outcomes writers new
