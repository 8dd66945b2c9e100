-- What comes of a request whose bytes come in, and of whose reply the bytes go out.
use Rattle.std.specs.Prelude.{◌≡◌, ◌≤◌, ◌^◌, ℕ, List, [], ◌∷◌, length, replicate, take, Option, Result, Ok, Err}
use Rattle.std.specs.declared.alloc.Global.{Global}
use Rattle.std.specs.declared.vec.Vec.{Vec}
use Rattle.vfs_segments.specs.Written.{Written, unwritten, whole}
use Rattle.vfs_files.specs.Values.{Item}
use Rattle.vfs_files.specs.Calls.{Call, Handed}
use Rattle.vfs_grammar.specs.declared.error.Error.{Error}
use Rattle.vfs_server.specs.Step.{ServerState, IsStep, ReadsDirectories}
use Rattle.vfs_server.specs.declared.transport.error.ServeError.{ServeError}
use Rattle.vfs_server.specs.declared.transport.error.ServeError.TheVariants.{OutOfMemory, Segments, Server, FileSystem}

-- a new writer over one room of that many bytes, which are zeros
abbrev pub room_of : (size : ℕ) → Written
room_of size = unwritten (replicate size 0 ∷ [])

module _ {S I : Type 0} (allows : S → Call → Handed I → S → Type 0)
    (gives : I → Option Item → I → Type 0) where
  -- The server made a step, as the grammar says, with a room of that many bytes; if a directory was
  -- read, it was read so.
  pub record Stepped (old : ServerState S) (request : List ℕ) (size : ℕ) (outcome : Result ℕ Error)
      (after : Written) (new : ServerState S) : Type 0 where
    pub step : IsStep allows gives old request (room_of size) outcome after new
    pub directories : ReadsDirectories allows gives old request (room_of size) outcome after new

  -- A step whose outcome is the length of a reply, and these are its bytes: the first of the room.
  pub record Replied (old : ServerState S) (request : List ℕ) (size : ℕ) (reply : List ℕ)
      (new : ServerState S) : Type 0 where
    pub len : ℕ
    pub after : Written
    pub stepped : Stepped old request size (Ok len) after new
    pub bytes : reply ≡ take len (whole after)

  -- A step that was refused with this error.
  pub record Refused (old : ServerState S) (request : List ℕ) (size : ℕ) (error : Error)
      (new : ServerState S) : Type 0 where
    pub after : Written
    pub stepped : Stepped old request size (Err error) after new

  -- What came of a request with a room of that many bytes. Without memory for the room, nothing; and
  -- one of 2^64 bytes or more there is not.
  abbrev pub Served : (old : ServerState S) → (request : List ℕ) → (size : ℕ)
      → Result (Vec ℕ Global) ServeError → (new : ServerState S) → Type 0
  Served old request size (Ok reply) new = Replied old request size reply.items new
  Served old request size (Err OutOfMemory) new = new ≡ old
  Served old request size (Err (Segments error)) new = (2 ^ 64 ≤ length request) × (new ≡ old)
  Served old request size (Err (Server error)) new = Refused old request size error new
  Served old request size (Err (FileSystem fault)) new = ⊥
