-- What a request that `serve` was handed adds to the history of a server.
use Rattle.std.specs.Prelude.{◌≡◌, ℕ, List, [], ◌∷◌, ◌++◌, replicate, take, Option, Result, Ok, Err}
use Rattle.std.specs.declared.alloc.Global.{Global}
use Rattle.std.specs.declared.vec.Vec.{Vec}
use Rattle.vfs_files.specs.Values.{Item}
use Rattle.vfs_files.specs.Calls.{Call, Handed}
use Rattle.vfs_grammar.specs.Turn.{Turn}
use Rattle.vfs_grammar.specs.declared.error.Error.{Error}
use Rattle.vfs_server.specs.Served.{Served}
use Rattle.vfs_server.specs.Step.{ServerState}
use Rattle.vfs_server.specs.declared.transport.error.ServeError.{ServeError}
use Rattle.vfs_server.specs.declared.transport.error.ServeError.TheVariants.{OutOfMemory, Segments, Server, FileSystem}
use Rattle.laws_history.specs.History.{Moment, Handled, IsHistory}

-- the turn of a request that came as these bytes, with a room of that many zeros, and had this outcome
pub record IsTurnOf (request : List ℕ) (size : ℕ) (outcome : Result ℕ Error) (t : Turn) : Type 0 where
  pub asked : t.request ≡ request
  pub room : t.room ≡ replicate size 0
  pub came : t.outcome ≡ outcome

module _ {S I : Type 0} (allows : S → Call → Handed I → S → Type 0)
    (gives : I → Option Item → I → Type 0) (first : ServerState S) (moments : List (Moment S))
    (request : List ℕ) (size : ℕ) where
  -- a turn more, whose reply these bytes are
  pub record AddsReply (reply : List ℕ) (new : ServerState S) : Type 0 where
    pub t : Turn
    pub len : ℕ
    pub served : IsTurnOf request size (Ok len) t
    pub bytes : reply ≡ take len t.room_after
    pub history : IsHistory allows gives first (moments ++ Handled t ∷ []) new

  -- a turn more, which was refused with this error
  pub record AddsRefusal (error : Error) (new : ServerState S) : Type 0 where
    pub t : Turn
    pub served : IsTurnOf request size (Err error) t
    pub history : IsHistory allows gives first (moments ++ Handled t ∷ []) new

  -- a turn more, or, if the request was not handed on, the same history
  abbrev pub AddsServed : Result (Vec ℕ Global) ServeError → (new : ServerState S) → Type 0
  AddsServed (Ok reply) new = AddsReply reply.items new
  AddsServed (Err OutOfMemory) new = IsHistory allows gives first moments new
  AddsServed (Err (Segments error)) new = IsHistory allows gives first moments new
  AddsServed (Err (Server error)) new = AddsRefusal error new
  AddsServed (Err (FileSystem fault)) new = ⊥

-- a history goes on by each request that is served
abbrev pub GoesOnServed : {S I : Type 0} → (S → Call → Handed I → S → Type 0)
    → (I → Option Item → I → Type 0) → Type 0
GoesOnServed {S} allows gives =
    (first old new : ServerState S) (moments : List (Moment S)) (request : List ℕ) (size : ℕ)
    (result : Result (Vec ℕ Global) ServeError)
    → IsHistory allows gives first moments old
    → Served allows gives old request size result new
    → AddsServed allows gives first moments request size result new
