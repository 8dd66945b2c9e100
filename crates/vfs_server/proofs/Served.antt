-- A request that the server was handed, with a new room, was served by a step; and what is known
-- whatever came of it.
use Rattle.std.proofs.Common.{◌≡◌, ℕ, false, true, List, subst, sym, ap, Option, Result, Ok, Err}
use Rattle.std.specs.Result.{IsErr, IsErrAnd}
use Rattle.std.specs.declared.alloc.Global.{Global}
use Rattle.std.specs.declared.vec.Vec.{Vec}
use Rattle.vfs_segments.specs.Written.{Written}
use Rattle.vfs_files.specs.Values.{Item}
use Rattle.vfs_files.specs.Calls.{Call, Handed}
use Rattle.vfs_grammar.specs.declared.error.Error.{Error}
use Rattle.vfs_server.specs.Step.{ServerState, IsStep, ReadsDirectories}
use Rattle.vfs_server.specs.Served.{Stepped, Served, room_of}
use Rattle.vfs_server.specs.declared.transport.error.ServeError.{ServeError}
use Rattle.vfs_server.specs.declared.transport.error.ServeError.TheVariants.{OutOfMemory, Segments, Server, FileSystem}

module _ {S I : Type 0} (allows : S → Call → Handed I → S → Type 0) (gives : I → Option Item → I → Type 0) where
  pub stepped : (old : ServerState S) (left request : List ℕ) (size : ℕ) (before : Written) (told outcome : Result ℕ Error) (after : Written) (new : ServerState S)
      → left ≡ request → before ≡ room_of size → told ≡ outcome
      → IsStep allows gives old left before told after new
      → ReadsDirectories allows gives old left before told after new
      → Stepped allows gives old request size outcome after new
  stepped old left request size before told outcome after new same_request same_room same_outcome step directories = record {
    step =
        subst (λ (bytes : List ℕ). IsStep allows gives old bytes (room_of size) outcome after new) same_request
        (subst (λ (w : Written). IsStep allows gives old left w outcome after new) same_room
        (subst (λ (o : Result ℕ Error). IsStep allows gives old left before o after new) same_outcome step));
    directories =
        subst (λ (bytes : List ℕ). ReadsDirectories allows gives old bytes (room_of size) outcome after new) same_request
        (subst (λ (w : Written). ReadsDirectories allows gives old left w outcome after new) same_room
        (subst (λ (o : Result ℕ Error). ReadsDirectories allows gives old left before o after new) same_outcome directories));
  }

  -- an error of the server is passed on
  pub refused : (old : ServerState S) (request : List ℕ) (size : ℕ) (error : Error) (result : Result (Vec ℕ Global) ServeError) (after : Written) (new : ServerState S)
      → IsErr result × IsErrAnd result (λ e. e ≡ Server error)
      → Stepped allows gives old request size (Err error) after new
      → Served allows gives old request size result new
  refused old request size error (Ok reply) after new passed s = let none : false ≡ true = passed.0 in absurd cc
  refused old request size error (Err told) after new passed s =
      subst (λ (e : ServeError). Served allows gives old request size (Err e) new) (sym passed.1) (record { after = after; stepped = s })

  -- whatever comes of a request, the limits stay
  pub limits_stay : (old : ServerState S) (request : List ℕ) (size : ℕ) (result : Result (Vec ℕ Global) ServeError) (new : ServerState S)
      → Served allows gives old request size result new → new.limits ≡ old.limits
  limits_stay old request size (Ok reply) new s = s.stepped.step.same_limits
  limits_stay old request size (Err OutOfMemory) new s = ap (λ (server : ServerState S). server.limits) s
  limits_stay old request size (Err (Segments error)) new s = ap (λ (server : ServerState S). server.limits) s.1
  limits_stay old request size (Err (Server error)) new s = s.stepped.step.same_limits
  limits_stay old request size (Err (FileSystem fault)) new s = absurd s
