-- What comes of one request that goes through the simplest transport.
use Rattle.std.proofs.Common.{◌≡◌, ◌≤◌, ◌∙◌, ◌⊎◌, ℕ, true, List, length, take, nat_lt, Option, None, Result, Ok, Err, IfOk, MatchResult, Vec, ap, arith, subst, inl, inr, refl}
use Rattle.std.specs.declared.alloc.Global.{Global}
use Rattle.std.proofs.lemmas.Bool.Decides.{nat_tests}
use Rattle.vfs_segments.specs.Written.{Written, whole}
use Rattle.vfs_files.specs.Values.{Item}
use Rattle.vfs_files.specs.Answers.{Plain, Answer, Handed}
use Rattle.vfs_files.specs.Calls.{Call, default_answer}
use Rattle.vfs_grammar.specs.Ask.{ask}
use Rattle.vfs_grammar.specs.Forms.{Ask}
use Rattle.vfs_grammar.specs.Words.{refused}
use Rattle.vfs_grammar.specs.Turn.{Turn, Follows}
use Rattle.vfs_grammar.specs.declared.error.Error.{Error}
use Rattle.vfs_grammar.specs.declared.error.Error.TheVariants.{DecodeMessage}
use Rattle.vfs_grammar.specs.declared.limits.Limits.{Limits}
use Rattle.vfs_server.specs.Served.{Served, room_of}
use Rattle.vfs_server.specs.Step.{ServerState, IsStep, turn_over}
use Rattle.vfs_server.specs.declared.transport.error.ServeError.{ServeError}
use Rattle.vfs_server.specs.declared.transport.error.ServeError.TheVariants.{OutOfMemory, Segments, Server, FileSystem}
use Rattle.test_uses.proofs.Callers.{IsRun-no_events, run_is_default, same_server, turn-statfs}
use Rattle.test_uses.proofs.DirectoryCallers.{seen-readdir}
use Rattle.test_uses.specs.Requests.{statfs_reply, ReadsOneRecord}
use Rattle.test_uses.specs.declared.server.TheConstants.{READDIR, STATFS}

-- what bytes ask that are too few for a header
ask-few : (limits : Limits) (options room : ℕ) (request : List ℕ) → length request ≡ 39
    → ask limits options room request ≡ refused DecodeMessage
ask-few limits options room request few =
    let short : nat_lt (length request) 40 ≡ true = grind (arith, nat_tests) in
    rw short refl

module _ {S I : Type 0} (allows : S → Call → Handed I → S → Type 0) (gives : I → Option Item → I → Type 0) where
  -- they are refused, and nothing changes
  step-few : (old : ServerState S) (request : List ℕ) (size : ℕ) (outcome : Result ℕ Error) (after : Written) (new : ServerState S)
      → IsStep allows gives old request (room_of size) outcome after new → length request ≡ 39
      → (outcome ≡ Err DecodeMessage) × (new ≡ old)
  step-few old request size outcome after new s few =
      let t : Turn = turn_over request (room_of size) s.events outcome s.room_after in
      let P : Ask → Type 0 = λ a. Follows t old.limits old.options a new.options in
      let f = subst P (ask-few old.limits old.options (length (room_of size).left) request few) s.turn in
      (f.1.0, same_server allows gives old new (IsRun-no_events allows gives old.fs new.fs s.events s.is_run f.0) f.2 s.same_limits)

  pub served-few : (old : ServerState S) (request : List ℕ) (size : ℕ) (result : Result (Vec ℕ Global) ServeError) (new : ServerState S)
      → Served allows gives old request size result new → length request ≡ 39
      → MatchResult result (λ _. ⊥) (λ error. (error ≡ OutOfMemory) ⊎ (error ≡ Server DecodeMessage)) × (new ≡ old)
  served-few old request size (Ok reply) new s few =
      absurd (let d = (step-few old request size (Ok s.len) s.after new s.stepped.step few).0 in cc)
  served-few old request size (Err OutOfMemory) new s few = (inl refl, s)
  served-few old request size (Err (Segments error)) new s few = absurd (omega (arith, s.0, few))
  served-few old request size (Err (Server error)) new s few =
      let d = step-few old request size (Err error) s.after new s.stepped.step few in
      (inr cc, d.1)
  served-few old request size (Err (FileSystem fault)) new s few = absurd s

module _ {S I : Type 0} (allows : S → Call → Handed I → S → Type 0) (gives : I → Option Item → I → Type 0) (default : (s t : S) (c : Call) (a : Answer) → allows s c (Plain a) t → a ≡ default_answer c) where
  -- what is seen of STATFS, of a file system whose answers are the defaults, with a room of 96 bytes
  step-statfs : (old : ServerState S) (outcome : Result ℕ Error) (after : Written) (new : ServerState S)
      → IsStep allows gives old STATFS (room_of 96) outcome after new
      → (outcome ≡ Ok 96) × (whole after ≡ statfs_reply)
  step-statfs old outcome after new s =
      let t : Turn = turn_over STATFS (room_of 96) s.events outcome s.room_after in
      let seen = turn-statfs old.limits old.options t new.options s.turn refl refl (run_is_default allows gives default None old.fs new.fs s.events s.is_run) in
      (seen.outcome_is, s.leaves.kept ∙ seen.room_is)

  pub served-statfs : (old : ServerState S) (result : Result (Vec ℕ Global) ServeError) (new : ServerState S)
      → Served allows gives old STATFS 96 result new
      → MatchResult result (λ reply. reply.items ≡ statfs_reply) (λ error. error ≡ OutOfMemory)
  served-statfs old (Ok reply) new s =
      let d = step-statfs old (Ok s.len) s.after new s.stepped.step in
      let len : s.len ≡ 96 = cc (d.0) in
      s.bytes ∙ ap (λ (n : ℕ). take n (whole s.after)) len ∙ ap (take 96) d.1
  served-statfs old (Err OutOfMemory) new s = refl
  served-statfs old (Err (Segments error)) new s = absurd (omega (arith, s.0))
  served-statfs old (Err (Server error)) new s =
      absurd (let d = (step-statfs old (Err error) s.after new s.stepped.step).0 in cc)
  served-statfs old (Err (FileSystem fault)) new s = absurd s

module _ {S I : Type 0} (allows : S → Call → Handed I → S → Type 0) (gives : I → Option Item → I → Type 0) where
  -- what is seen of a READDIR of a room of 40 bytes
  pub served-readdir : (old : ServerState S) (result : Result (Vec ℕ Global) ServeError) (new : ServerState S)
      → Served allows gives old READDIR 40 result new → 24 ≤ old.limits.max_buffer
      → IfOk result (λ reply. (len : ℕ) × (room : List ℕ) × ReadsOneRecord allows gives old.fs (Ok len) room new.fs × (reply.items ≡ take len room))
  served-readdir old (Ok reply) new s limit = (
    s.len,
    whole s.after,
    seen-readdir allows gives old (room_of 40) (Ok s.len) s.after new s.stepped.directories limit refl refl,
    s.bytes,
  )
  served-readdir old (Err error) new s limit = tt
