-- From what a handler says of one request to the step that it is.
use Rattle.std.proofs.Common.{◌≡◌, ◌≢◌, ◌∙◌, ℕ, Bool, true, false, nat_lt, if◌then◌else◌, subst, List, [], ◌∷◌, Option, None, Some, Result, Ok, Err, length, drop, refl, ap, inl, inr, ◌++◌, append-nil}
use Rattle.vfs_flags.specs.Numbers.{opcode_of}
use Rattle.vfs_wire.specs.Records.{in_header}
use Rattle.vfs_wire.specs.declared.headers.InHeader.{InHeader}
use Rattle.vfs_segments.specs.Written.{Written, held_over, Leaves}
use Rattle.vfs_files.specs.Values.{Item}
use Rattle.vfs_files.specs.Calls.{Call, Answer, Handed, Data, kind_of, read_answer}
use Rattle.vfs_files.specs.Runs.{Event, Called, IsRun}
use Rattle.vfs_files.specs.declared.entry.Context.{Context}
use Rattle.vfs_grammar.specs.Listing.{given_back, Listing}
use Rattle.vfs_grammar.specs.Records.{record_of, size_of}
use Rattle.vfs_grammar.specs.Forms.{Ask, Ends, Asks, Lists, WithMemory, refused_or}
use Rattle.vfs_grammar.specs.Words.{refused, ask_header}
use Rattle.vfs_grammar.specs.Ask.{ask}
use Rattle.vfs_grammar.specs.Memory.{header_of}
use Rattle.vfs_grammar.specs.Directories.{StopsForACause, ComesWhole, TakesFew}
use Rattle.vfs_grammar.specs.Reply.{Echo, Reply, Refusal, NoReply, Bytes, OpenAfter, reply_of}
use Rattle.vfs_grammar.specs.Room.{IsReplied, unseen}
use Rattle.vfs_messages.specs.Rooms.{Replies}
use Rattle.vfs_server.specs.Delivery.{CallsAndGivesBack}
use Rattle.vfs_grammar.specs.Turn.{Turn, IsTurn, node_answered}
use Rattle.vfs_grammar.specs.Witnesses.{Witness, IsTurnWithMemory, turn_tells, FollowsFor, follows_plainly}
use Rattle.vfs_grammar.specs.declared.limits.Limits.{Limits}
use Rattle.vfs_grammar.specs.declared.error.Error.{Error}
use Rattle.vfs_grammar.specs.declared.error.Error.TheVariants.{DecodeMessage, OutOfMemory}
use Rattle.vfs_server.specs.MemoryByPieces.{MayWantAfter}
use Rattle.vfs_server.specs.State.{ServerState}
use Rattle.vfs_server.specs.Handling.{Handles, server_tells}
use Rattle.vfs_server.specs.Step.{IsStep, ReadsDirectories, turn_over}

-- what came back through a writer, as a reader of the room's bytes sees it
pub record Came (reply : Reply) (old : Written) (outcome : Result ℕ Error) (new : Written) : Type 0 where
  pub room_after : List ℕ
  pub leaves : Leaves old room_after new
  pub says : IsReplied reply old.left outcome room_after
  pub no_hold : old.held ≡ 0 → new.held ≡ 0

stays : (old new : Written) → new ≡ old → Leaves old old.left new
stays old new e = rw e (record { kept = refl; same_length = refl; same_segments = refl })

pub came : (reply : Reply) (old new : Written) (outcome : Result ℕ Error) → Replies reply old outcome new → Came reply old outcome new
came (Refusal error) old new outcome h = record { room_after = old.left; leaves = stays old new h.1; says = (h.0, refl); no_hold = λ z. ap (λ (w : Written). w.held) h.1 ∙ z }
came NoReply old new outcome h = record { room_after = old.left; leaves = stays old new h.1; says = (h.0, refl); no_hold = λ z. ap (λ (w : Written). w.held) h.1 ∙ z }
came (Bytes reply) old new outcome h = record { room_after = h.room_after; leaves = h.leaves; says = h.says; no_hold = h.no_hold }
came (OpenAfter reply) old new outcome h = record { room_after = h.room_after; leaves = h.leaves; says = h.says; no_hold = h.no_hold }

-- the header that a request begins with, where it is whole
header_is : (short : Bool) (v h : InHeader) → (if short then Err DecodeMessage else Ok v) ≡ Ok h → h ≡ v
header_is true v h e = absurd (let a = e in cc)
header_is false v h e = cc

-- where it isn't, that is the error
pub short_error : (short : Bool) (v : InHeader) (e : Error) → (if short then Err DecodeMessage else Ok v) ≡ Err e → e ≢ OutOfMemory
short_error true v e f o = absurd (let a = f in cc)
short_error false v e f o = absurd (let a = f in cc)

-- what a turn tells, of which no memory says that
turn_says : (no_memory : Type 0) → Turn → Witness
turn_says no_memory t = record (turn_tells t) { no_memory = no_memory }

-- what follows of it, where no memory says less
follows_less : (limits : Limits) (options after : ℕ) (t : Turn) (P Q : Type 0) → (P → Q) → (a : Ask)
    → FollowsFor (turn_says P t) limits options a after → FollowsFor (turn_says Q t) limits options a after
unfolding turn_says
follows_less limits options after t P Q less (Ends reply) f = f
follows_less limits options after t P Q less (Asks echo call) f = f
follows_less limits options after t P Q less (Lists echo l) f = f
follows_less limits options after t P Q less (WithMemory rest) (inl f) = inl (follows_less limits options after t P Q less rest f)
follows_less limits options after t P Q less (WithMemory rest) (inr f) = inr (less f.0, f.1, f.2)

module _ {S I : Type 0} (allows : S → Call → Handed I → S → Type 0) (gives : I → Option Item → I → Type 0) (old : ServerState S) (request : List ℕ) (writer : Written) (outcome : Result ℕ Error) (writer_after : Written) (new : ServerState S) where
  -- a call, and what was given back after it, are a run
  ran : (call : Call) (answer : Answer) (ctx : Context) (back : Option ℕ) → CallsAndGivesBack allows call answer ctx back old.fs new.fs
      → IsRun allows gives None old.fs (Called call answer ∷ given_back ctx back) new.fs
  ran call answer ctx None h = (new.fs, h, refl)
  ran call answer ctx (Some node) h = (h.0, h.1, (new.fs, h.2, refl))

  -- what was handled without a list of events is a run with the events that the table gives
  record Followed (wanted : Type 0) (a : Ask) : Type 0 where
    events : List Event
    room_after : List ℕ
    is_run : IsRun allows gives None old.fs events new.fs
    leaves : Leaves writer room_after writer_after
    follows : FollowsFor (turn_says ((events ≡ []) × wanted) (turn_over request writer events outcome room_after)) old.limits old.options a new.options
    no_hold : writer.held ≡ 0 → writer_after.held ≡ 0

  follow : (wanted : Type 0) (a : Ask) → FollowsFor (server_tells allows gives wanted old writer outcome writer_after new) old.limits old.options a new.options → Followed wanted a
  unfolding turn_says
  follow wanted (Ends reply) h =
      let c = came reply writer writer_after outcome h.1 in
      record { events = []; room_after = c.room_after; is_run = h.0; leaves = c.leaves; follows = (refl, c.says, h.2); no_hold = c.no_hold }
  follow wanted (Asks echo call) h =
      let reply = reply_of old.limits echo new.options (kind_of call) h.0 in
      let c = came reply writer writer_after outcome h.3 in
      let back = unseen (length writer.left) reply (node_answered (kind_of call) h.0) in
      record { events = Called call h.0 ∷ given_back echo.ctx back; room_after = c.room_after; is_run = ran call h.0 echo.ctx back h.1; leaves = c.leaves; follows = (h.0, refl, h.2, c.says, h.4); no_hold = c.no_hold }
  follow wanted (Lists echo l) h =
      let c = came (reply_of old.limits echo new.options (Data l.size) (read_answer h.1 h.0)) writer writer_after outcome h.4 in
      record { events = h.2.events; room_after = c.room_after; is_run = h.2.is_run; leaves = c.leaves; follows = (h.0, h.1, h.2.is_read, h.3, c.says, h.5); no_hold = c.no_hold }
  follow wanted (WithMemory rest) (inl h) =
      let f = follow wanted rest h in
      record { events = f.events; room_after = f.room_after; is_run = f.is_run; leaves = f.leaves; follows = inl f.follows; no_hold = f.no_hold }
  follow wanted (WithMemory rest) (inr h) =
      let c = came (Refusal OutOfMemory) writer writer_after outcome h.1 in
      record { events = []; room_after = c.room_after; is_run = h.0.0; leaves = c.leaves; follows = inr ((refl, h.0.1), c.says, h.2); no_hold = c.no_hold }

  step_of : (wanted : Type 0) (a : Ask) → ask old.limits old.options (length writer.left) request ≡ a → Handles allows gives wanted a old writer outcome writer_after new → IsStep allows gives old request writer outcome writer_after new
  unfolding turn_says
  step_of wanted a e h =
      let f = follow wanted a h.0 in
      let t = turn_over request writer f.events outcome f.room_after in
      let g = follows_less old.limits old.options new.options t ((f.events ≡ []) × wanted) (f.events ≡ []) (λ p. p.0) a f.follows in
      record { events = f.events; room_after = f.room_after; is_run = f.is_run; leaves = f.leaves; turn = rw e (follows_plainly t old.limits old.options a new.options g); same_limits = h.1 }

  -- where no memory may be wanted, the request isn't refused for want of it
  enough_of : (wanted : Type 0) (a : Ask) → ask old.limits old.options (length writer.left) request ≡ a → Handles allows gives wanted a old writer outcome writer_after new
      → ((limits : Limits) (options after : ℕ) (t : Turn) → IsTurnWithMemory limits options t after → t.outcome ≢ Err OutOfMemory) → ¬ wanted → outcome ≢ Err OutOfMemory
  unfolding turn_says
  enough_of wanted a e h enough none =
      let f = follow wanted a h.0 in
      let t = turn_over request writer f.events outcome f.room_after in
      let g = follows_less old.limits old.options new.options t ((f.events ≡ []) × wanted) ⊥ (λ p. none p.1) a f.follows in
      enough old.limits old.options new.options t (rw e g)

  -- a request without a whole header
  pub step_short : (error : Error) → record_of in_header request ≡ Err error → outcome ≡ Err error → writer_after ≡ writer → new ≡ old → IsStep allows gives old request writer outcome writer_after new
  step_short error e o a n =
      step_of ⊥ (refused error) (ap (λ part. refused_or part (λ h. ask_header old.limits old.options (length writer.left) h (drop (size_of in_header) request))) e)
      ((ap (λ (s : ServerState S). s.fs) n, (o, a), ap (λ (s : ServerState S). s.options) n), ap (λ (s : ServerState S). s.limits) n)

  -- a request with a header
  pub step_of_header : (wanted : Type 0) (h : InHeader) → record_of in_header request ≡ Ok h
      → Handles allows gives wanted (ask_header old.limits old.options (length writer.left) h (drop (size_of in_header) request)) old writer outcome writer_after new
      → IsStep allows gives old request writer outcome writer_after new
  step_of_header wanted h e d =
      step_of wanted (ask_header old.limits old.options (length writer.left) h (drop (size_of in_header) request))
      (ap (λ part. refused_or part (λ k. ask_header old.limits old.options (length writer.left) k (drop (size_of in_header) request))) e) d

  -- which wants no memory
  pub enough_of_header : (h : InHeader) → record_of in_header request ≡ Ok h → (pieces : List ℕ)
      → Handles allows gives (MayWantAfter old.limits old.options (length writer.left) (opcode_of h.opcode) h pieces)
      (ask_header old.limits old.options (length writer.left) h (drop (size_of in_header) request)) old writer outcome writer_after new
      → ((limits : Limits) (options after : ℕ) (t : Turn) → IsTurnWithMemory limits options t after → t.outcome ≢ Err OutOfMemory)
      → ¬ (MayWantAfter old.limits old.options (length writer.left) (opcode_of (header_of request).opcode) (header_of request) pieces) → outcome ≢ Err OutOfMemory
  enough_of_header h e pieces d enough none =
      let W : InHeader → Type 0 = λ k. MayWantAfter old.limits old.options (length writer.left) (opcode_of k.opcode) k pieces in
      let same : h ≡ header_of request = header_is (nat_lt (length request) (size_of in_header)) (header_of request) h e in
      enough_of (W h) (ask_header old.limits old.options (length writer.left) h (drop (size_of in_header) request))
      (ap (λ part. refused_or part (λ k. ask_header old.limits old.options (length writer.left) k (drop (size_of in_header) request))) e)
      d enough (λ w. none (subst W same w))

  -- what the laws say of a turn holds of the step's
  pub read_by_step :
      ((limits : Limits) (options after : ℕ) (t : Turn) (echo : Echo) (l : Listing) → IsTurn limits options t after → ask limits options (length t.room) t.request ≡ Lists echo l → StopsForACause l echo.unique t)
      → ((limits : Limits) (options after : ℕ) (t : Turn) (echo : Echo) (l : Listing) → IsTurn limits options t after → ask limits options (length t.room) t.request ≡ Lists echo l → ComesWhole l echo.unique t)
      → ((limits : Limits) (options after : ℕ) (t : Turn) (echo : Echo) (l : Listing) → IsTurn limits options t after → ask limits options (length t.room) t.request ≡ Lists echo l → TakesFew l t)
      → IsStep allows gives old request writer outcome writer_after new → ReadsDirectories allows gives old request writer outcome writer_after new
  read_by_step stops whole few s echo l asks =
      let t = turn_over request writer s.events outcome s.room_after in
      record {
        events = s.events;
        room_after = s.room_after;
        is_run = s.is_run;
        leaves = s.leaves;
        stops = stops old.limits old.options new.options t echo l s.turn asks;
        whole = whole old.limits old.options new.options t echo l s.turn asks;
        few = few old.limits old.options new.options t echo l s.turn asks;
      }

  -- a hold that was given up changes no byte
  pub step_of_hold : IsStep allows gives old request (held_over writer 0) outcome writer_after new → IsStep allows gives old request writer outcome writer_after new
  step_of_hold s = record {
    events = s.events;
    room_after = s.room_after;
    is_run = s.is_run;
    leaves = record { kept = s.leaves.kept ∙ ap (λ (p : List ℕ). p ++ s.room_after) (append-nil writer.passed); same_length = s.leaves.same_length; same_segments = s.leaves.same_segments };
    turn = s.turn;
    same_limits = s.same_limits;
  }

  -- a writer that holds nothing still holds nothing when its request was handled
  pub no_hold : (wanted : Type 0) (a : Ask) → Handles allows gives wanted a old writer outcome writer_after new → writer.held ≡ 0 → writer_after.held ≡ 0
  no_hold wanted a h = (follow wanted a h.0).no_hold
