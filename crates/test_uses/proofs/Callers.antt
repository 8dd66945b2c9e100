-- What a step says of one request that is written out.
use Rattle.std.proofs.Common.{◌≡◌, ◌≤◌, ℕ, Bool, false, true, List, [], ◌∷◌, ◌++◌, length, drop, nat_lt, Option, Some, None, Result, Ok, Err, ap, ◌∙◌, arith, subst, refl, append-nil, inl, inr}
use Rattle.std.proofs.lemmas.Bool.Decides.{nat_tests}
use Rattle.std.proofs.lemmas.List.{drop_all}
use Rattle.vfs_flags.specs.Numbers.{enomem, enosys, opcode_of}
use Rattle.vfs_wire.specs.Fields.{little, number, value_of}
use Rattle.vfs_wire.specs.Records.{in_header}
use Rattle.vfs_flags.specs.declared.opcode.Opcode.{Opcode}
use Rattle.vfs_wire.specs.declared.headers.InHeader.{InHeader}
use Rattle.vfs_segments.specs.Unread.{Unread}
use Rattle.vfs_segments.specs.Written.{Written, whole}
use Rattle.vfs_files.specs.Values.{Item, context_of}
use Rattle.vfs_files.specs.Answers.{Answer, Handed, Plain, Capacities}
use Rattle.vfs_files.specs.Calls.{Call, Statfs, default_answer}
use Rattle.vfs_files.specs.Runs.{Event, Called, OpenedDirectory, Taken, IsRun}
use Rattle.vfs_grammar.specs.Ask.{ask}
use Rattle.vfs_grammar.specs.Forms.{Ask, Asks, within, faulted}
use Rattle.vfs_grammar.specs.Words.{refused}
use Rattle.vfs_grammar.specs.Limits.{max_len}
use Rattle.vfs_grammar.specs.Reply.{Echo, echo_of, fault_reply, reply_of}
use Rattle.vfs_grammar.specs.Room.{IsReplied, IsPut}
use Rattle.vfs_grammar.specs.Turn.{Turn, Follows, IsTurn}
use Rattle.vfs_grammar.specs.Samples.{not_served_reply}
use Rattle.vfs_grammar.specs.declared.limits.Limits.{Limits}
use Rattle.vfs_grammar.specs.declared.error.Error.{Error}
use Rattle.vfs_grammar.specs.declared.error.Error.TheVariants.{EncodeMessage}
use Rattle.vfs_grammar.proofs.Rooms.{length-fault_reply, put_outcome-fits, put_room-fits}
use Rattle.vfs_server.specs.Step.{ServerState, IsStep, turn_over}
use Rattle.vfs_server.specs.Memory.{WantsNoneAfter}
use Rattle.test_uses.specs.Requests.{statfs_reply, no_memory_reply, IsWithoutTail}
use Rattle.test_uses.specs.declared.server.TheConstants.{LONG_STATFS, READ, STATFS, UNKNOWN}

-- each call of these events has its default answer
abbrev pub AreDefault : List Event → Type 0
AreDefault [] = Unit {0}
AreDefault (Called call answer ∷ events) = (answer ≡ default_answer call) × AreDefault events
AreDefault (OpenedDirectory call ∷ events) = AreDefault events
AreDefault (Taken item ∷ events) = AreDefault events

-- what is seen of a turn whose reply takes all of its room
pub record Seen (t : Turn) (size : ℕ) (reply : List ℕ) (left after : ℕ) : Type 0 where
  pub outcome_is : t.outcome ≡ Ok size
  pub room_is : t.room_after ≡ reply
  pub options : after ≡ left

pub seen_put : (t : Turn) (size : ℕ) (reply : List ℕ) (options after : ℕ) → IsPut reply t.room t.outcome t.room_after → length t.room ≡ size → length reply ≡ size → after ≡ options
    → Seen t size reply options after
seen_put t size reply options after p room full o =
    let fits : length reply ≤ length t.room = omega (arith, room, full) in
    let none : drop (length reply) t.room ≡ [] = drop_all (length reply) t.room (omega (arith, room, full)) in
    record {
      outcome_is = rw full at (p.says ∙ put_outcome-fits reply t.room fits);
      room_is = p.leaves ∙ (put_room-fits reply t.room fits ∙ (ap (λ (l : List ℕ). reply ++ l) none ∙ append-nil reply));
      options = o;
    }

-- a `len` of 40 is within every limit
len_40_is_within : (limits : Limits) → nat_lt (max_len limits) 40 ≡ false
len_40_is_within limits = grind (arith, nat_tests)

-- what the request asks
ask-unknown : (limits : Limits) (options room : ℕ) → ask limits options room UNKNOWN ≡ faulted enosys (value_of in_header UNKNOWN)
unfolding number opcode_of
ask-unknown limits options room =
    ap (λ (above : Bool). within above (value_of in_header UNKNOWN) (faulted enosys (value_of in_header UNKNOWN))) (len_40_is_within limits)

ask-long : (limits : Limits) (options room : ℕ) → limits.max_buffer ≡ 8192 → ask limits options room LONG_STATFS ≡ faulted enomem (value_of in_header LONG_STATFS)
unfolding number opcode_of
ask-long limits options room small =
    let above : nat_lt (max_len limits) 12289 ≡ true = grind (arith, nat_tests) in
    ap (λ (is_above : Bool). within is_above (value_of in_header LONG_STATFS) (Asks (echo_of (value_of in_header LONG_STATFS)) (Statfs (context_of (value_of in_header LONG_STATFS)) 1))) above

module _ {S I : Type 0} (allows : S → Call → Handed I → S → Type 0) (gives : I → Option Item → I → Type 0) where
  -- a run without events leaves the state as it was
  pub IsRun-no_events : (old new : S) (events : List Event) → IsRun allows gives None old events new → events ≡ [] → new ≡ old
  IsRun-no_events old new events r e = subst (λ (es : List Event). IsRun allows gives None old es new) e r

  -- a server is as it was, where each of its three parts is
  pub same_server : (old new : ServerState S) → new.fs ≡ old.fs → new.options ≡ old.options → new.limits ≡ old.limits → new ≡ old
  same_server old new f o l =
      ap (λ (s : S). let server : ServerState S = record { options = new.options; limits = new.limits; fs = s } in server) f
      ∙ ap (λ (n : ℕ). let server : ServerState S = record { options = n; limits = new.limits; fs = old.fs } in server) o
      ∙ ap (λ (k : Limits). let server : ServerState S = record { options = old.options; limits = k; fs = old.fs } in server) l

  -- what is seen of a request that this reply of sixteen bytes ends
  pub record Ended (reply : List ℕ) (old : ServerState S) (writer : Written) (outcome : Result ℕ Error) (writer_after : Written) (new : ServerState S) : Type 0 where
    pub outcome_is : outcome ≡ Ok 16
    pub bytes : whole writer_after ≡ writer.passed ++ (reply ++ drop 16 writer.left)
    pub state : new ≡ old

  -- a request that a fault ends, whatever its bytes
  pub step-fault : (request : List ℕ) (number : ℕ) (h : InHeader) (old : ServerState S) (writer : Written) (outcome : Result ℕ Error) (writer_after : Written) (new : ServerState S)
      → ask old.limits old.options (length writer.left) request ≡ faulted number h → IsStep allows gives old request writer outcome writer_after new → 16 ≤ length writer.left
      → Ended (fault_reply (Some number) h.unique) old writer outcome writer_after new
  step-fault request number h old writer outcome writer_after new asks s room =
      let t : Turn = record { request = request; room = writer.left; events = s.events; outcome = outcome; room_after = s.room_after } in
      let P : Ask → Type 0 = λ a. Follows t old.limits old.options a new.options in
      let f = subst P asks s.turn in
      let reply : List ℕ = fault_reply (Some number) h.unique in
      let size : length reply ≡ 16 = length-fault_reply (Some number) h.unique in
      let fits : length reply ≤ length writer.left = omega (arith, size, room) in
      let following : drop (length reply) writer.left ≡ drop 16 writer.left = ap (λ (n : ℕ). drop n writer.left) size in
      record {
        outcome_is = f.1.says ∙ put_outcome-fits reply writer.left fits ∙ ap (λ (n : ℕ). Ok n) size;
        bytes =
            s.leaves.kept
            ∙ ap (λ (l : List ℕ). writer.passed ++ l) (f.1.leaves ∙ put_room-fits reply writer.left fits ∙ ap (λ (l : List ℕ). reply ++ l) following);
        state = same_server old new (IsRun-no_events old.fs new.fs s.events s.is_run f.0) f.2 s.same_limits;
      }

  pub step-unknown : (old : ServerState S) (writer : Written) (outcome : Result ℕ Error) (writer_after : Written) (new : ServerState S) → IsStep allows gives old UNKNOWN writer outcome writer_after new → 16 ≤ length writer.left
      → Ended not_served_reply old writer outcome writer_after new
  unfolding little number
  step-unknown old writer outcome writer_after new s room =
      step-fault UNKNOWN enosys (value_of in_header UNKNOWN) old writer outcome writer_after new (ask-unknown old.limits old.options (length writer.left)) s room

  pub step-long : (old : ServerState S) (writer : Written) (outcome : Result ℕ Error) (writer_after : Written) (new : ServerState S) → IsStep allows gives old LONG_STATFS writer outcome writer_after new → old.limits.max_buffer ≡ 8192 → 16 ≤ length writer.left
      → Ended no_memory_reply old writer outcome writer_after new
  unfolding little number
  step-long old writer outcome writer_after new s small room =
      step-fault LONG_STATFS enomem (value_of in_header LONG_STATFS) old writer outcome writer_after new (ask-long old.limits old.options (length writer.left) small) s room

-- what the request asks
ask-read : (limits : Limits) (options : ℕ) → ask limits options 8 READ ≡ refused EncodeMessage
unfolding number opcode_of
ask-read limits options =
    let in_limit : nat_lt (max_len limits) 80 ≡ false = grind (arith, nat_tests) in
    ap (λ (above : Bool). within above (value_of in_header READ) (refused EncodeMessage)) in_limit

module _ {S I : Type 0} (allows : S → Call → Handed I → S → Type 0) (gives : I → Option Item → I → Type 0) where
  -- what is seen of READ with a room that is too small for a header
  pub record Refused (old : ServerState S) (writer : Written) (outcome : Result ℕ Error) (writer_after : Written) (new : ServerState S) : Type 0 where
    pub outcome_is : outcome ≡ Err EncodeMessage
    pub bytes : whole writer_after ≡ whole writer
    pub state : new.fs ≡ old.fs

  pub step-read : (old : ServerState S) (writer : Written) (outcome : Result ℕ Error) (writer_after : Written) (new : ServerState S) → IsStep allows gives old READ writer outcome writer_after new → length writer.left ≡ 8
      → Refused old writer outcome writer_after new
  unfolding number
  step-read old writer outcome writer_after new s room =
      let t : Turn = record { request = READ; room = writer.left; events = s.events; outcome = outcome; room_after = s.room_after } in
      let P : Ask → Type 0 = λ a. Follows t old.limits old.options a new.options in
      let asks : ask old.limits old.options (length writer.left) READ ≡ refused EncodeMessage =
      ap (λ (n : ℕ). ask old.limits old.options n READ) room ∙ ask-read old.limits old.options in
      let f = subst P asks s.turn in
      record {
        outcome_is = f.1.0;
        bytes = s.leaves.kept ∙ ap (λ (l : List ℕ). writer.passed ++ l) f.1.1;
        state = IsRun-no_events allows gives old.fs new.fs s.events s.is_run f.0;
      }

-- what the request asks
ask-statfs : (limits : Limits) (options room : ℕ) → ask limits options room STATFS ≡ Asks (echo_of (value_of in_header STATFS)) (Statfs (context_of (value_of in_header STATFS)) 1)
unfolding number opcode_of
ask-statfs limits options room =
    ap (λ (above : Bool). within above (value_of in_header STATFS) (Asks (echo_of (value_of in_header STATFS)) (Statfs (context_of (value_of in_header STATFS)) 1)))
    (len_40_is_within limits)

pub turn-statfs : (limits : Limits) (options : ℕ) (t : Turn) (after : ℕ) → IsTurn limits options t after → t.request ≡ STATFS → length t.room ≡ 96 → AreDefault t.events
    → Seen t 96 statfs_reply options after
unfolding little number
turn-statfs limits options t after s request room default =
    let echo : Echo = echo_of (value_of in_header STATFS) in
    let call : Call = Statfs (context_of (value_of in_header STATFS)) 1 in
    let P : Ask → Type 0 = λ a. Follows t limits options a after in
    let asks : ask limits options (length t.room) t.request ≡ Asks echo call =
    ap (λ (b : List ℕ). ask limits options (length t.room) b) request ∙ ask-statfs limits options (length t.room) in
    let f = subst P asks s in
    let answer : f.0 ≡ default_answer call = (subst AreDefault f.1 default).0 in
    let Q : Answer → Type 0 = λ a. IsReplied (reply_of limits echo after Capacities a) t.room t.outcome t.room_after in
    seen_put t 96 statfs_reply options after (subst Q answer f.3) room refl f.4

module _ {S I : Type 0} (allows : S → Call → Handed I → S → Type 0) (gives : I → Option Item → I → Type 0) (default : (s t : S) (c : Call) (a : Answer) → allows s c (Plain a) t → a ≡ default_answer c) where
  -- each call of a run has its default answer
  pub run_is_default : (it : Option I) (old new : S) (events : List Event) → IsRun allows gives it old events new → AreDefault events
  run_is_default it old new [] r = tt
  run_is_default it old new (Called c a ∷ es) r = (default old r.0 c a r.1, run_is_default it r.0 new es r.2)
  run_is_default it old new (OpenedDirectory c ∷ es) r = run_is_default (Some r.1) r.0 new es r.3
  run_is_default it old new (Taken item ∷ es) r = run_is_default (Some r.1) old new es r.4

  -- what is seen of STATFS, of a file system whose answers are the defaults, in a room of 96 bytes
  pub step-statfs : (old : ServerState S) (writer : Written) (outcome : Result ℕ Error) (writer_after : Written) (new : ServerState S) → IsStep allows gives old STATFS writer outcome writer_after new → writer.passed ≡ [] → length writer.left ≡ 96
      → whole writer_after ≡ statfs_reply
  step-statfs old writer outcome writer_after new s passed room =
      let t : Turn = turn_over STATFS writer s.events outcome s.room_after in
      let seen = turn-statfs old.limits old.options t new.options s.turn refl room (run_is_default None old.fs new.fs s.events s.is_run) in
      s.leaves.kept ∙ (ap (λ (l : List ℕ). l ++ s.room_after) passed ∙ seen.room_is)

-- a request without a tail and without pairs wants no memory
pub without_tail : (limits : Limits) (options room : ℕ) (opcode : Option Opcode) (h : InHeader) (u : Unread) → IsWithoutTail opcode → WantsNoneAfter limits options room opcode h u
without_tail limits options room opcode h u (inl e) = rw e tt
without_tail limits options room opcode h u (inr (inl e)) = rw e tt
without_tail limits options room opcode h u (inr (inr (inl e))) = rw e tt
without_tail limits options room opcode h u (inr (inr (inr (inl e)))) = rw e tt
without_tail limits options room opcode h u (inr (inr (inr (inr (inl e))))) = rw e tt
without_tail limits options room opcode h u (inr (inr (inr (inr (inr (inl e)))))) = rw e tt
without_tail limits options room opcode h u (inr (inr (inr (inr (inr (inr (inl e))))))) = rw e tt
without_tail limits options room opcode h u (inr (inr (inr (inr (inr (inr (inr e))))))) = rw e tt
