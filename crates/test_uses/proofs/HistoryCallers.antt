-- What comes of a LOOKUP of a file in memory and of a FORGET, each in a step of its own, and of both as
-- a history.
use Rattle.std.proofs.Common.{◌≡◌, ◌≢◌, ◌≤◌, ◌∙◌, ◌/◌, ◌%◌, ◌==◌, ℕ, zero, suc, Bool, false, true, List, [], ◌∷◌, ◌++◌, length, take, drop, codes, nat_lt, nat_le, Option, Some, None, Result, Ok, Err, ap, arith, subst, sym, refl}
use Rattle.std.specs.declared.time.Duration.{Duration}
use Rattle.std.proofs.lemmas.Bool.Decides.{nat_tests}
use Rattle.std.proofs.lemmas.List.{take_all}
use Rattle.std.proofs.lemmas.List.Sums.{sum_by-cons}
use Rattle.vfs_flags.specs.Numbers.{opcode_of}
use Rattle.vfs_wire.specs.Fields.{little, number, bytes_of, value_of}
use Rattle.vfs_wire.specs.Records.{in_header, entry_out}
use Rattle.vfs_wire.specs.declared.entries.EntryOut.{EntryOut}
use Rattle.vfs_segments.specs.Unread.{Unread}
use Rattle.vfs_segments.specs.Written.{Written, whole}
use Rattle.vfs_files.specs.Answers.{Answer, Done, Failed, Options, Found, Attributes, Put, Opened, Created, Statistics, Text, Count, Offset, Wrote, Plain, Entries}
use Rattle.vfs_files.specs.Calls.{Call, Lookup, Forget}
use Rattle.vfs_files.specs.Values.{context_of, entry_out_of, whole_seconds, nanoseconds_beyond}
use Rattle.vfs_files.specs.Listing.{GivesFirst}
use Rattle.vfs_files.specs.Runs.{Event, Called, IsRun}
use Rattle.vfs_files.specs.declared.entry.Entry.{Entry}
use Rattle.vfs_grammar.specs.Ask.{ask}
use Rattle.vfs_grammar.specs.Books.{opcode_in, answered, sent, accepted, accepted_by, forgotten, delivered, delivered_by, times, KeepsBooks}
use Rattle.vfs_grammar.specs.Words.{GivesBackWithin, counted}
use Rattle.vfs_grammar.specs.Forms.{Ask, Asks, WithMemory, within}
use Rattle.vfs_grammar.specs.Limits.{max_len}
use Rattle.vfs_grammar.specs.Listing.{given_back}
use Rattle.vfs_grammar.specs.Reply.{Echo, Reply, Bytes, echo_of, body_reply, reply_of}
use Rattle.vfs_grammar.specs.Room.{IsReplied, IsPut, unseen}
use Rattle.vfs_grammar.specs.Samples.{lookup_of_a}
use Rattle.vfs_grammar.specs.Turn.{Turn, Follows, node_answered, events_in}
use Rattle.vfs_grammar.specs.declared.limits.Limits.{Limits}
use Rattle.vfs_grammar.specs.declared.error.Error.{Error}
use Rattle.vfs_grammar.specs.declared.error.Error.TheVariants.{OutOfMemory}
use Rattle.vfs_grammar.proofs.Keeping.{never_below_over}
use Rattle.vfs_grammar.proofs.Rooms.{put_outcome-fits, put_room-fits}
use Rattle.vfs_server.specs.Memory.{WantsNoMemory}
use Rattle.vfs_server.specs.Step.{ServerState, IsStep, turn_over}
use Rattle.laws_history.specs.Calls.{IsSeen}
use Rattle.laws_history.specs.History.{Handled, turn_of, IsHistory, GoesOnHandled, HistoriesKeepBooks}
use Rattle.fs_small.specs.MemFs.{Stored, Stock, MemFsAllows, AnswersEntry, IsEntryOf, file_attr}
use Rattle.fs_small.specs.Makers.{IsSecond}
use Rattle.test_uses.proofs.Callers.{IsRun-no_events}
use Rattle.test_uses.proofs.SessionCallers.{the_first}
use Rattle.test_uses.specs.Files.{one_file}
use Rattle.test_uses.specs.History.{file_reply, forget_of_2, LooksUpAndForgets}
use Rattle.test_uses.specs.declared.history.TheConstants.{LOOKUP, FORGET}

-- ---- what both ask

abbrev the_lookup : Call
the_lookup = Lookup (context_of (value_of in_header LOOKUP)) 1 (codes "a")

abbrev the_forget : Call
the_forget = Forget (context_of (value_of in_header FORGET)) 2 1

abbrev lookup_echo : Echo
lookup_echo = echo_of (value_of in_header LOOKUP)

abbrev forget_echo : Echo
forget_echo = echo_of (value_of in_header FORGET)

ask-lookup : (limits : Limits) (options room : ℕ)
    → ask limits options room LOOKUP ≡ WithMemory (Asks lookup_echo the_lookup)
unfolding number opcode_of
ask-lookup limits options room =
    let in_limit : nat_lt (max_len limits) 42 ≡ false = grind (arith, nat_tests) in
    ap
    (λ (above : Bool).
    within above (value_of in_header LOOKUP) (WithMemory (Asks lookup_echo the_lookup)))
    in_limit

ask-forget : (limits : Limits) (options room : ℕ)
    → ask limits options room FORGET ≡ Asks forget_echo the_forget
unfolding number opcode_of
ask-forget limits options room =
    let in_limit : nat_lt (max_len limits) 48 ≡ false = grind (arith, nat_tests) in
    ap
    (λ (above : Bool). within above (value_of in_header FORGET) (Asks forget_echo the_forget))
    in_limit

-- the LOOKUP wants no memory, where it lies in one segment
pub lookup_wants_none : (limits : Limits) (options room : ℕ) (u : Unread)
    → u.left ≡ LOOKUP → u.pieces ≡ 42 ∷ [] → WantsNoMemory limits options room u
unfolding number opcode_of
lookup_wants_none limits options room u left pieces =
    let over : List ℕ → List ℕ → Unread = λ bytes lengths.
    record { left = bytes; taken = u.taken; pieces = lengths } in
    let is : u ≡ over LOOKUP (42 ∷ []) =
    ap (λ (bytes : List ℕ). over bytes u.pieces) left
    ∙ ap (λ (lengths : List ℕ). over LOOKUP lengths) pieces in
    let none : WantsNoMemory limits options room (over LOOKUP (42 ∷ [])) = refl in
    subst (λ (u : Unread). WantsNoMemory limits options room u) (sym is) none

-- ---- what the files answer

abbrev file : Stored
file = record { node = 2; name = codes "a"; contents = codes "hello" }

-- its entry, for sure
record IsFound (answer : Answer) : Type 0 where
  entry : Entry
  answer_is : answer ≡ Found entry
  of_file : IsEntryOf file entry

found : (answer : Answer) → AnswersEntry (Some file) answer → IsFound answer
found Done a = absurd a
found (Failed fault) a = absurd a
found (Options want) a = absurd a
found (Found entry) a = record { entry = entry; answer_is = refl; of_file = a }
found (Attributes attributes timeout) a = absurd a
found (Put bytes) a = absurd a
found (Opened handle options) a = absurd a
found (Created entry handle options) a = absurd a
found (Statistics statistics) a = absurd a
found (Text bytes) a = absurd a
found (Count n) a = absurd a
found (Offset offset) a = absurd a
found (Wrote count) a = absurd a

-- the record of an entry, and the reply
abbrev out : EntryOut
out = record {
  nodeid = 2;
  generation = 0;
  entry_valid = 1;
  attr_valid = 1;
  entry_valid_nsec = 0;
  attr_valid_nsec = 0;
  attr = file_attr file;
}

seconds : (time : Duration) → IsSecond time → whole_seconds time ≡ 1
seconds time is = ap (λ (n : ℕ). n / 1_000_000_000) is

nanoseconds : (time : Duration) → IsSecond time → nanoseconds_beyond time ≡ 0
nanoseconds time is = ap (λ (n : ℕ). n % 1_000_000_000) is

out_is : (entry : Entry) → IsEntryOf file entry → entry_out_of entry ≡ out
out_is entry i =
    let entry_valid = seconds entry.entry_timeout i.entry_timeout in
    let attr_valid = seconds entry.attr_timeout i.attr_timeout in
    let entry_nsec = nanoseconds entry.entry_timeout i.entry_timeout in
    let attr_nsec = nanoseconds entry.attr_timeout i.attr_timeout in
    cc (entry_valid, attr_valid, entry_nsec, attr_nsec, i.inode, i.generation, i.attr_is)

abbrev reply_with : EntryOut → List ℕ
reply_with record_of_it = body_reply (bytes_of entry_out record_of_it) 9

reply_is : reply_with out ≡ file_reply
unfolding little
reply_is = refl

-- a reply that fits gives back nothing
not_unseen : (space : ℕ) (reply : List ℕ) (node : ℕ)
    → reply ≡ file_reply → node ≡ 2 → 144 ≤ space → unseen space (Bytes reply) (counted node) ≡ None
not_unseen space reply node is two room =
    let fits : nat_le 144 space ≡ true = grind (arith, nat_tests) in
    rw (is, two, fits) refl

-- ---- a step of each

abbrev files : Stock
files = one_file (codes "hello")

abbrev IsFileStep : (old : ServerState Stock) (request : List ℕ) (writer : Written)
    (outcome : Result ℕ Error) (after : Written) (new : ServerState Stock) → Type 0
IsFileStep = IsStep MemFsAllows GivesFirst

module _ (old new : ServerState Stock) (writer after : Written) (outcome : Result ℕ Error) where
  -- what is seen of the LOOKUP
  record LookedUp (t : Turn) : Type 0 where
    entry : Entry
    node : entry.inode ≡ 2
    outcome_is : outcome ≡ Ok 144
    room_is : t.room_after ≡ file_reply ++ drop 144 writer.left
    bytes : whole after ≡ writer.passed ++ (file_reply ++ drop 144 writer.left)
    events_are : t.events ≡ Called the_lookup (Found entry) ∷ []
    same : new.fs ≡ old.fs

  step-lookup : (s : IsFileStep old LOOKUP writer outcome after new)
      → old.fs ≡ files → 144 ≤ length writer.left → outcome ≢ Err OutOfMemory
      → LookedUp (turn_over LOOKUP writer s.events outcome s.room_after)
  unfolding number
  step-lookup s is room enough =
      let t : Turn = turn_over LOOKUP writer s.events outcome s.room_after in
      let P : Ask → Type 0 = λ a. Follows t old.limits old.options a new.options in
      let asks = ask-lookup old.limits old.options (length writer.left) in
      let f = the_first (subst P asks s.turn) (λ q. enough q.1.0) in
      let reply : Answer → Reply = reply_of old.limits lookup_echo new.options Entries in
      let back : Answer → List Event = λ a.
      given_back lookup_echo.ctx (unseen (length writer.left) (reply a) (node_answered Entries a)) in
      let run : IsRun MemFsAllows GivesFirst None old.fs (Called the_lookup f.0 ∷ back f.0) new.fs =
      subst (λ (es : List Event). IsRun MemFsAllows GivesFirst None old.fs es new.fs) f.1 s.is_run in
      let at = subst (λ (fs : Stock). MemFsAllows fs the_lookup (Plain f.0) run.0) is run.1 in
      let e = found f.0 at.0 in
      let bytes : List ℕ = reply_with (entry_out_of e.entry) in
      let bytes_are : bytes ≡ file_reply = ap reply_with (out_is e.entry e.of_file) ∙ reply_is in
      let IsOf : List ℕ → Type 0 = λ r. IsPut r writer.left outcome s.room_after in
      let Q : Answer → Type 0 = λ a. IsReplied (reply a) writer.left outcome s.room_after in
      let first : IsOf bytes = subst Q e.answer_is f.3 in
      let put : IsOf file_reply = subst IsOf bytes_are first in
      let left : s.room_after ≡ file_reply ++ drop 144 writer.left =
      put.leaves ∙ put_room-fits file_reply writer.left room in
      let seen = not_unseen (length writer.left) bytes e.entry.inode bytes_are e.of_file.inode room in
      let none : back f.0 ≡ [] =
      ap back e.answer_is ∙ ap (λ (n : Option ℕ). given_back lookup_echo.ctx n) seen in
      record {
        entry = e.entry;
        node = e.of_file.inode;
        outcome_is = put.says ∙ put_outcome-fits file_reply writer.left room;
        room_is = left;
        bytes = s.leaves.kept ∙ ap (λ (l : List ℕ). writer.passed ++ l) left;
        events_are =
            f.1
            ∙ (ap (λ (a : Answer). Called the_lookup a ∷ back f.0) e.answer_is
            ∙ ap (λ (l : List Event). Called the_lookup (Found e.entry) ∷ l) none);
        same =
            IsRun-no_events MemFsAllows GivesFirst run.0 new.fs (back f.0) run.2 none
            ∙ (at.1 ∙ sym is);
      }

  -- what is seen of the FORGET
  record Forgotten (t : Turn) : Type 0 where
    answer : Answer
    outcome_is : outcome ≡ Ok 0
    bytes : whole after ≡ whole writer
    events_are : t.events ≡ Called the_forget answer ∷ []
    same : new.fs ≡ old.fs

  step-forget : (s : IsFileStep old FORGET writer outcome after new)
      → Forgotten (turn_over FORGET writer s.events outcome s.room_after)
  unfolding number
  step-forget s =
      let t : Turn = turn_over FORGET writer s.events outcome s.room_after in
      let P : Ask → Type 0 = λ a. Follows t old.limits old.options a new.options in
      let f = subst P (ask-forget old.limits old.options (length writer.left)) s.turn in
      let run : IsRun MemFsAllows GivesFirst None old.fs (Called the_forget f.0 ∷ []) new.fs =
      subst (λ (es : List Event). IsRun MemFsAllows GivesFirst None old.fs es new.fs) f.1 s.is_run in
      record {
        answer = f.0;
        outcome_is = f.3.0;
        bytes = s.leaves.kept ∙ ap (λ (l : List ℕ). writer.passed ++ l) f.3.1;
        events_are = f.1;
        same = run.2 ∙ run.1.1;
      }

-- ---- the books of both

-- the node that the reply delivers
delivered-bytes : (n : ℕ) (following : List ℕ)
    → delivered_by n (opcode_in LOOKUP) (Ok 144) (file_reply ++ following) ≡ times n (2 ∷ [])
unfolding number opcode_of
delivered-bytes n following = refl

-- the node that the FORGET gives back
accepted-bytes : (n : ℕ) → accepted_by n FORGET (Ok 0) ≡ forgotten n ((2, 1) ∷ [])
unfolding number opcode_of
accepted-bytes n = refl

-- it is given back as often as it is delivered
as_often : (n : ℕ) (b : Bool) → (2 == n) ≡ b → forgotten n ((2, 1) ∷ []) ≡ times n (2 ∷ [])
as_often n true e = rw e refl
as_often n false e = rw e refl

-- the file system answered one entry of the node
answered-both : (entry : Entry) → entry.inode ≡ 2 → (answer : Answer)
    → answered 2 (Called the_lookup (Found entry) ∷ Called the_forget answer ∷ []) ≡ 1
answered-both entry node answer = rw node refl

-- a client gives back in the second turn as much as it was delivered in the first
gives_back : (n : ℕ) (looked gave : Turn)
    → accepted n looked ≡ 0 → accepted n gave ≡ delivered n looked
    → GivesBackWithin n (looked ∷ gave ∷ [])
gives_back n looked gave none as_many zero = omega arith
gives_back n looked gave none as_many (suc zero) =
    omega (arith, sum_by-cons (accepted n) looked [], none)
gives_back n looked gave none as_many (suc (suc k)) =
    let all : take k [] ≡ [] = take_all {A = Turn} k [] (omega arith) in
    let a = sum_by-cons (accepted n) looked (gave ∷ []) in
    let b = sum_by-cons (accepted n) gave [] in
    let d = sum_by-cons (delivered n) looked (gave ∷ []) in
    rw all (omega (arith, a, b, d, none, as_many))

module _ (one two one_after two_after : Written) (s0 s1 s2 : ServerState Stock)
    (o1 o2 : Result ℕ Error) where
  -- what is seen of both
  pub record Both : Type 1 where
    pub found : o1 ≡ Ok 144
    pub gave : o2 ≡ Ok 0
    pub reply : whole one_after ≡ one.passed ++ (file_reply ++ drop 144 one.left)
    pub silent : whole two_after ≡ whole two
    pub same : s2.fs ≡ s0.fs
    pub history : (looked gave : Turn)
        × IsSeen lookup_of_a one (Ok 144) one_after looked
        × IsSeen forget_of_2 two (Ok 0) two_after gave
        × LooksUpAndForgets s0 looked gave s2

  pub both : GoesOnHandled MemFsAllows GivesFirst → HistoriesKeepBooks MemFsAllows GivesFirst
      → IsFileStep s0 LOOKUP one o1 one_after s1 → IsFileStep s1 FORGET two o2 two_after s2
      → s0.fs ≡ files → 144 ≤ length one.left → o1 ≢ Err OutOfMemory → Both
  both goes keep x y is room enough =
      let a : Turn = turn_of MemFsAllows GivesFirst s0 LOOKUP one o1 one_after s1 x in
      let b : Turn = turn_of MemFsAllows GivesFirst s1 FORGET two o2 two_after s2 y in
      let l = step-lookup s0 s1 one one_after o1 x is room enough in
      let g = step-forget s1 s2 two two_after o2 y in
      let first : IsHistory MemFsAllows GivesFirst s0 (Handled a ∷ []) s1 =
      goes s0 s0 s1 [] LOOKUP one o1 one_after refl x in
      let all : IsHistory MemFsAllows GivesFirst s0 (Handled a ∷ Handled b ∷ []) s2 =
      goes s0 s1 s2 (Handled a ∷ []) FORGET two o2 two_after first y in
      let books : KeepsBooks (a ∷ b ∷ []) = keep s0 s2 (Handled a ∷ Handled b ∷ []) all in
      let delivered_is : (n : ℕ) → delivered n a ≡ times n (2 ∷ []) = λ n.
      ap (λ (o : Result ℕ Error). delivered_by n (opcode_in LOOKUP) o x.room_after) l.outcome_is
      ∙ (ap (λ (r : List ℕ). delivered_by n (opcode_in LOOKUP) (Ok 144) r) l.room_is
      ∙ delivered-bytes n (drop 144 one.left)) in
      let accepted_is : (n : ℕ) → accepted n b ≡ forgotten n ((2, 1) ∷ []) = λ n.
      ap (λ (o : Result ℕ Error). accepted_by n FORGET o) g.outcome_is ∙ accepted-bytes n in
      let none : (n : ℕ) → accepted n a ≡ 0 = λ n.
      ap (λ (o : Result ℕ Error). accepted_by n LOOKUP o) l.outcome_is in
      let within : (n : ℕ) → GivesBackWithin n (a ∷ b ∷ []) = λ n.
      gives_back n a b (none n)
      (accepted_is n ∙ (as_often n (2 == n) refl ∙ sym (delivered_is n))) in
      let events : events_in (a ∷ b ∷ [])
      ≡ Called the_lookup (Found l.entry) ∷ Called the_forget g.answer ∷ [] =
      ap (λ (es : List Event). es ++ (b.events ++ [])) l.events_are
      ∙ ap (λ (es : List Event). Called the_lookup (Found l.entry) ∷ (es ++ [])) g.events_are in
      record {
        found = l.outcome_is;
        gave = g.outcome_is;
        reply = l.bytes;
        silent = g.bytes;
        same = g.same ∙ l.same;
        history = (
          a,
          b,
          record { asked = refl; room = refl; came = l.outcome_is; leaves = x.leaves },
          record { asked = refl; room = refl; came = g.outcome_is; leaves = y.leaves },
          record {
            history = all;
            books = books;
            delivered_once = delivered_is 2;
            accepted_once = accepted_is 2;
            answered_once = ap (answered 2) events ∙ answered-both l.entry l.node g.answer;
            sent_once = ap (sent 2) events;
            never_below = λ n counted. never_below_over _ books n counted (within n);
          },
        );
      }
