-- What a session says of requests that are written out.
use Rattle.std.proofs.Common.{◌≡◌, ◌≢◌, ◌⊎◌, ℕ, Bool, false, List, [], ◌∷◌, ◌++◌, length, map, nat_lt, Option, Some, None, Result, Ok, Err, ap, sym, ◌∙◌, arith, subst, inl, inr, refl, pos}
use Rattle.std.proofs.lemmas.Bool.Decides.{nat_tests}
use Rattle.std.proofs.lemmas.List.Sums.{sum_by-take-le}
use Rattle.vfs_flags.specs.Numbers.{opcode_of}
use Rattle.vfs_wire.specs.Fields.{little, number, value_of}
use Rattle.vfs_wire.specs.Records.{in_header}
use Rattle.vfs_segments.specs.Unread.{Unread}
use Rattle.vfs_segments.specs.Written.{Written, whole, Leaves}
use Rattle.vfs_files.specs.Values.{Item, context_of}
use Rattle.vfs_files.specs.Answers.{Answer, Failed, Options, Handed, Plain, Agreements, Entries, Quiet}
use Rattle.vfs_files.specs.Calls.{Call, Init, Lookup, Forget, default_answer}
use Rattle.vfs_files.specs.declared.entry.Context.{Context}
use Rattle.vfs_files.specs.Runs.{Event, Called, OpenedDirectory, Taken, IsRun}
use Rattle.vfs_grammar.specs.Books.{accepted, delivered, accepted_by, delivered_by, opcode_in, KeepsBooks}
use Rattle.vfs_grammar.specs.Words.{GivesBackWithin}
use Rattle.vfs_grammar.specs.Turn.{events_in, Turn, IsTurn, Follows}
use Rattle.vfs_grammar.specs.Ask.{ask}
use Rattle.vfs_grammar.specs.Forms.{Ask, Asks, WithMemory, within}
use Rattle.vfs_grammar.specs.Limits.{max_len}
use Rattle.vfs_grammar.specs.Options.{options_after}
use Rattle.vfs_grammar.specs.Reply.{Echo, echo_of, reply_of}
use Rattle.vfs_grammar.specs.Room.{IsReplied}
use Rattle.vfs_grammar.specs.declared.limits.Limits.{Limits}
use Rattle.vfs_grammar.specs.declared.error.Error.{Error}
use Rattle.vfs_grammar.specs.declared.error.Error.TheVariants.{OutOfMemory}
use Rattle.vfs_grammar.proofs.Keeping.{never_below_over}
use Rattle.test_uses.proofs.Callers.{Seen, AreDefault, seen_put, turn-statfs, run_is_default}
use Rattle.vfs_server.specs.Memory.{WantsNoMemory}
use Rattle.vfs_server.specs.Session.{AreServed, IsSession}
use Rattle.vfs_server.specs.Sparing.{IsServedSparingly, AreServedSparingly, IsSparing}
use Rattle.vfs_server.specs.Step.{ServerState}
use Rattle.test_uses.specs.Requests.{init_request, init_reply, lookup_request, lookup_reply, statfs_request, statfs_reply, in_one_segment, AreRooms, SendsThreeBack}
use Rattle.test_uses.specs.declared.server.session.TheConstants.{FORGET}

-- ---- walking along a session

-- the calls of a beginning, and of what comes after it, have their default answers
default_left : (xs ys : List Event) → AreDefault (xs ++ ys) → AreDefault xs
default_left [] ys h = tt
default_left (Called call answer ∷ xs) ys h = (h.0, default_left xs ys h.1)
default_left (OpenedDirectory call ∷ xs) ys h = default_left xs ys h
default_left (Taken item ∷ xs) ys h = default_left xs ys h

default_right : (xs ys : List Event) → AreDefault (xs ++ ys) → AreDefault ys
default_right [] ys h = h
default_right (Called call answer ∷ xs) ys h = default_right xs ys h.1
default_right (OpenedDirectory call ∷ xs) ys h = default_right xs ys h
default_right (Taken item ∷ xs) ys h = default_right xs ys h

-- the requests of a session that are left after some of it
pub record Rest (limits : Limits) (options : ℕ) (readers : List Unread) (writers : List Written) (outcomes : List (Result ℕ Error)) (news : List Written) (after : ℕ) : Type 0 where
  pub turns : List Turn
  pub served : AreServedSparingly limits options readers writers turns news after
  pub answered : map (λ t. t.outcome) turns ≡ outcomes
  pub events : AreDefault (events_in turns)

-- the first of them, and the others
record First (limits : Limits) (options : ℕ) (reader : Unread) (readers : List Unread) (writer : Written) (writers : List Written) (outcomes : List (Result ℕ Error)) (news : List Written) (after : ℕ) : Type 0 where
  t : Turn
  new : Written
  mid : ℕ
  outs : List (Result ℕ Error)
  others : List Written
  one : IsServedSparingly limits options reader writer t new mid
  events : AreDefault t.events
  outcomes_are : outcomes ≡ t.outcome ∷ outs
  news_are : news ≡ new ∷ others
  rest : Rest limits mid readers writers outs others after

module _ (limits : Limits) where
  first_of : (options : ℕ) (reader : Unread) (readers : List Unread) (writer : Written) (writers : List Written) (outcomes : List (Result ℕ Error)) (after : ℕ) (turns : List Turn) (news : List Written)
      → AreServedSparingly limits options (reader ∷ readers) (writer ∷ writers) turns news after → map (λ t. t.outcome) turns ≡ outcomes → AreDefault (events_in turns)
      → First limits options reader readers writer writers outcomes news after
  first_of options reader readers writer writers outcomes after [] news s a e = absurd s
  first_of options reader readers writer writers outcomes after (t ∷ ts) [] s a e = absurd s
  first_of options reader readers writer writers outcomes after (t ∷ ts) (n ∷ ns) s a e = record {
    t = t;
    new = n;
    mid = s.0;
    outs = map (λ u. u.outcome) ts;
    others = ns;
    one = s.1;
    events = default_left t.events (events_in ts) e;
    outcomes_are = sym a;
    news_are = refl;
    rest = record { turns = ts; served = s.2; answered = refl; events = default_right t.events (events_in ts) e };
  }

  first : (options : ℕ) (reader : Unread) (readers : List Unread) (writer : Written) (writers : List Written) (outcomes : List (Result ℕ Error)) (news : List Written) (after : ℕ)
      → Rest limits options (reader ∷ readers) (writer ∷ writers) outcomes news after → First limits options reader readers writer writers outcomes news after
  first options reader readers writer writers outcomes news after r = first_of options reader readers writer writers outcomes after r.turns news r.served r.answered r.events

  -- after the last request nothing is left
  last_of : (options : ℕ) (outcomes : List (Result ℕ Error)) (after : ℕ) (turns : List Turn) (news : List Written)
      → AreServedSparingly limits options [] [] turns news after → map (λ t. t.outcome) turns ≡ outcomes
      → (outcomes ≡ []) × (news ≡ []) × (after ≡ options)
  last_of options outcomes after [] [] s a = (sym a, refl, s)
  last_of options outcomes after [] (n ∷ ns) s a = absurd s
  last_of options outcomes after (t ∷ ts) news s a = absurd s

-- ---- the three requests

abbrev nobody : Context
nobody = record { uid = 0; gid = 0; pid = pos 0 }

abbrev pub limits_of_new : Limits
limits_of_new = record { page_size = 4096; max_buffer = 1048576 }

ask-init : ask limits_of_new 0 80 init_request ≡ Asks (record { unique = 7; max_readahead = 131072; ctx = nobody }) (Init 11)
unfolding number opcode_of
ask-init = refl

turn-init : (t : Turn) (after : ℕ) → IsTurn limits_of_new 0 t after → t.request ≡ init_request → length t.room ≡ 80 → AreDefault t.events → Seen t 80 init_reply 9 after
unfolding little number
turn-init t after s request room default =
    let echo : Echo = record { unique = 7; max_readahead = 131072; ctx = nobody } in
    let P : Ask → Type 0 = λ a. Follows t limits_of_new 0 a after in
    let asks : ask limits_of_new 0 (length t.room) t.request ≡ Asks echo (Init 11) =
    ap (λ (n : ℕ). ask limits_of_new 0 n t.request) room ∙ ap (λ (b : List ℕ). ask limits_of_new 0 80 b) request ∙ ask-init in
    let f = subst P asks s in
    let answer : f.0 ≡ Options 0 = (subst AreDefault f.1 default).0 in
    let options : after ≡ 9 = f.4 ∙ ap (λ (a : Answer). options_after (Init 11) a 0) answer in
    let Q : ℕ → Answer → Type 0 = λ o a. IsReplied (reply_of limits_of_new echo o Agreements a) t.room t.outcome t.room_after in
    seen_put t 80 init_reply 9 after (subst (λ o. Q o (Options 0)) options (subst (λ a. Q after a) answer f.3)) room refl options

ask-lookup : ask limits_of_new 9 16 lookup_request ≡ WithMemory (Asks (echo_of (value_of in_header lookup_request)) (Lookup (context_of (value_of in_header lookup_request)) 1 (97 ∷ [])))
unfolding number opcode_of
ask-lookup = refl

-- of two facts the first, where the second cannot be
pub the_first : {P Q : Type 0} → P ⊎ Q → (Q → ⊥) → P
the_first (inl p) n = p
the_first (inr q) n = absurd (n q)

turn-lookup : (t : Turn) (after : ℕ) → IsTurn limits_of_new 9 t after → t.request ≡ lookup_request → length t.room ≡ 16 → AreDefault t.events → t.outcome ≢ Err OutOfMemory → Seen t 16 lookup_reply 9 after
unfolding little number
turn-lookup t after s request room default enough =
    let echo : Echo = echo_of (value_of in_header lookup_request) in
    let call : Call = Lookup (context_of (value_of in_header lookup_request)) 1 (97 ∷ []) in
    let P : Ask → Type 0 = λ a. Follows t limits_of_new 9 a after in
    let asks : ask limits_of_new 9 (length t.room) t.request ≡ WithMemory (Asks echo call) =
    ap (λ (n : ℕ). ask limits_of_new 9 n t.request) room ∙ ap (λ (b : List ℕ). ask limits_of_new 9 16 b) request ∙ ask-lookup in
    let f = the_first (subst P asks s) (λ q. enough q.1.0) in
    let answer : f.0 ≡ Failed (Some 38) = (subst AreDefault f.1 default).0 in
    let Q : Answer → Type 0 = λ a. IsReplied (reply_of limits_of_new echo after Entries a) t.room t.outcome t.room_after in
    seen_put t 16 lookup_reply 9 after (subst Q answer f.3) room refl f.4

-- the LOOKUP wants no memory where it lies in one segment
lookup_wants_none : (room : ℕ) → WantsNoMemory limits_of_new 9 room (in_one_segment lookup_request)
unfolding number opcode_of
lookup_wants_none room = refl

-- a writer that had passed nothing has just the bytes of its room afterwards
left_is : (w new : Written) (room_after reply : List ℕ) → Leaves w room_after new → w.passed ≡ [] → room_after ≡ reply → whole new ≡ reply
left_is w new room_after reply l passed e = l.kept ∙ ap (λ (p : List ℕ). p ++ room_after) passed ∙ e

-- what is seen of a session of the three
pub record Begun (writers : List Written) (outcomes : List (Result ℕ Error)) (news : List Written) (after : ℕ) : Type 0 where
  pub outcomes_are : outcomes ≡ Ok 80 ∷ Ok 16 ∷ Ok 96 ∷ []
  pub rooms : map whole news ≡ init_reply ∷ lookup_reply ∷ statfs_reply ∷ []
  pub held : map (λ w. w.held) news ≡ 0 ∷ 0 ∷ 0 ∷ []
  pub segments : map (λ w. w.lengths) news ≡ map (λ w. w.lengths) writers
  pub options : after ≡ 9

begun : (writers : List Written) (outcomes : List (Result ℕ Error)) (news : List Written) (after : ℕ)
    → AreRooms (80 ∷ 16 ∷ 96 ∷ []) writers
    → Rest limits_of_new 0 (map in_one_segment (init_request ∷ lookup_request ∷ statfs_request ∷ [])) writers outcomes news after → Begun writers outcomes news after
begun [] outcomes news after rooms r = absurd rooms
begun (u ∷ []) outcomes news after rooms r = absurd rooms.2
begun (u ∷ v ∷ []) outcomes news after rooms r = absurd rooms.2.2
begun (u ∷ v ∷ w ∷ x ∷ ws) outcomes news after rooms r = absurd rooms.2.2.2
begun (u ∷ v ∷ w ∷ []) outcomes news after rooms r =
    let a = in_one_segment init_request in
    let b = in_one_segment lookup_request in
    let c = in_one_segment statfs_request in
    let k = first limits_of_new 0 a (b ∷ c ∷ []) u (v ∷ w ∷ []) outcomes news after r in
    let i = turn-init k.t k.mid k.one.served.turn k.one.served.request (ap length k.one.served.room ∙ rooms.1) k.events in
    let l = first limits_of_new 9 b (c ∷ []) v (w ∷ []) k.outs k.others after (subst (λ (o : ℕ). Rest limits_of_new o (b ∷ c ∷ []) (v ∷ w ∷ []) k.outs k.others after) i.options k.rest) in
    let j = turn-lookup l.t l.mid l.one.served.turn l.one.served.request (ap length l.one.served.room ∙ rooms.2.1) l.events (l.one.memory (lookup_wants_none (length v.left))) in
    let m = first limits_of_new 9 c [] w [] l.outs l.others after (subst (λ (o : ℕ). Rest limits_of_new o (c ∷ []) (w ∷ []) l.outs l.others after) j.options l.rest) in
    let s = turn-statfs limits_of_new 9 m.t m.mid m.one.served.turn m.one.served.request (ap length m.one.served.room ∙ rooms.2.2.1) m.events in
    let e = last_of limits_of_new m.mid m.outs after m.rest.turns m.others m.rest.served m.rest.answered in
    let news_are : news ≡ k.new ∷ l.new ∷ m.new ∷ [] = cc (k.news_are, l.news_are, m.news_are, e.1) in
    let first_room = left_is u k.new k.t.room_after init_reply k.one.served.leaves rooms.0 i.room_is in
    let second_room = left_is v l.new l.t.room_after lookup_reply l.one.served.leaves rooms.2.0 j.room_is in
    let third_room = left_is w m.new m.t.room_after statfs_reply m.one.served.leaves rooms.2.2.0 s.room_is in
    record {
      outcomes_are = cc (k.outcomes_are, l.outcomes_are, m.outcomes_are, e.0, i.outcome_is, j.outcome_is, s.outcome_is);
      rooms = rw news_are (cc (first_room, second_room, third_room));
      held = rw news_are (cc (k.one.served.hold_given_up, l.one.served.hold_given_up, m.one.served.hold_given_up));
      segments = rw news_are (cc (k.one.served.leaves.same_segments, l.one.served.leaves.same_segments, m.one.served.leaves.same_segments));
      options = cc (e.2, s.options);
    }

module _ {S I : Type 0} (allows : S → Call → Handed I → S → Type 0) (gives : I → Option Item → I → Type 0) (default : (s t : S) (c : Call) (a : Answer) → allows s c (Plain a) t → a ≡ default_answer c) where
  pub session-begun : (old new : ServerState S) (writers : List Written) (outcomes : List (Result ℕ Error)) (news : List Written)
      → IsSparing allows gives old (map in_one_segment (init_request ∷ lookup_request ∷ statfs_request ∷ [])) writers outcomes news new
      → old.limits ≡ limits_of_new → old.options ≡ 0 → AreRooms (80 ∷ 16 ∷ 96 ∷ []) writers → Begun writers outcomes news new.options
  session-begun old new writers outcomes news sparing limits options rooms =
      let s = sparing.session in
      let P : Limits → ℕ → Type 0 = λ l o. AreServedSparingly l o (map in_one_segment (init_request ∷ lookup_request ∷ statfs_request ∷ [])) writers s.turns news new.options in
      let served : P limits_of_new 0 = subst (λ o. P limits_of_new o) options (subst (λ l. P l old.options) limits sparing.sparing) in
      begun writers outcomes news new.options rooms
      (record { turns = s.turns; served = served; answered = s.outcomes_are; events = run_is_default allows gives default None old.fs new.fs (events_in s.turns) s.is_run })

-- ---- the FORGET

ask-forget : (limits : Limits) (options room : ℕ) → ask limits options room FORGET ≡ Asks (echo_of (value_of in_header FORGET)) (Forget (context_of (value_of in_header FORGET)) 5 3)
unfolding number opcode_of
ask-forget limits options room =
    let in_limit : nat_lt (max_len limits) 48 ≡ false = grind (arith, nat_tests) in
    ap (λ (above : Bool). within above (value_of in_header FORGET) (Asks (echo_of (value_of in_header FORGET)) (Forget (context_of (value_of in_header FORGET)) 5 3))) in_limit

-- nothing comes back of a call that answers nothing, and the room stays
quiet : (limits : Limits) (echo : Echo) (options : ℕ) (a : Answer) (room : List ℕ) (outcome : Result ℕ Error) (room_after : List ℕ)
    → IsReplied (reply_of limits echo options Quiet a) room outcome room_after → (outcome ≡ Ok 0) × (room_after ≡ room)
quiet limits echo options a room outcome room_after r = r

turn-forget : (limits : Limits) (options : ℕ) (t : Turn) (after : ℕ) → IsTurn limits options t after → t.request ≡ FORGET → (t.outcome ≡ Ok 0) × (t.room_after ≡ t.room)
turn-forget limits options t after s request =
    let echo : Echo = echo_of (value_of in_header FORGET) in
    let call : Call = Forget (context_of (value_of in_header FORGET)) 5 3 in
    let P : Ask → Type 0 = λ a. Follows t limits options a after in
    let asks : ask limits options (length t.room) t.request ≡ Asks echo call =
    ap (λ (b : List ℕ). ask limits options (length t.room) b) request ∙ ask-forget limits options (length t.room) in
    let f = subst P asks s in
    quiet limits echo after f.0 t.room t.outcome t.room_after f.3

-- what its bytes give back of a node, where it was accepted
accepted-forget : (n : ℕ) (t : Turn) → t.request ≡ FORGET → t.outcome ≡ Ok 0 → accepted n t ≡ accepted_by n FORGET (Ok 0)
accepted-forget n t request outcome = ap (λ (b : List ℕ). accepted_by n b t.outcome) request ∙ ap (λ (o : Result ℕ Error). accepted_by n FORGET o) outcome

-- the one turn of a session of one request, and its writer before and after
record One (limits : Limits) (options : ℕ) (reader : Unread) (writers : List Written) (turns : List Turn) (news : List Written) : Type 0 where
  t : Turn
  after : ℕ
  writer : Written
  new : Written
  turns_are : turns ≡ t ∷ []
  writers_are : writers ≡ writer ∷ []
  news_are : news ≡ new ∷ []
  is_turn : IsTurn limits options t after
  request : t.request ≡ reader.left
  room : t.room ≡ writer.left
  leaves : Leaves writer t.room_after new

one_turn : (limits : Limits) (options : ℕ) (reader : Unread) (writers : List Written) (turns : List Turn) (news : List Written) (after : ℕ) → AreServed limits options (reader ∷ []) writers turns news after → One limits options reader writers turns news
one_turn limits options reader (w ∷ []) (t ∷ []) (n ∷ []) after s = record {
  t = t;
  after = s.0;
  writer = w;
  new = n;
  turns_are = refl;
  writers_are = refl;
  news_are = refl;
  is_turn = s.1.turn;
  request = s.1.request;
  room = s.1.room;
  leaves = s.1.leaves;
}
one_turn limits options reader [] turns news after s = absurd s
one_turn limits options reader (w ∷ ws) [] news after s = absurd s
one_turn limits options reader (w ∷ ws) (t ∷ ts) [] after s = absurd s
one_turn limits options reader (w ∷ v ∷ ws) (t ∷ ts) (n ∷ ns) after s = absurd s.2
one_turn limits options reader (w ∷ []) (t ∷ u ∷ ts) (n ∷ ns) after s = absurd s.2
one_turn limits options reader (w ∷ []) (t ∷ []) (n ∷ m ∷ ns) after s = absurd s.2

-- if the room of the turn stays, so do the writer's bytes
bytes_stay : (w new : Written) (room room_after : List ℕ) → Leaves w room_after new → room_after ≡ room → room ≡ w.left → whole new ≡ whole w
bytes_stay w new room room_after l after before = l.kept ∙ ap (λ (b : List ℕ). w.passed ++ b) (after ∙ before)

-- a client of which nothing is accepted gives back nothing
gives_nothing_back : (n : ℕ) (t : Turn) → accepted n t ≡ 0 → GivesBackWithin n (t ∷ [])
gives_nothing_back n t none k = omega (arith, none, sum_by-take-le (accepted n) (t ∷ []) k)

module _ {S I : Type 0} (allows : S → Call → Handed I → S → Type 0) (gives : I → Option Item → I → Type 0) where
  -- what is seen of a session of the FORGET alone
  pub record Forgotten (old new : ServerState S) (writers : List Written) (outcomes : List (Result ℕ Error)) (news : List Written) : Type 0 where
    pub outcomes_are : outcomes ≡ Ok 0 ∷ []
    pub rooms : map whole news ≡ map whole writers
    pub books : SendsThreeBack allows gives old.fs new.fs

  pub session-forgotten : (old new : ServerState S) (reader : Unread) (writers : List Written) (outcomes : List (Result ℕ Error)) (news : List Written)
      → IsSession allows gives old (reader ∷ []) writers outcomes news new → reader.left ≡ FORGET → Forgotten old new writers outcomes news
  unfolding number opcode_of
  session-forgotten old new reader writers outcomes news s request =
      let o = one_turn old.limits old.options reader writers s.turns news new.options s.served in
      let seen = turn-forget old.limits old.options o.t o.after o.is_turn (o.request ∙ request) in
      let five : accepted 5 o.t ≡ 3 = accepted-forget 5 o.t (o.request ∙ request) seen.0 in
      let six : accepted 6 o.t ≡ 0 = accepted-forget 6 o.t (o.request ∙ request) seen.0 in
      let none : delivered 5 o.t ≡ 0 = ap (λ (r : Result ℕ Error). delivered_by 5 (opcode_in o.t.request) r o.t.room_after) seen.0 in
      let stays : whole o.new ≡ whole o.writer = bytes_stay o.writer o.new o.t.room o.t.room_after o.leaves seen.1 o.room in
      let books = subst KeepsBooks o.turns_are s.books in
      let balanced = books.balanced 5 (λ e. omega (arith, e)) in
      let below = never_below_over (o.t ∷ []) books 6 (λ e. omega (arith, e)) (gives_nothing_back 6 o.t six) in
      record {
        outcomes_are = sym s.outcomes_are ∙ (ap (λ (ts : List Turn). map (λ t. t.outcome) ts) o.turns_are ∙ ap (λ (r : Result ℕ Error). r ∷ []) seen.0);
        rooms = ap (λ (ws : List Written). map whole ws) o.news_are ∙ (ap (λ (b : List ℕ). b ∷ []) stays ∙ sym (ap (λ (ws : List Written). map whole ws) o.writers_are));
        books = record {
          events = events_in (o.t ∷ []);
          is_run = subst (λ (ts : List Turn). IsRun allows gives None old.fs (events_in ts) new.fs) o.turns_are s.is_run;
          three_more = omega (arith, balanced, five, none);
          never_below = below;
        };
      }
