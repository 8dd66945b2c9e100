-- The books of a directory that is read: what its lookups answered is the nodes of its records, and
-- what it gave back, which only its last event does.
use Rattle.std.proofs.Common.{◌≡◌, ◌≢◌, ◌≤◌, ◌+◌, ◌-◌, ◌==◌, ℕ, nat_eq, nat_lt, Bool, true, false, cond, if◌then◌else◌, List, [], ◌∷◌, ◌++◌, length, drop, map, Option, Some, None, unwrap_or, Result, Ok, Err, sum_by, refl, ap, sym, ◌∙◌, inl, inr, arith, zero-add, append_assoc, append-nil}
use Rattle.std.proofs.lemmas.Bool.Decides.{nat_tests}
use Rattle.std.proofs.lemmas.List.Sums.{sum_by-cons}
use Rattle.std.specs.List.{flat_map}
use Rattle.vfs_flags.specs.declared.opcode.Opcode.{Opcode}
use Rattle.vfs_wire.specs.declared.entries.EntryOut.{EntryOut}
use Rattle.vfs_files.specs.declared.entry.Context.{Context}
use Rattle.vfs_files.specs.Values.{Item}
use Rattle.vfs_files.specs.Calls.{Call, Readdir, Data, read_answer}
use Rattle.vfs_files.specs.Runs.{Event, OpenedDirectory, Taken}
use Rattle.laws_turns.specs.Listings.{node_of_line}
use Rattle.vfs_grammar.specs.Listing.{Got, Line, Stop, End, At, Gets, IsGot, is_dot, line_events, stop_events, given_back, line_len, line_bytes, AreWritten, Stops, answer_at, answer_of, IsListing, node_got, verdict, Fails, Verdict, Fits, Full}
use Rattle.vfs_grammar.specs.Words.{lookups, reply_to, IsUnopened, IsOpened, IsDirectoryOf}
use Rattle.laws_turns.proofs.Takings.{lines_least}
use Rattle.laws_turns.proofs.Nodes.{nodes_in-listing}
use Rattle.vfs_grammar.specs.Nodes.{nodes_in}
use Rattle.vfs_grammar.specs.Reply.{body_of, fault_reply, body_reply}
use Rattle.vfs_grammar.specs.Room.{IsReplied}
use Rattle.vfs_grammar.specs.Turn.{Turn}
use Rattle.vfs_grammar.proofs.Rooms.{length-fault_reply, length-body_reply}
use Rattle.vfs_grammar.specs.Books.{times, opcode_in, nodes_after, delivered_nodes, sent_by, answered, sent}
use Rattle.laws_turns.proofs.Decoding.{delivered_nodes-fault, delivered_nodes-body, following-body}
use Rattle.laws_turns.proofs.Replying.{Balances, LastOnly, whole_books}
use Rattle.laws_turns.proofs.Saying.{said_as, FaultFits}
use Rattle.laws_turns.proofs.Sums.{answered-append, sent-append}

-- the node of what an item got: 0 where that is no entry
abbrev node_of_got : Got → ℕ
node_of_got got = unwrap_or (node_got got) 0

-- node 0 is none of those of which books are kept
pub no_node : (n node : ℕ) → n ≢ 0 → node ≡ 0 → times n (node ∷ []) ≡ 0
no_node n node some e =
    let other : nat_eq node n ≡ false = grind (arith, nat_tests) in
    rw other refl

-- the nodes of a body, where it has entries
abbrev body_nodes : (plus : Bool) → (body : List ℕ) → List ℕ
body_nodes true body = nodes_in body
body_nodes false body = []

-- ---- a listing

module _ (ctx : Context) (parent n : ℕ) (some : n ≢ 0) where
  -- what was got answers its node, where it was looked up
  got_answered : (plus dot : Bool) (i : Item) (got : Got) → Gets plus dot i got
      → answered n (Taken (Some i) ∷ lookups ctx parent plus dot (record { item = i; got = got })) ≡ times n (node_of_got got ∷ [])
  got_answered false dot i got gets = sym (no_node n (node_of_got got) some (ap node_of_got gets))
  got_answered true true i (Ok (Some entry)) gets = sym (no_node n entry.inode some (ap (λ (o : EntryOut). o.nodeid) gets))
  got_answered true true i (Ok None) gets = absurd gets
  got_answered true true i (Err fault) gets = absurd gets
  got_answered true false i (Ok (Some entry)) gets = zero-add _
  got_answered true false i (Ok None) gets = absurd gets
  got_answered true false i (Err fault) gets = sym (no_node n 0 some refl)

  got_sent : (plus dot : Bool) (i : Item) (got : Got)
      → sent n (Taken (Some i) ∷ lookups ctx parent plus dot (record { item = i; got = got })) ≡ 0
  got_sent false dot i got = refl
  got_sent true true i got = refl
  got_sent true false i (Ok (Some entry)) = refl
  got_sent true false i (Ok None) = refl
  got_sent true false i (Err fault) = refl

  line_answered : (plus : Bool) (l : Line) → IsGot plus l → answered n (line_events ctx parent plus l) ≡ times n (node_of_line l ∷ [])
  line_answered plus l is = got_answered plus (is_dot l.item.name) l.item l.got is

  line_sent : (plus : Bool) (l : Line) → sent n (line_events ctx parent plus l) ≡ 0
  line_sent plus l = got_sent plus (is_dot l.item.name) l.item l.got

  lines_sent : (plus : Bool) (ls : List Line) → sent n (flat_map (line_events ctx parent plus) ls) ≡ 0
  lines_sent plus [] = refl
  lines_sent plus (l ∷ ls) =
      let a = sent-append n (line_events ctx parent plus l) (flat_map (line_events ctx parent plus) ls) in
      let b = line_sent plus l in
      let c = lines_sent plus ls in
      omega (arith, a, b, c)

  lines_answered : (plus : Bool) (size room written : ℕ) (ls : List Line) → AreWritten plus size room written ls
      → answered n (flat_map (line_events ctx parent plus) ls) ≡ times n (map node_of_line ls)
  lines_answered plus size room written [] w = refl
  lines_answered plus size room written (l ∷ ls) w =
      let a = answered-append n (line_events ctx parent plus l) (flat_map (line_events ctx parent plus) ls) in
      let b = line_answered plus l w.1 in
      let c = lines_answered plus size room (written + line_len l) ls w.3 in
      let d = sum_by-cons (λ (k : ℕ). cond (k == n) 1 0) (node_of_line l) (map node_of_line ls) in
      omega (arith, a, b, c, d)

  back_sent : (got : Got) → sent n (given_back ctx (node_got got)) ≡ times n (node_of_got got ∷ [])
  back_sent (Ok (Some entry)) = zero-add _
  back_sent (Ok None) = sym (no_node n 0 some refl)
  back_sent (Err fault) = sym (no_node n 0 some refl)

  back_answered : (got : Got) → answered n (given_back ctx (node_got got)) ≡ 0
  back_answered (Ok (Some entry)) = refl
  back_answered (Ok None) = refl
  back_answered (Err fault) = refl

  -- the item that stops a reading gives back what it got
  stop_balances : (plus : Bool) (size room written : ℕ) (s : Stop) → Stops plus size room written s
      → answered n (stop_events ctx parent plus s) ≡ sent n (stop_events ctx parent plus s)
  stop_balances plus size room written End h = refl
  stop_balances plus size room written (At l) h =
      let a = answered-append n (line_events ctx parent plus l) (given_back ctx (node_got l.got)) in
      let s = sent-append n (line_events ctx parent plus l) (given_back ctx (node_got l.got)) in
      let b = line_answered plus l h.0 in
      let c = line_sent plus l in
      let d = back_sent l.got in
      let e = back_answered l.got in
      omega (arith, a, s, b, c, d, e)

  -- without entries no line has a node
  lines_plain : (size room written : ℕ) (ls : List Line) → AreWritten false size room written ls → times n (map node_of_line ls) ≡ 0
  lines_plain size room written [] w = refl
  lines_plain size room written (l ∷ ls) w =
      let a = no_node n (node_of_line l) some (ap node_of_got w.1) in
      let b = lines_plain size room (written + line_len l) ls w.3 in
      let d = sum_by-cons (λ (k : ℕ). cond (k == n) 1 0) (node_of_line l) (map node_of_line ls) in
      omega (arith, a, b, d)

  module _ (size room : ℕ) (events : List Event) (body : List ℕ) (result : Result ℕ (Option ℕ)) where
    -- the nodes of the lines are those of the records
    lines_delivered : (plus : Bool) (h : IsListing plus ctx parent size room events body result)
        → times n (map node_of_line h.lines) ≡ times n (body_nodes plus body)
    lines_delivered true h = ap (times n) (sym (nodes_in-listing h))
    lines_delivered false h = lines_plain size room 0 h.lines h.written

    -- what a reading answered is what its records deliver, and what it sent
    pub listing_balances : (plus : Bool) → IsListing plus ctx parent size room events body result
        → answered n events ≡ times n (body_nodes plus body) + sent n events
    listing_balances plus h =
        let lines = flat_map (line_events ctx parent plus) h.lines in
        let stop = stop_events ctx parent plus h.stop in
        let a = ap (answered n) h.events_are ∙ answered-append n lines stop in
        let s = ap (sent n) h.events_are ∙ sent-append n lines stop in
        let b = lines_answered plus size room 0 h.lines h.written in
        let c = lines_sent plus h.lines in
        let d = stop_balances plus size room (sum_by line_len h.lines) h.stop h.stops in
        let e = lines_delivered plus h in
        omega (arith, a, s, b, c, d, e)

  back_short : (got : Got) → length (given_back ctx (node_got got)) ≤ 1
  back_short (Ok (Some entry)) = omega arith
  back_short (Ok None) = omega arith
  back_short (Err fault) = omega arith

  stop_last : (plus : Bool) (s : Stop) (front : List Event) → sent n front ≡ 0 → LastOnly n (front ++ stop_events ctx parent plus s)
  stop_last plus End front h = record {
    front = front ++ Taken None ∷ [];
    last = [];
    are = sym (append-nil _);
    none = sent-append n front (Taken None ∷ []) ∙ omega (arith, h);
    short = omega arith;
  }
  stop_last plus (At l) front h =
      let a = sent-append n front (line_events ctx parent plus l) in
      let b = line_sent plus l in
      record {
        front = front ++ line_events ctx parent plus l;
        last = given_back ctx (node_got l.got);
        are = sym (append_assoc front (line_events ctx parent plus l) (given_back ctx (node_got l.got)));
        none = omega (arith, a, b, h);
        short = back_short l.got;
      }

  -- of the events only the last gives back anything
  listing_last : (plus : Bool) (size room : ℕ) (events : List Event) (body : List ℕ) (result : Result ℕ (Option ℕ)) (call : Call)
      → IsListing plus ctx parent size room events body result → LastOnly n (OpenedDirectory call ∷ events)
  listing_last plus size room events body result call h =
      let lines = flat_map (line_events ctx parent plus) h.lines in
      let front : sent n (OpenedDirectory call ∷ lines) ≡ 0 = sum_by-cons (sent_by n) (OpenedDirectory call) lines ∙ (let c = lines_sent plus h.lines in omega (arith, c)) in
      let l = stop_last plus h.stop (OpenedDirectory call ∷ lines) front in
      record { front = l.front; last = l.last; are = ap (λ (es : List Event). OpenedDirectory call ∷ es) h.events_are ∙ l.are; none = l.none; short = l.short }

-- ---- a fault in place of the records

no_lines : (ls : List Line) → length ls ≡ 0 → ls ≡ []
no_lines [] e = refl
no_lines (l ∷ ls) e = absurd (omega arith)

told_fault : (some : Bool) (written : ℕ) (fault g : Option ℕ) → nat_lt 0 written ≡ some
    → Err g ≡ (if some then Ok written else Err fault) → written ≡ 0
told_fault true written fault g test e = absurd cc
told_fault false written fault g test e = grind (arith, nat_tests)

verdict_fault : (written : ℕ) (v : Verdict) (g : Option ℕ) → Err g ≡ answer_at true written v → written ≡ 0
verdict_fault written Fits g e = absurd cc
verdict_fault written Full g e = absurd cc
verdict_fault written (Fails fault) g e = told_fault (nat_lt 0 written) written fault g refl e

stop_fault : (size room written : ℕ) (s : Stop) (g : Option ℕ) → Err g ≡ answer_of true size room written s → written ≡ 0
stop_fault size room written End g e = absurd cc
stop_fault size room written (At l) g e = verdict_fault written ((verdict (size - written) (room - written) l.got l.item)) g e

-- READDIRPLUS answers a fault only where no record was written, and READDIR delivers nothing
fault_delivers : (plus : Bool) (ctx : Context) (parent size room n : ℕ) (events : List Event) (body : List ℕ) (g : Option ℕ)
    → IsListing plus ctx parent size room events body (Err g) → times n (body_nodes plus body) ≡ 0
fault_delivers false ctx parent size room n events body g h = refl
fault_delivers true ctx parent size room n events body g h =
    let zero = stop_fault size room (sum_by line_len h.lines) h.stop g h.answer_is in
    let least = lines_least true size room 0 h.lines h.written in
    let none : h.lines ≡ [] = no_lines h.lines (omega (arith, zero, least)) in
    let empty : body ≡ [] = h.records_are ∙ ap (λ (ls : List Line). flat_map line_bytes ls) none in
    ap (λ (b : List ℕ). times n (nodes_in b)) empty

-- ---- a turn

-- the opcode is that of READDIRPLUS or, where not `plus`, one whose replies have no entries
pub record ListsFor (plus : Bool) (opcode : Option Opcode) : Type 0 where
  pub nodes : (reply : List ℕ) → nodes_after opcode reply ≡ body_nodes plus (drop 16 reply)

module _ (n : ℕ) (some : n ≢ 0) (t : Turn) (plus : Bool) (ctx : Context) (parent handle size offset room : ℕ) where
  -- of the events of a READDIR or READDIRPLUS only the last gives back anything
  pub directory_last : (body : List ℕ) (result : Result ℕ (Option ℕ))
      → IsDirectoryOf plus ctx parent handle size offset room t.events body result → LastOnly n t.events
  directory_last body result (inl u) = record { front = []; last = t.events; are = refl; none = refl; short = omega (arith, ap length u.1) }
  directory_last body result (inr o) =
      let l = listing_last ctx parent n some plus size room o.0 body result (Readdir ctx parent handle size offset) o.2 in
      record { front = l.front; last = l.last; are = o.1 ∙ l.are; none = l.none; short = l.short }

  -- what was answered is what the reply delivers, and what was sent
  opened_books : (unique : ℕ) (body : List ℕ) (result : Result ℕ (Option ℕ)) → ListsFor plus (opcode_in t.request)
      → IsOpened plus (Readdir ctx parent handle size offset) ctx parent size room t.events body result
      → FaultFits (said_as (body_of (read_answer result body)) (read_answer result body)) → IsReplied (reply_to unique (Data size) (read_answer result body)) t.room t.outcome t.room_after → Balances n t
  opened_books unique body (Ok count) lists o small p =
      let a : answered n t.events ≡ answered n o.0 = ap (answered n) o.1 in
      let s : sent n t.events ≡ sent n o.0 = ap (sent n) o.1 in
      let b = listing_balances ctx parent n some size room o.0 body (Ok count) plus o.2 in
      let reply = body_reply body unique in
      let d : delivered_nodes (opcode_in t.request) reply ≡ body_nodes plus body =
      delivered_nodes-body (opcode_in t.request) body unique ∙ lists.nodes reply ∙ ap (body_nodes plus) (following-body body unique) in
      whole_books n t reply p.says p.begins (omega (arith, length-body_reply body unique)) (omega (arith, a, s, b, ap (times n) d))
  opened_books unique body (Err fault) lists o small p =
      let a : answered n t.events ≡ answered n o.0 = ap (answered n) o.1 in
      let s : sent n t.events ≡ sent n o.0 = ap (sent n) o.1 in
      let b = listing_balances ctx parent n some size room o.0 body (Err fault) plus o.2 in
      let c = fault_delivers plus ctx parent size room n o.0 body fault o.2 in
      let reply = fault_reply fault unique in
      let d = delivered_nodes-fault (opcode_in t.request) fault unique small.0 small.1 in
      whole_books n t reply p.says p.begins (omega (arith, length-fault_reply fault unique)) (omega (arith, a, s, b, c, ap (times n) d))

  unopened_books : (unique : ℕ) (body : List ℕ) (result : Result ℕ (Option ℕ))
      → IsUnopened (Readdir ctx parent handle size offset) t.events body result
      → FaultFits (said_as (body_of (read_answer result body)) (read_answer result body)) → IsReplied (reply_to unique (Data size) (read_answer result body)) t.room t.outcome t.room_after → Balances n t
  unopened_books unique body (Ok count) u small p = absurd (let e = u.3 in cc)
  unopened_books unique body (Err fault) u small p =
      let a : answered n t.events ≡ 0 = ap (answered n) u.1 in
      let s : sent n t.events ≡ 0 = ap (sent n) u.1 in
      let d = delivered_nodes-fault (opcode_in t.request) fault unique small.0 small.1 in
      whole_books n t (fault_reply fault unique) p.says p.begins (omega (arith, length-fault_reply fault unique)) (omega (arith, a, s, ap (times n) d))

  -- the books of a READDIR or READDIRPLUS
  pub directory_books : (unique : ℕ) (body : List ℕ) (result : Result ℕ (Option ℕ)) → ListsFor plus (opcode_in t.request)
      → IsDirectoryOf plus ctx parent handle size offset room t.events body result
      → FaultFits (said_as (body_of (read_answer result body)) (read_answer result body)) → IsReplied (reply_to unique (Data size) (read_answer result body)) t.room t.outcome t.room_after → Balances n t
  directory_books unique body result lists (inl u) small p = unopened_books unique body result u small p
  directory_books unique body result lists (inr o) small p = opened_books unique body result lists o small p
