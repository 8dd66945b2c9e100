-- The books of one turn.
use Rattle.std.proofs.Common.{◌≡◌, ◌≢◌, ◌+◌, ℕ, Bool, true, false, if◌then◌else◌, List, [], ◌∷◌, length, Option, None, Result, Ok, Err, refl, ap, sym, ◌∙◌, inl, inr, arith}
use Rattle.std.proofs.lemmas.List.Sums.{sum_by-cons}
use Rattle.vfs_files.specs.Answers.{Answer, Done, Failed, Kind, Quiet, Untold, Agreements}
use Rattle.vfs_files.specs.Calls.{Call, Data, kind_of, read_answer}
use Rattle.vfs_files.specs.Runs.{Called}
use Rattle.vfs_files.specs.declared.entry.Context.{Context}
use Rattle.vfs_grammar.specs.Listing.{given_back}
use Rattle.vfs_grammar.specs.Ask.{ask}
use Rattle.vfs_grammar.specs.Forms.{Ask, Ends, Asks, Lists, WithMemory}
use Rattle.vfs_grammar.specs.Reply.{Reply, Refusal, NoReply, Bytes, OpenAfter, Echo, reply_of, fault_reply, body_reply}
use Rattle.vfs_grammar.specs.Room.{IsReplied, unseen}
use Rattle.vfs_grammar.specs.Turn.{Turn, Follows, IsTurn, node_answered}
use Rattle.vfs_grammar.specs.declared.limits.Limits.{Limits}
use Rattle.vfs_grammar.specs.declared.error.Error.{Error}
use Rattle.vfs_grammar.specs.declared.error.Error.TheVariants.{EncodeMessage, OutOfMemory}
use Rattle.vfs_grammar.proofs.Rooms.{length-fault_reply, length-body_reply}
use Rattle.laws_turns.proofs.Unseen.{unseen-whole, unseen-unfit}
use Rattle.vfs_grammar.specs.Words.{u64_at}
use Rattle.vfs_grammar.specs.Books.{times, forgotten, opcode_in, answered_nodes, forgets_of, delivered_nodes, answered_by, sent_by, answered, sent}
use Rattle.laws_turns.proofs.Backs.{back_answered, nodes_back, call_last}
use Rattle.laws_turns.proofs.Decoding.{delivered_nodes-fault, delivered_nodes-body, u64_at-body}
use Rattle.laws_turns.proofs.ListedNodes.{directory_books, directory_last}
use Rattle.laws_turns.proofs.Replying.{ComesBack, put_back, Balances, reply_books, done_books, refused_books, SendsBack, LastOnly, no_event}
use Rattle.laws_turns.proofs.Saying.{Saying, Fault, Body, Unsaid, say, has_entry, node_first, NodesFit, FaultFits, ForgetsFit, are_forgets, nodes_fit, fault_fits, forgets_fit}
use Rattle.laws_turns.proofs.Table.{CallFits, ReplyFits, AskFits, ask_fits}

-- ---- what is said of an answer

-- what came back where this is said of an answer
abbrev SaidBack : (unique : ℕ) → Saying → Result ℕ Error → (room_after : List ℕ) → Type 0
SaidBack unique (Fault fault) outcome room_after = ComesBack (fault_reply fault unique) outcome room_after
SaidBack unique (Body body) outcome room_after = ComesBack (body_reply body unique) outcome room_after
SaidBack unique Unsaid outcome room_after = outcome ≡ Ok 0

said_back : (limits : Limits) (echo : Echo) (options : ℕ) (kind : Kind) (answer : Answer) (room : List ℕ) (outcome : Result ℕ Error) (room_after : List ℕ)
    → IsReplied (reply_of limits echo options kind answer) room outcome room_after
    → SaidBack echo.unique (say limits echo options kind answer) outcome room_after
said_back limits echo options Quiet answer room outcome room_after p = p.0
said_back limits echo options Untold Done room outcome room_after p = p.0
said_back limits echo options (Data size) (Failed fault) room outcome room_after p = inl (p.says, p.begins)
said_back limits echo options (Data size) _ room outcome room_after p = inl (p.says, p.begins)
said_back limits echo options _ (Failed fault) room outcome room_after p =
    put_back (fault_reply fault echo.unique) room outcome room_after p
said_back limits echo options Agreements _ room outcome room_after p = put_back _ room outcome room_after p
said_back limits echo options _ _ room outcome room_after p = put_back _ room outcome room_after p

-- the number that a body begins with, by its place in the reply
first_after : (entry : Bool) (body : List ℕ) (unique : ℕ)
    → (if entry then u64_at 16 (body_reply body unique) ∷ [] else []) ≡ node_first entry body
first_after true body unique = ap (λ (k : ℕ). k ∷ []) (u64_at-body body unique)
first_after false body unique = refl

-- ---- the books

module _ (n : ℕ) (t : Turn) where
  -- what comes back without a call
  end_books : (reply : Reply) → ReplyFits (opcode_in t.request) t.request reply → t.events ≡ []
      → IsReplied reply t.room t.outcome t.room_after → Balances n t
  end_books (Refusal e) fits none p = refused_books n t e none p.0
  end_books NoReply fits none p =
      done_books n t p.0 (ap (answered n) none) (ap (sent n) none ∙ ap (forgotten n) (sym fits))
  end_books (Bytes reply) fits none p =
      reply_books n t reply (put_back reply t.room t.outcome t.room_after p) fits.0 (ap (answered n) none ∙ ap (times n) (sym fits.1))
      (record { whole = λ m o. ap (sent n) none; unfit = λ o. ap (sent n) none ∙ sym (ap (answered n) none) })
  end_books (OpenAfter reply) fits none p = absurd fits

  module _ (c : Call) (answer : Answer) (ctx : Context) (given : Option ℕ) (called : t.events ≡ Called c answer ∷ given_back ctx given)
      (fits : CallFits (opcode_in t.request) t.request c) where
    -- nothing is given back where the reply came back whole, and where it didn't fit what was answered
    record GivesUnseen : Type 0 where
      whole : (m : ℕ) → t.outcome ≡ Ok m → given ≡ None
      unfit : t.outcome ≡ Err EncodeMessage → sent n (given_back ctx given) ≡ times n (answered_nodes c answer)

    one_answered : (nodes : List ℕ) → answered_nodes c answer ≡ nodes → answered n t.events ≡ times n nodes
    one_answered nodes e =
        let a = sum_by-cons (answered_by n) (Called c answer) (given_back ctx given) in
        let b = back_answered n ctx given in
        let f : answered n t.events ≡ times n (answered_nodes c answer) = ap (answered n) called ∙ omega (arith, a, b) in
        f ∙ ap (times n) e

    one_sent : sent n t.events ≡ forgotten n (forgets_of c) + sent n (given_back ctx given)
    one_sent = ap (sent n) called ∙ sum_by-cons (sent_by n) (Called c answer) (given_back ctx given)

    none_sent : (m : ℕ) → GivesUnseen → t.outcome ≡ Ok m → sent n (given_back ctx given) ≡ 0
    none_sent m g o = ap (λ (back : Option ℕ). sent n (given_back ctx back)) (g.whole m o)

    sends : forgets_of c ≡ [] → GivesUnseen → SendsBack n t
    sends none g =
        let nothing : forgotten n (forgets_of c) ≡ 0 = ap (forgotten n) none in
        record {
          whole = λ m o. let s = none_sent m g o in omega (arith, one_sent, nothing, s);
          unfit = λ o. let s = g.unfit o in let a = one_answered (answered_nodes c answer) refl in omega (arith, one_sent, nothing, s, a);
        }

    -- what is said of the answer
    said_books : (unique : ℕ) (s : Saying) → NodesFit (answered_nodes c answer) (has_entry c) s → FaultFits s → ForgetsFit (forgets_of c) s → GivesUnseen
        → SaidBack unique s t.outcome t.room_after → Balances n t
    said_books unique (Fault fault) nodes small forgets g back =
        let none : delivered_nodes (opcode_in t.request) (fault_reply fault unique) ≡ [] = delivered_nodes-fault (opcode_in t.request) fault unique small.0 small.1 in
        reply_books n t (fault_reply fault unique) back (omega (arith, length-fault_reply fault unique))
        (one_answered [] nodes ∙ ap (times n) (sym none)) (sends forgets g)
    said_books unique (Body body) nodes small forgets g back =
        let reply = body_reply body unique in
        let decoded : delivered_nodes (opcode_in t.request) reply ≡ node_first (has_entry c) body =
        delivered_nodes-body (opcode_in t.request) body unique ∙ fits.nodes reply ∙ first_after (has_entry c) body unique in
        reply_books n t reply back (omega (arith, length-body_reply body unique))
        (one_answered (node_first (has_entry c) body) nodes ∙ ap (times n) (sym decoded)) (sends forgets g)
    said_books unique Unsaid nodes small forgets g back =
        let s = none_sent 0 g back in
        let asked = ap (forgotten n) fits.forgets in
        done_books n t back (one_answered [] nodes) (omega (arith, one_sent, s, asked))

  -- what a request asks
  ask_books : n ≢ 0 → (limits : Limits) (options : ℕ) (a : Ask) (after : ℕ) → AskFits (opcode_in t.request) t.request a
      → Follows t limits options a after → Balances n t
  ask_books some limits options (Ends reply) after fits f = end_books reply fits f.0 f.1
  ask_books some limits options (Asks echo c) after fits f =
      let s = say limits echo after (kind_of c) f.0 in
      let reply = reply_of limits echo after (kind_of c) f.0 in
      let node = node_answered (kind_of c) f.0 in
      said_books c f.0 echo.ctx (unseen (length t.room) reply node) f.1 fits echo.unique s (nodes_fit limits echo after c f.0 f.2) (fault_fits limits echo after (kind_of c) f.0 f.2)
      (forgets_fit limits echo after c f.0)
      (record {
        whole = λ m o. unseen-whole reply t.room t.outcome t.room_after m node f.3 o;
        unfit = λ o. ap (λ (back : Option ℕ). sent n (given_back echo.ctx back)) (unseen-unfit limits echo after (kind_of c) f.0 t.room t.outcome t.room_after node f.2 f.3 o)
            ∙ nodes_back n some echo.ctx c f.0 f.2;
      })
      (said_back limits echo after (kind_of c) f.0 t.room t.outcome t.room_after f.3)
  ask_books some limits options (Lists echo l) after fits f =
      directory_books n some t l.plus l.ctx l.parent l.handle l.size l.offset l.space echo.unique f.0 f.1 fits f.2
      (fault_fits limits echo after (Data l.size) (read_answer f.1 f.0) f.3) f.4
  ask_books some limits options (WithMemory rest) after fits (inl f) = ask_books some limits options rest after fits f
  ask_books some limits options (WithMemory rest) after fits (inr f) = refused_books n t OutOfMemory f.0 f.1.0

pub turn_books : (n : ℕ) (limits : Limits) (options : ℕ) (t : Turn) (after : ℕ) → n ≢ 0 → IsTurn limits options t after → Balances n t
turn_books n limits options t after some turn =
    ask_books n t some limits options (ask limits options (length t.room) t.request) after (ask_fits limits options (length t.room) t.request) turn

-- ---- in the middle of a request

ask_last : (n : ℕ) → n ≢ 0 → (limits : Limits) (options : ℕ) (a : Ask) (t : Turn) (after : ℕ) → Follows t limits options a after → LastOnly n t.events
ask_last n some limits options (Ends reply) t after f = no_event n t.events f.0
ask_last n some limits options (Asks echo c) t after f =
    call_last n echo.ctx (kind_of c) c f.0 (length t.room) (reply_of limits echo after (kind_of c) f.0) t.events (are_forgets c) f.1
ask_last n some limits options (Lists echo l) t after f = directory_last n some t l.plus l.ctx l.parent l.handle l.size l.offset l.space f.0 f.1 f.2
ask_last n some limits options (WithMemory rest) t after (inl f) = ask_last n some limits options rest t after f
ask_last n some limits options (WithMemory rest) t after (inr f) = no_event n t.events f.0

pub turn_last : (n : ℕ) → n ≢ 0 → (limits : Limits) (options : ℕ) (t : Turn) (after : ℕ) → IsTurn limits options t after → LastOnly n t.events
turn_last n some limits options t after turn = ask_last n some limits options (ask limits options (length t.room) t.request) t after turn
