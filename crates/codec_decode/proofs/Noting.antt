-- A file system that notes its call is asked for what the grammar says.
use Rattle.std.proofs.Common.{◌≡◌, ◌∙◌, ◌+◌, ℕ, List, [], ◌∷◌, Option, None, Some, Result, length, length-append, refl, ap, sym, subst, inl, inr}
use Rattle.vfs_segments.specs.Written.{Written, Leaves, whole}
use Rattle.vfs_messages.specs.Rooms.{Replies}
use Rattle.vfs_files.specs.Values.{Item}
use Rattle.vfs_files.specs.Calls.{Call, Readdir, Answer, Failed, Handed, Plain, kind_of, read_answer}
use Rattle.vfs_files.specs.Answers.{Kind, Quiet, Told, Untold, Data, Agreements, Entries, TimedAttributes, Openings, Creations, Capacities, Texts, TextsOrCounts, Offsets, Writes, Iterators, Faults}
use Rattle.vfs_files.specs.Runs.{Event, Called, OpenedDirectory, IsRun}
use Rattle.vfs_files.specs.declared.entry.Context.{Context}
use Rattle.vfs_grammar.specs.Forms.{Ask, Ends, Asks, Lists, WithMemory}
use Rattle.vfs_grammar.specs.Listing.{Listing}
use Rattle.vfs_grammar.specs.Reply.{Reply, Refusal, NoReply, Bytes, OpenAfter, reply_of}
use Rattle.vfs_grammar.specs.Room.{unseen}
use Rattle.vfs_grammar.specs.Turn.{node_answered}
use Rattle.vfs_grammar.specs.Words.{IsRead}
use Rattle.vfs_grammar.specs.Witnesses.{FollowsFor}
use Rattle.vfs_grammar.specs.declared.limits.Limits.{Limits}
use Rattle.vfs_grammar.specs.declared.error.Error.{Error}
use Rattle.vfs_grammar.specs.declared.error.Error.TheVariants.{OutOfMemory}
use Rattle.vfs_server.specs.Delivery.{CallsAndGivesBack}
use Rattle.codec_calls.specs.Asked.{Notes}
use Rattle.codec_calls.specs.Shapes.{shape_of, shape_over, nothing, held_back, held_back_kind}
use Rattle.codec_calls.specs.declared.asking.Asking.{Asking}
use Rattle.codec_calls.specs.declared.asking.NoEntries.{NoEntries}
use Rattle.codec_calls.specs.declared.call.CallData.{CallData}
use Rattle.vfs_server.specs.Handling.{server_tells}
use Rattle.vfs_server.specs.State.{ServerState}
use Rattle.codec_decode.specs.Noting.{IsNoted}
use Rattle.codec_decode.specs.Room.{KeepsRoom}

-- an answer that is held back names no node
no_node : (k : Kind) → node_answered k (held_back_kind k) ≡ None
no_node Quiet = refl
no_node Told = refl
no_node Untold = refl
no_node (Data size) = refl
no_node Agreements = refl
no_node Entries = refl
no_node TimedAttributes = refl
no_node Openings = refl
no_node Creations = refl
no_node Capacities = refl
no_node Texts = refl
no_node TextsOrCounts = refl
no_node Offsets = refl
no_node Writes = refl
no_node Iterators = refl
no_node Faults = refl

-- an equation of what is handed back
abbrev Same : Handed NoEntries → Handed NoEntries → Type 0
Same a b = a ≡ b

plain : (a b : Answer) → Same (Plain a) (Plain b) → a ≡ b
plain a b e = cc

-- the record is the caller's still, and has this
record Has (old new : Asking) (call : CallData) : Type 0 where
  noted : new.call.now ≡ call
  same_record : new.call.ghost_name ≡ old.call.ghost_name

abbrev GivesNone : NoEntries → Option Item → NoEntries → Type 0
GivesNone old item new = item ≡ None

-- what a noted call leaves, where none was noted before
leaves : (c : Call) (handed : Handed NoEntries) (old new : Asking) → old.call.now ≡ nothing → Notes old c handed new → Has old new (shape_of c)
leaves c handed old new none h = record { noted = h.0 ∙ ap (λ d. shape_over d c) none; same_record = h.2 }

-- a call whose answer is held back is noted, and nothing is given back
noted : (c : Call) (answer : Answer) (ctx : Context) (back : Option ℕ) (old new : Asking)
    → (answer ≡ held_back c → back ≡ None) → old.call.now ≡ nothing
    → CallsAndGivesBack Notes c answer ctx back old new → Has old new (shape_of c)
noted c answer ctx None old new none start h = leaves c (Plain answer) old new start h
noted c answer ctx (Some node) old new none start h =
    let e : Some node ≡ None = none (plain answer (held_back c) h.1.1) in absurd (let a = e in cc)

seen_none : (space : ℕ) (reply : Reply) (node : Option ℕ) → node ≡ None → unseen space reply node ≡ None
seen_none space reply None e = refl
seen_none space reply (Some node) e = absurd (let a = e in cc)

-- of a run whose events are one call with its answer, that call is noted
one_call : (call : Call) (fault : Option ℕ) (old new : Asking)
    → old.call.now ≡ nothing → IsRun Notes GivesNone None old (Called call (Failed fault) ∷ []) new
    → Has old new (shape_of call)
one_call call fault old new start r =
    let l = leaves call (Plain (Failed fault)) old r.0 start r.1 in
    record {
      noted = ap (λ (s : Asking). s.call.now) r.2 ∙ l.noted;
      same_record = ap (λ (s : Asking). s.call.ghost_name) r.2 ∙ l.same_record;
    }

-- no run opens a directory
none_opened : (call : Call) (takings : List Event) (old new : Asking)
    → IsRun Notes GivesNone None old (OpenedDirectory call ∷ takings) new → ⊥
none_opened call takings old new r = let a = r.2.1 in cc

-- a directory that is read was asked for, and not opened
listed : (l : Listing) (records : List ℕ) (answer : Result ℕ (Option ℕ)) (old new : Asking) (events : List Event)
    → old.call.now ≡ nothing → IsRun Notes GivesNone None old events new → IsRead l events records answer
    → Has old new (shape_of (Readdir l.ctx l.parent l.handle l.size l.offset))
listed l records answer old new events start r (inl u) =
    one_call (Readdir l.ctx l.parent l.handle l.size l.offset) u.0 old new start
    (subst (λ (es : List Event). IsRun Notes GivesNone None old es new) u.1 r)
listed l records answer old new events start r (inr o) =
    absurd (none_opened (Readdir l.ctx l.parent l.handle l.size l.offset) o.0 old new
    (subst (λ (es : List Event). IsRun Notes GivesNone None old es new) o.1 r))

-- the room that a reply leaves
same_room : (old new : Written) → new ≡ old → KeepsRoom old new
same_room old new e = (ap (λ (w : Written). length (whole w)) e, ap (λ (w : Written). w.lengths) e)

left_room : (old : Written) (room_after : List ℕ) (new : Written) → Leaves old room_after new → KeepsRoom old new
left_room old room_after new l = (
  ap length l.kept ∙ length-append old.passed room_after ∙ ap (λ (n : ℕ). length old.passed + n) l.same_length
      ∙ sym (length-append old.passed old.left),
  l.same_segments,
)

replied_room : (reply : Reply) (old new : Written) (outcome : Result ℕ Error) → Replies reply old outcome new
    → KeepsRoom old new
replied_room (Refusal error) old new outcome h = same_room old new h.1
replied_room NoReply old new outcome h = same_room old new h.1
replied_room (Bytes reply) old new outcome h = left_room old h.room_after new h.leaves
replied_room (OpenAfter reply) old new outcome h = left_room old h.room_after new h.leaves

-- whatever was handled leaves a writer its room
pub handled_room : (wanted : Type 0) (limits : Limits) (options after : ℕ) (a : Ask) (old new : ServerState Asking)
    (writer writer_after : Written) (outcome : Result ℕ Error)
    → FollowsFor (server_tells Notes GivesNone wanted old writer outcome writer_after new) limits options a after
    → KeepsRoom writer writer_after
handled_room wanted limits options after (Ends reply) old new writer writer_after outcome f =
    replied_room reply writer writer_after outcome f.1
handled_room wanted limits options after (Asks echo c) old new writer writer_after outcome f =
    replied_room (reply_of limits echo after (kind_of c) f.0) writer writer_after outcome f.3
handled_room wanted limits options after (Lists echo l) old new writer writer_after outcome f =
    replied_room (reply_of limits echo after (Data l.size) (read_answer f.1 f.0)) writer writer_after outcome f.4
handled_room wanted limits options after (WithMemory rest) old new writer writer_after outcome (inl f) =
    handled_room wanted limits options after rest old new writer writer_after outcome f
handled_room wanted limits options after (WithMemory rest) old new writer writer_after outcome (inr f) =
    replied_room (Refusal OutOfMemory) writer writer_after outcome f.1

-- what is noted, and that the record is the caller's still
pub record Noted (wanted : Type 0) (a : Ask) (old new : Asking) (writer : Written) (outcome : Result ℕ Error) (writer_after : Written) : Type 0 where
  pub is_noted : IsNoted wanted a writer outcome writer_after new.call.now
  pub same_record : new.call.ghost_name ≡ old.call.ghost_name

stayed : (old new : Asking) → new ≡ old → new.call.ghost_name ≡ old.call.ghost_name
stayed old new e = ap (λ (s : Asking). s.call.ghost_name) e

none_noted : (old new : Asking) → old.call.now ≡ nothing → new ≡ old → new.call.now ≡ nothing
none_noted old new start e = ap (λ (s : Asking). s.call.now) e ∙ start

pub asking_notes : (wanted : Type 0) (limits : Limits) (options after : ℕ) (a : Ask) (old new : ServerState Asking)
    (writer writer_after : Written) (outcome : Result ℕ Error)
    → old.fs.call.now ≡ nothing
    → FollowsFor (server_tells Notes GivesNone wanted old writer outcome writer_after new) limits options a after
    → Noted wanted a old.fs new.fs writer outcome writer_after
asking_notes wanted limits options after (Ends reply) old new writer writer_after outcome start f =
    record { is_noted = (none_noted old.fs new.fs start f.0, f.1); same_record = stayed old.fs new.fs f.0 }
asking_notes wanted limits options after (Asks echo c) old new writer writer_after outcome start f =
    let n = noted c f.0 echo.ctx _ old.fs new.fs
    (λ e. seen_none (length writer.left) (reply_of limits echo after (kind_of c) f.0) (node_answered (kind_of c) f.0)
    (ap (node_answered (kind_of c)) e ∙ no_node (kind_of c))) start f.1 in
    record { is_noted = n.noted; same_record = n.same_record }
asking_notes wanted limits options after (Lists echo l) old new writer writer_after outcome start f =
    let n = listed l f.0 f.1 old.fs new.fs f.2.events start f.2.is_run f.2.is_read in
    record { is_noted = n.noted; same_record = n.same_record }
asking_notes wanted limits options after (WithMemory rest) old new writer writer_after outcome start (inl f) =
    let n = asking_notes wanted limits options after rest old new writer writer_after outcome start f in
    record { is_noted = inl n.is_noted; same_record = n.same_record }
asking_notes wanted limits options after (WithMemory rest) old new writer writer_after outcome start (inr f) =
    record { is_noted = inr (f.0.1, none_noted old.fs new.fs start f.0.0, f.1); same_record = stayed old.fs new.fs f.0.0 }
