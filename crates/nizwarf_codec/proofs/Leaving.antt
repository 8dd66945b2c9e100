-- What a writer leaves of its room, and what of that is there to be copied out.
use Rattle.std.proofs.Common.{◌≡◌, ◌≤◌, ◌+◌, ◌++◌, ◌∙◌, ℕ, ℤ, inl, inr, List, [], ◌∷◌, length, take, drop, if◌then◌else◌, Option, None, Some, Result, refl, ap, sym, subst, arith, length-append, append_assoc}
use Rattle.std.proofs.lemmas.List.{drop_at, length-take-le, take_at}
use Rattle.std.proofs.Math.Seq.{take-append-add}
use Rattle.vfs_segments.specs.Written.{Written, whole, Leaves}
use Rattle.vfs_messages.specs.Rooms.{Replies, with_after}
use Rattle.vfs_grammar.specs.Reply.{Reply, Refusal, NoReply, Bytes, OpenAfter}
use Rattle.vfs_grammar.specs.declared.error.Error.{Error}
use Rattle.codec_calls.specs.declared.call.CallData.{CallData}
use Rattle.nizwarf_codec.specs.Kept.{Holds, HoldsAnswer, TellsOrNot, put_of}
use Rattle.nizwarf_codec.specs.Rooms.{HasRoomFor}
use Rattle.nizwarf_codec.specs.Shown.{AreFirst, bytes_shown, first_shown, part_shown}
use Rattle.nizwarf_codec.specs.declared.memory.Memory.{Memory}
use Rattle.nizwarf_codec.specs.declared.memory.Part.{Part}

-- a writer keeps what it had passed
pub record Keeps (old new : Written) : Type 0 where
  pub room_after : List ℕ
  pub leaves : Leaves old room_after new

pub same_keeps : (old new : Written) → new ≡ old → Keeps old new
same_keeps old new e = rw e (record {
  room_after = old.left;
  leaves = record { kept = refl; same_length = refl; same_segments = refl };
})

-- also where a reply came back through it
pub replied_keeps : (reply : Reply) (old new : Written) (outcome : Result ℕ Error)
    → Replies reply old outcome new → Keeps old new
replied_keeps (Refusal error) old new outcome h = same_keeps old new h.1
replied_keeps NoReply old new outcome h = same_keeps old new h.1
replied_keeps (Bytes reply) old new outcome h =
    record { room_after = h.room_after; leaves = h.leaves }
replied_keeps (OpenAfter reply) old new outcome h =
    record { room_after = h.room_after; leaves = h.leaves }

-- what holds with more room after a writer's own holds of that alone
pub shorter : (old new : Written) (following : List ℕ) → Keeps (with_after old following) (with_after new following)
    → Keeps old new
shorter old new following k =
    let n = length old.left in
    let all : whole new ++ following ≡ old.passed ++ k.room_after =
    append_assoc new.passed new.left following ∙ k.leaves.kept in
    let e1 = sym (length-append (whole new) following) ∙ ap length all
    ∙ length-append old.passed k.room_after in
    let e2 : length k.room_after ≡ n + length following =
    k.leaves.same_length ∙ length-append old.left following in
    let long : length (whole new) ≡ length old.passed + n = omega (arith, e1, e2) in
    let enough : n ≤ length k.room_after = omega (arith, e2) in
    record {
      room_after = take n k.room_after;
      leaves = record {
        kept =
            sym (take_at (whole new) following (length old.passed + n) long)
            ∙ ap (take (length old.passed + n)) all
            ∙ take-append-add old.passed k.room_after n;
        same_length = length-take-le n k.room_after enough;
        same_segments = k.leaves.same_segments;
      };
    }

one_segment : (lengths bytes : List ℕ) (start shown : ℕ) → length lengths ≡ 1
    → first_shown lengths bytes start shown ≡ take shown (drop start bytes)
one_segment (n ∷ []) bytes start shown one = refl
one_segment [] bytes start shown one = absurd (let e = one in cc)
one_segment (n ∷ m ∷ lengths) bytes start shown one = absurd (omega (arith, one))

-- the first bytes of the room that came back
pub are_first : (count start : ℕ) (before after : Written) → Keeps before after
    → start ≡ length before.passed → length before.lengths ≡ 1
    → AreFirst count before after (first_shown after.lengths (whole after) start count)
are_first count start before after keeps at one =
    let same : length after.lengths ≡ 1 = ap length keeps.leaves.same_segments ∙ one in
    let following : drop start (whole after) ≡ keeps.room_after =
    ap (drop start) keeps.leaves.kept ∙ drop_at before.passed keeps.room_after start (sym at) in
    record {
      room = keeps.room_after;
      kept = keeps.leaves.kept;
      first = one_segment after.lengths (whole after) start count same ∙ ap (take count) following;
    }

-- nothing is shown of no byte
pub none_shown : (lengths bytes : List ℕ) (start : ℕ) → first_shown lengths bytes start 0 ≡ []
none_shown [] bytes start = refl
none_shown (n ∷ []) bytes start = refl
none_shown (n ∷ m ∷ lengths) bytes start = refl

pub nothing_shown : (m : Memory) → m.shown ≡ 0 → bytes_shown m ≡ []
nothing_shown m none =
    let p : Part = if m.was_asked then m.asked else m.answers in
    ap (part_shown p) none ∙ none_shown p.writer.lengths (whole p.writer) p.start

-- a part whose writer keeps what it had passed has as much room as before
pub keeps_room : (n : ℕ) (old new : Part) → Keeps old.writer new.writer → HasRoomFor n old → HasRoomFor n new
keeps_room n old new keeps has =
    let k = keeps.leaves in
    let long : length (whole new.writer) ≡ length (whole old.writer) =
    ap length k.kept ∙ length-append old.writer.passed keeps.room_after
    ∙ ap (λ (m : ℕ). length old.writer.passed + m) k.same_length
    ∙ sym (length-append old.writer.passed old.writer.left) in
    (ap length k.same_segments ∙ has.0, omega (arith, long, has.1))

-- what a slot holds stays where its memory is taken out, keeps its room and is put back
pub held_on : (n : ℕ) (old new : Option Memory) (taken now : Memory) → ((m : Memory) → old ≡ Some m → taken ≡ m)
    → new ≡ Some now → (HasRoomFor n taken.answers → HasRoomFor n now.answers) → Holds n old → Holds n new
held_on n old new taken now same put keeps h =
    record {
      memory = now;
      is = put;
      has = keeps (subst (λ (m : Memory). HasRoomFor n m.answers) (sym (same h.memory h.is)) h.has);
    }

abbrev memory_in : Memory → Option Memory → Memory
memory_in other (Some m) = m
memory_in other None = other

-- a slot has one memory
pub one_memory : (slot : Option Memory) (taken : Memory) → slot ≡ Some taken → (m : Memory) → slot ≡ Some m → taken ≡ m
one_memory slot taken is m was = ap (memory_in taken) (sym is ∙ was)

-- what was told of the memory that was put back was told of the slot
pub told_on : (code other : ℤ) (call call_after : CallData) (now : Memory) (slot : Option Memory) → other ≡ code
    → slot ≡ Some now → TellsOrNot code call call_after (HasRoomFor (put_of call call.room) now.answers)
    → TellsOrNot other call call_after (HoldsAnswer call slot)
told_on code other call call_after now slot same put (inl t) =
    inl (same ∙ t.0, t.1, record { memory = now; is = put; has = t.2 })
told_on code other call call_after now slot same put (inr n) = inr (same ∙ n.0, n.1)
