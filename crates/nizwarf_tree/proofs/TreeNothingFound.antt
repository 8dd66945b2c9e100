-- A LOOKUP of a name in a new tree, and what is copied out of its reply.
use Rattle.std.proofs.Common.{◌≡◌, ◌∙◌, ℕ, ℤ, pos, List, [], ◌∷◌, ◌++◌, length, take, drop, min, Option, Some, None, IfSome, MatchOption, Result, Ok, refl, ap, sym, subst, inl, inr, arith}
use Rattle.std.proofs.lemmas.List.{drop_all}
use Rattle.vfs_flags.specs.Numbers.{opcode_of}
use Rattle.vfs_wire.specs.Fields.{little, number, value_of}
use Rattle.vfs_wire.specs.Records.{in_header}
use Rattle.vfs_files.specs.Calls.{Call, Lookup, Answer, Failed, Entries, Plain}
use Rattle.vfs_files.specs.Values.{context_of}
use Rattle.vfs_files.specs.Runs.{Event, IsRun}
use Rattle.vfs_grammar.specs.Ask.{ask}
use Rattle.vfs_grammar.specs.Forms.{Asks, WithMemory}
use Rattle.vfs_grammar.specs.Reply.{Echo, echo_of, reply_of}
use Rattle.vfs_grammar.specs.Room.{IsReplied}
use Rattle.vfs_grammar.specs.Samples.{lookup_of_a}
use Rattle.vfs_grammar.specs.Turn.{Turn, Follows}
use Rattle.vfs_grammar.specs.declared.error.Error.{Error}
use Rattle.vfs_grammar.specs.declared.limits.Limits.{Limits}
use Rattle.vfs_server.specs.Step.{ServerState}
use Rattle.laws_history.specs.History.{Handled, IsHistory, IsHandled}
use Rattle.codec_decode.specs.Further.{What, Ordinary}
use Rattle.c_rooms.specs.Codes.{ok, outcome_code, shown_of}
use Rattle.nizwarf_tree.specs.Files.{State, Allows, Gives, new_state, at_time}
use Rattle.nizwarf_tree.specs.History.{Turned, Answered, AnsweredAs, HandlesTwo}
use Rattle.nizwarf_tree.specs.Offered.{what_asked}
use Rattle.c_rooms.specs.Parts.{part_from}
use Rattle.nizwarf_tree.specs.Served.{new_server, told_time}
use Rattle.nizwarf_tree.specs.TreeUses.{no_such_name}
use Rattle.nizwarf_tree.specs.declared.settings.Settings.{Settings}
use Rattle.nizwarf_tree.proofs.Calling.{answered_as}

abbrev limits : Limits
limits = record { page_size = 4096; max_buffer = 1048576 }

abbrev echo : Echo
echo = echo_of (value_of in_header lookup_of_a)

abbrev lookup : Call
lookup = Lookup (context_of (value_of in_header lookup_of_a)) 1 (0x61 ∷ [])

asks : (space : ℕ) → ask limits 0 space lookup_of_a ≡ WithMemory (Asks echo lookup)
unfolding number little opcode_of
asks space = refl

-- no row
no_row : what_asked limits lookup_of_a ≡ Ordinary
unfolding number little
no_row = refl

pub turn_of : (old new : ServerState State) (q : List ℕ) (code : ℤ) (len : ℕ) (room : List ℕ) (shown : ℕ)
    → old.limits ≡ limits → q ≡ lookup_of_a → Answered old q 4096 code len room shown new → code ≡ ok
    → Turned old lookup_of_a 4096 code len room shown new
turn_of old new q code len room shown same is x fine =
    let asks : what_asked old.limits q ≡ Ordinary =
    ap (λ (l : Limits). what_asked l q) same ∙ ap (what_asked limits) is ∙ no_row in
    let turn : Turned old q 4096 code len room shown new =
    subst (λ (w : What). AnsweredAs w old q 4096 code len room shown new) asks
    (answered_as old q 4096 code len room shown new x fine) in
    subst (λ (r : List ℕ). Turned old r 4096 code len room shown new) is turn

-- a new tree has no such name
refused : (settings : Settings) (answer : Answer) (new : State)
    → Allows (at_time (new_state settings) 1 0) lookup (Plain answer) new → answer ≡ Failed (Some 2)
unfolding number little
refused settings answer new allowed = cc (allowed.0)

-- the bytes of the reply
reply_is : (after : ℕ) (room : List ℕ) (outcome : Result ℕ Error) (room_after : List ℕ)
    → length room ≡ 4096
    → IsReplied (reply_of limits echo after Entries (Failed (Some 2))) room outcome room_after
    → (outcome ≡ Ok 16) × (take 16 room_after ≡ no_such_name)
unfolding number little
reply_is after room outcome room_after long is =
    (is.says ∙ rw long refl, ap (take 16) is.leaves ∙ rw long refl)

turn_is : (settings : Settings) (t : Turn) (after : ℕ) (new : State)
    → IsRun Allows Gives None (at_time (new_state settings) 1 0) t.events new
    → length t.room ≡ 4096 → outcome_code t.outcome ≡ ok
    → Follows t limits 0 (WithMemory (Asks echo lookup)) after
    → (t.outcome ≡ Ok 16) × (take 16 t.room_after ≡ no_such_name)
turn_is settings t after new is long answered (inl f) =
    let run = subst (λ (es : List Event). IsRun Allows Gives None (at_time (new_state settings) 1 0) es new) f.1 is in
    let failed = refused settings f.0 run.0 run.1 in
    reply_is after t.room t.outcome t.room_after long
    (subst (λ (a : Answer). IsReplied (reply_of limits echo after Entries a) t.room t.outcome t.room_after)
    failed f.3)
turn_is settings t after new is long answered (inr f) =
    absurd (let no : outcome_code t.outcome ≡ pos 10 = ap outcome_code f.1.0 in cc)

-- a message that was answered
looked_up : (settings : Settings) (old new : ServerState State) (code : ℤ) (len : ℕ)
    (room : List ℕ) (shown : ℕ)
    → old ≡ record { options = 0; limits = limits; fs = at_time (new_state settings) 1 0 }
    → Turned old lookup_of_a 4096 code len room shown new → code ≡ ok
    → (shown ≡ 16) × (take 16 room ≡ no_such_name)
looked_up settings old new code len room shown is t answered =
    let first : ServerState State =
    record { options = 0; limits = limits; fs = at_time (new_state settings) 1 0 } in
    let h : IsHistory Allows Gives old (Handled t.t ∷ []) new = t.extends old [] refl in
    let handled : IsHandled Allows Gives first t.t h.0 =
    subst (λ (s : ServerState State). IsHandled Allows Gives s t.t h.0) is h.1 in
    let asked : Follows t.t limits 0 (WithMemory (Asks echo lookup)) h.0.options =
    subst (λ a. Follows t.t limits 0 a h.0.options)
    (ap (λ (q : List ℕ). ask limits 0 (length t.t.room) q) t.asked ∙ asks (length t.t.room)) handled.turn in
    let r = turn_is settings t.t h.0.options h.0.fs handled.is_run t.space
    (sym t.numbered ∙ answered) asked in (
      t.copied ∙ ap (λ (o : Result ℕ Error). shown_of o 4096) r.0,
      ap (take 16) t.left ∙ r.1,
    )

-- what is copied over sixteen bytes
copied_out : (room piece after : List ℕ) (shown count : ℕ) → shown ≡ 16
    → take 16 room ≡ no_such_name → length piece ≡ 16
    → count ≡ min (length (part_from 0 room shown)) (length piece)
    → after ≡ take count (part_from 0 room shown) ++ drop count piece → after ≡ no_such_name
copied_out room piece after shown count is16 bytes long counted is =
    let part : take shown room ≡ no_such_name = ap (λ (n : ℕ). take n room) is16 ∙ bytes in
    let all : count ≡ 16 = counted ∙ rw (part, long) refl in
    let rest : drop 16 piece ≡ [] = drop_all 16 piece (omega (arith, long)) in
    is ∙ rw (all, part, rest) refl

module _ {A : Type 0} (server : A → ServerState State) (left : A → List ℕ) (shown : A → ℕ) where
  -- a handle's server was told the time
  pub told_server : (told : A → A) → ((s : A) → server (told s) ≡ told_time (server s) 1 0)
      → (code : ℤ) (a b : Option A) → IfSome a (λ s. (code ≡ ok) × (b ≡ Some (told s)))
      → IfSome a (λ s. MatchOption b ⊥ (λ t. server t ≡ told_time (server s) 1 0))
  told_server told tells code None b is = tt
  told_server told tells code (Some s) b is =
      subst (λ (o : Option A). MatchOption o ⊥ (λ t. server t ≡ told_time (server s) 1 0))
      (sym is.1) (tells s)

  -- what a new server left that was told the time, and asked for the name
  pub nothing_left : (settings : Settings) (request : List ℕ) (code : ℤ) (len : ℕ) (a b c : Option A)
      → MatchOption a ⊥ (λ s. (server s ≡ new_server 4096 1048576 settings) × (shown s ≡ 0))
      → IfSome a (λ s. MatchOption b ⊥ (λ t. server t ≡ told_time (server s) 1 0))
      → IfSome b (λ s. MatchOption c ⊥ (λ t.
      Answered (server s) request 4096 code len (left t) (shown t) (server t)))
      → code ≡ ok → request ≡ lookup_of_a
      → MatchOption c ⊥ (λ u. (shown u ≡ 16) × (take 16 (left u) ≡ no_such_name))
  nothing_left settings q code len None b c made one x is asked = absurd made
  nothing_left settings q code len (Some s) None c made one x is asked = absurd one
  nothing_left settings q code len (Some s) (Some t) None made one x is asked = absurd x
  nothing_left settings q code len (Some s) (Some t) (Some u) made one x is asked =
      let first = one ∙ ap (λ (z : ServerState State). told_time z 1 0) made.0 in
      looked_up settings (server t) (server u) code len (left u) (shown u) first
      (turn_of (server t) (server u) q code len (left u) (shown u) (ap (λ (z : ServerState State). z.limits) first)
      asked x is) is

  -- what is copied out of it
  pub nothing_found : (count : ℕ) (piece after : List ℕ) (c : Option A)
      → MatchOption c ⊥ (λ u. (shown u ≡ 16) × (take 16 (left u) ≡ no_such_name))
      → length piece ≡ 16
      → IfSome c (λ s. count ≡ min (length (part_from 0 (left s) (shown s))) (length piece))
      → IfSome c (λ s. after ≡ take count (part_from 0 (left s) (shown s)) ++ drop count piece)
      → after ≡ no_such_name
  nothing_found count piece after None r long counted copied = absurd r
  nothing_found count piece after (Some u) r long counted copied =
      copied_out (left u) piece after (shown u) count r.0 r.1 long counted copied

  -- the state after a handle that has handled two messages
  pub last_of : (first : ServerState State) (q1 q2 one two : List ℕ) (e : Option A)
      → q1 ≡ one → q2 ≡ two → MatchOption e ⊥ (λ t. HandlesTwo first q1 q2 (server t))
      → (last : ServerState State) × HandlesTwo first one two last
  last_of first q1 q2 one two None is1 is2 h = absurd h
  last_of first q1 q2 one two (Some t) is1 is2 h = (
    server t,
    subst (λ (q : List ℕ). HandlesTwo first q two (server t)) is1
        (subst (λ (q : List ℕ). HandlesTwo first q1 q (server t)) is2 h),
  )
