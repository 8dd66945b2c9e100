use Rattle.std.proofs.Common.{◌≡◌, ◌<◌, ℕ, List, [], ◌∷◌, length, take, None, ap, sym, subst, ◌∙◌, inl, inr, refl, arith, pos}
use Rattle.vfs_flags.specs.Numbers.{opcode_of}
use Rattle.vfs_wire.specs.Fields.{number, little}
use Rattle.vfs_files.specs.Calls.{Call, Lookup, Read, Answer, Entries, Found}
use Rattle.vfs_files.specs.Runs.{Event, Called}
use Rattle.vfs_files.specs.declared.entry.Context.{Context}
use Rattle.vfs_grammar.specs.Ask.{ask}
use Rattle.vfs_grammar.specs.Forms.{Ask, Asks, WithMemory}
use Rattle.vfs_grammar.specs.Words.{refused, reply_to}
use Rattle.vfs_grammar.specs.Books.{opcode_in}
use Rattle.laws_turns.specs.Turns.{CarriesData, cut_turn_tells, CutsOff}
use Rattle.vfs_grammar.specs.Limits.{default_limits}
use Rattle.vfs_grammar.specs.Reply.{Reply, Echo, Bytes}
use Rattle.vfs_grammar.specs.Turn.{Turn}
use Rattle.vfs_grammar.specs.Witnesses.{FollowsFor}
use Rattle.vfs_grammar.specs.Samples.{request_for_data, node_5, node_5_reply}
use Rattle.vfs_grammar.specs.declared.error.Error.TheVariants.{EncodeMessage}
use Rattle.laws_turns.proofs.uses.turns.rooms_that_are_too_small.Goals as goal

abbrev nobody : Context
nobody = record { uid = 0; gid = 0; pid = pos 0 }

abbrev echo : Echo
echo = record { unique = 9; max_readahead = 0; ctx = nobody }

found_so : reply_to 9 Entries (Found node_5) ≡ Bytes node_5_reply
unfolding number little
found_so = refl

looked_up : (options : ℕ) (after : ℕ) (call : Call) (back : List Event) (t : Turn) → t.events ≡ Called call (Found node_5) ∷ back
    → FollowsFor (cut_turn_tells t) (default_limits 4096) options (WithMemory (Asks echo (Lookup nobody 1 (0x61 ∷ [])))) after
    → (length t.room < 144) × (t.room_after ≡ take (length t.room) node_5_reply)
looked_up options after call back t e (inl f) =
    let a = sym f.1 ∙ e in
    let same : f.0 ≡ Found node_5 = cc in
    let cut : CutsOff (reply_to 9 Entries (Found node_5)) t.room t.room_after = subst (λ (x : Answer). CutsOff (reply_to 9 Entries x) t.room t.room_after) same f.3 in
    let found : CutsOff (Bytes node_5_reply) t.room t.room_after = subst (λ (reply : Reply). CutsOff reply t.room t.room_after) found_so cut in
    (found.longer, found.holds)
looked_up options after call back t e (inr f) = absurd f.1

pub returns-clause-lookup : goal.returns-clause-lookup
unfolding number opcode_of
returns-clause-lookup c = λ options after call back t turn is e o.
    elim (c.unfit_replies_are_cut_off.ensures (default_limits 4096) options after t turn o) as (λ x. (length t.room < 144) × (t.room_after ≡ take (length t.room) node_5_reply)) [
      | inl f ↦ looked_up options after call back t e (subst (λ (r : List ℕ). FollowsFor (cut_turn_tells t) (default_limits 4096) options (ask (default_limits 4096) options (length t.room) r) after) is f)
      | inr lacks ↦ absurd (subst (λ (r : List ℕ). CarriesData (opcode_in r)) is lacks.carries)
    ]

-- what a READ of three bytes asks, where there is this room
asked : (options room : ℕ) (a : Ask) → ask (default_limits 4096) options room (request_for_data 15 3) ≡ a
    → (after : ℕ) (t : Turn) → t.request ≡ request_for_data 15 3 → length t.room ≡ room
    → FollowsFor (cut_turn_tells t) (default_limits 4096) options (ask (default_limits 4096) options (length t.room) t.request) after
    → FollowsFor (cut_turn_tells t) (default_limits 4096) options a after
asked options room a so after t is size f =
    let same : ask (default_limits 4096) options (length t.room) t.request ≡ a =
    ap (λ (n : ℕ). ask (default_limits 4096) options n t.request) size ∙ ap (ask (default_limits 4096) options room) is ∙ so in
    subst (λ (x : Ask). FollowsFor (cut_turn_tells t) (default_limits 4096) options x after) same f

pub returns-clause-read : goal.returns-clause-read
unfolding number opcode_of
returns-clause-read c = λ options after t turn is size o.
    elim (c.unfit_replies_are_cut_off.ensures (default_limits 4096) options after t turn o) as (λ x. (t.events ≡ []) × (t.room_after ≡ t.room) × (after ≡ options)) [
      | inl f ↦ absurd ((asked options 8 (refused EncodeMessage) refl after t is size f).1)
      | inr lacks ↦ (lacks.no_call, lacks.same_room, lacks.same_options)
    ]

pub returns-clause-enough : goal.returns-clause-enough
unfolding number opcode_of
returns-clause-enough c = λ options after t turn is size o.
    elim (c.unfit_replies_are_cut_off.ensures (default_limits 4096) options after t turn o) as (λ x. ⊥) [
      | inl f ↦ (let g = asked options 20 (Asks echo (Read nobody 1 0 4 3 0 None 0)) refl after t is size f in g.3)
      | inr lacks ↦ absurd (let small = lacks.small in omega arith)
    ]
