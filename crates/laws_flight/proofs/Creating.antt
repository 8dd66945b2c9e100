-- A request whose opcode is CREATE's asks for a CREATE.
use Rattle.std.proofs.Common.{◌≡◌, ◌∙◌, ℕ, List, length, drop, nat_lt, Option, Some, Result, Ok, Err, refl, ap, sym, subst, inl, inr, arith}
use Rattle.std.specs.Prelude.{⊤}
use Rattle.vfs_flags.specs.Numbers.{opcode_of}
use Rattle.vfs_flags.specs.declared.opcode.Opcode.{Opcode}
use Rattle.vfs_flags.specs.declared.opcode.Opcode.TheVariants as opcode
use Rattle.vfs_wire.specs.Records.{in_header}
use Rattle.vfs_wire.specs.declared.headers.InHeader.{InHeader}
use Rattle.vfs_segments.specs.Written.{Written}
use Rattle.vfs_grammar.specs.Ask.{ask, ask_number, form_of}
use Rattle.vfs_grammar.specs.Words.{ask_header}
use Rattle.vfs_grammar.specs.Forms.{Ask, Ends, Asks, Lists, WithMemory, refused_or}
use Rattle.vfs_grammar.specs.Limits.{max_len}
use Rattle.vfs_grammar.specs.Records.{record_of, size_of}
use Rattle.vfs_grammar.specs.declared.error.Error.{Error}
use Rattle.vfs_grammar.specs.declared.limits.Limits.{Limits}
use Rattle.vfs_files.specs.Calls.{Creations, Kind}
use Rattle.codec_calls.specs.Shapes.{shape_of}
use Rattle.codec_calls.specs.declared.call.CallData.{CallData}
use Rattle.codec_calls.specs.declared.call.kind.TheConstants as kind
use Rattle.codec_calls.specs.declared.call.number.TheConstants as number
use Rattle.codec_calls.specs.declared.data.AnswerData.{AnswerData}
use Rattle.codec_calls.specs.declared.data.ItemData.{ItemData}
use Rattle.codec_encode.specs.Answering.{Answers}
use Rattle.codec_encode.specs.Kinds.{kind_told}
use Rattle.codec_encode.specs.declared.answered.Answered.{Answered}
use Rattle.codec_decode.specs.Asked.{IsAsked, Tells}
use Rattle.codec_decode.specs.declared.asked.Asked.TheVariants as asked
use Rattle.codec_decode.proofs.WithOpcode.{opcode_is}
use Rattle.laws_flight.specs.OneOfferedTurn.{named_tmpfile}
use Rattle.laws_flight.specs.OfferedTurns.{as_create}
use Rattle.laws_turns.proofs.Table.{form_shown, limit_shown}

-- a call that is asked for has an answer of a CREATE's kind
abbrev pub AsksCreate : Ask → Type 0
AsksCreate (Ends reply) = Unit {0}
AsksCreate (Asks echo call) = (shape_of call).answer ≡ kind.CREATE
AsksCreate (Lists echo l) = ⊥
AsksCreate (WithMemory rest) = AsksCreate rest

create_is : opcode_of 35 ≡ Some opcode.Create
unfolding opcode_of
create_is = refl

module _ (limits : Limits) (options space : ℕ) where
  by_header : (h : InHeader) (rest : List ℕ) → h.opcode ≡ 35 → AsksCreate (ask_header limits options space h rest)
  by_header h rest is =
      let o : opcode_of h.opcode ≡ Some opcode.Create = ap opcode_of is ∙ create_is in
      limit_shown AsksCreate h rest (λ e. tt) (λ number low high. tt) (λ a p. p) (nat_lt (max_len limits) h.len) _
      (subst (λ (o : Option Opcode). AsksCreate (ask_number limits options space o h rest)) (sym o)
      (form_shown AsksCreate h rest (λ e. tt) (λ number low high. tt) (λ a p. p)
      (form_of limits options space h opcode.Create) (λ x is. refl)))

  by_read : (r : Result InHeader Error) (rest : List ℕ) → ((h : InHeader) → r ≡ Ok h → h.opcode ≡ 35)
      → AsksCreate (refused_or r (λ h. ask_header limits options space h rest))
  by_read (Err error) rest is = tt
  by_read (Ok h) rest is = by_header h rest (is h refl)

  -- it asks for none but that
  pub asks_create : (request : List ℕ) → ((h : InHeader) → record_of in_header request ≡ Ok h → h.opcode ≡ 35)
      → AsksCreate (ask limits options space request)
  asks_create request is = by_read (record_of in_header request) (drop (size_of in_header) request) is

-- the call that is told of it has such an answer
told_so : (q : List ℕ) (options interrupts room : ℕ) (writer after : Written) (told : CallData) (a : Ask) → AsksCreate a
    → Tells ⊤ q options interrupts room a writer asked.Call after told → told.answer ≡ kind.CREATE
told_so q o n room writer after told (Ends reply) is t = absurd t
told_so q o n room writer after told (Asks echo call) is t = ap (λ (c : CallData). c.answer) t.1.numbers ∙ is
told_so q o n room writer after told (Lists echo l) is t = absurd is
told_so q o n room writer after told (WithMemory rest) is (inl t) = told_so q o n room writer after told rest is t
told_so q o n room writer after told (WithMemory rest) is (inr t) = absurd t.1

pub told_created : (limits : Limits) (options : ℕ) (request : List ℕ) (writer after : Written) (told : CallData)
    → IsAsked limits options (as_create request) writer asked.Call after told → told.answer ≡ kind.CREATE
told_created limits options request writer after told is =
    told_so _ _ _ _ writer after told (ask limits options (length writer.left) (as_create request))
    (asks_create limits options (length writer.left) (as_create request)
    (λ h read. opcode_is number.CREATE (omega arith) request h read)) is

-- what comes of the answer to it under another number comes of the answer to it
pub renamed : (limits : Limits) (created : CallData) (a : AnswerData) (text : List ℕ) (items : List ItemData)
    (old : Written) (came : Answered) (new : Written) → created.answer ≡ kind.CREATE
    → Answers limits (kind_told created.answer created.size) (named_tmpfile created) a text items old (Some came) new
    → Answers limits (kind_told created.answer created.size) created a text items old (Some came) new
renamed limits created a text items old came new is x =
    let k : kind_told created.answer created.size ≡ Some Creations = ap (λ (n : ℕ). kind_told n created.size) is in
    let y : Answers limits (Some Creations) (named_tmpfile created) a text items old (Some came) new =
    subst (λ (k : Option Kind). Answers limits k (named_tmpfile created) a text items old (Some came) new) k x in
    let z : Answers limits (Some Creations) created a text items old (Some came) new = (
      y.0,
      λ following long.
          let w = y.1 following long in record { answer = w.answer; said = w.said; comes = w.comes; kept = w.kept },
    ) in
    subst (λ (k : Option Kind). Answers limits k created a text items old (Some came) new) (sym k) z
