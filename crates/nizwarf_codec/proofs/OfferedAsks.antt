-- What is told of a request by both tables, from what the further one says of it.
use Rattle.std.proofs.Common.{◌≡◌, ◌≢◌, ◌≤◌, ◌^◌, ◌++◌, ◌==◌, ◌&&◌, ◌∙◌, ℕ, ℤ, Bool, true, false, List, [], ◌∷◌, length, take, drop, nat_lt, if◌then◌else◌, Option, Result, Ok, Err, refl, ap, sym, subst, inl, inr, arith, length-append}
use Rattle.std.proofs.Math.Seq.{take-append_seam}
use Rattle.std.specs.Borrow.{Bor}
use Rattle.std.specs.Ordering.{int_eq}
use Rattle.std.proofs.lemmas.Bool.Decides.{nat_tests}
use Rattle.vfs_wire.specs.FieldLaws.{value_of-take}
use Rattle.vfs_wire.specs.Fields.{value_of}
use Rattle.vfs_wire.specs.Records.{in_header}
use Rattle.vfs_wire.specs.declared.headers.InHeader.{InHeader}
use Rattle.vfs_segments.specs.Lengths.{lengths_from}
use Rattle.vfs_segments.specs.Segments.{flat_bytes, segments_of}
use Rattle.vfs_segments.specs.Unread.{Unread}
use Rattle.vfs_grammar.specs.Ask.{ask}
use Rattle.vfs_grammar.specs.Limits.{max_len}
use Rattle.vfs_grammar.specs.Memory.{header_of}
use Rattle.vfs_grammar.specs.Records.{record_of}
use Rattle.vfs_grammar.specs.declared.error.Error.{Error}
use Rattle.vfs_grammar.specs.declared.error.Error.TheVariants.{DecodeMessage}
use Rattle.vfs_grammar.specs.declared.limits.Limits.{Limits}
use Rattle.codec_calls.specs.Shapes.{nothing}
use Rattle.codec_calls.specs.declared.call.CallData.{CallData}
use Rattle.codec_calls.specs.declared.call.number.TheConstants.{CREATE}
use Rattle.codec_calls.specs.declared.call.number.TheConstants as number
use Rattle.codec_decode.specs.AtOnce.{IsAskedMost}
use Rattle.codec_decode.specs.Memory.{MayWant}
use Rattle.codec_decode.specs.WithOpcode.{unread_with_opcode}
use Rattle.codec_decode.proofs.WithOpcode.{same_length}
use Rattle.laws_flight.specs.OneOfferedTurn.{named_tmpfile}
use Rattle.laws_flight.specs.OfferedTurns.{as_create}
use Rattle.codec_decode.specs.Further.{What, Ordinary, Short, Row, Unnamed, Tells, row_of, told_under, what_after, what_of}
use Rattle.codec_decode.specs.declared.row.Further.{Further}
use Rattle.codec_decode.specs.declared.row.Further.TheVariants as further
use Rattle.c_rooms.specs.Codes.{is_asked, no_memory, outcome_code}
use Rattle.nizwarf_codec.specs.Asking.{AsksOrNot, finished}
use Rattle.nizwarf_codec.specs.Checking.{Checks, IsWhole}
use Rattle.nizwarf_codec.specs.Clauses.{AsksInSession, AsksWithoutMemory, what_in}
use Rattle.nizwarf_codec.specs.Further.{AsksOffered, ChecksOffered, HoldsOffered, MayWantOffered, bytes_as, named}
use Rattle.nizwarf_codec.specs.Kept.{HoldsAnswer, HoldsFor, TellsOrNot, put_of}
use Rattle.nizwarf_codec.specs.Rooms.{HasRoomFor}
use Rattle.nizwarf_codec.specs.Session.{limits_of}
use Rattle.nizwarf_codec.specs.Turns.{IsAskedOrNot}
use Rattle.nizwarf_codec.specs.declared.data.SessionData.{SessionData}
use Rattle.nizwarf_codec.specs.declared.data.ToldData.{ToldData}
use Rattle.nizwarf_codec.specs.declared.memory.Memory.{Memory}
use Rattle.nizwarf_codec.specs.declared.memory.Part.{Part}
use Rattle.nizwarf_codec.proofs.Turns.{asked_or_not}

module _ (limits : Limits) (options : ℕ) (q : List ℕ) (room : ℕ) (old mid : CallData) (result : Further) where
  -- what was told of a request by the further table
  abbrev Told : What → Type 0
  Told what = Tells what (told_under options room) result old mid

  module _ (code : ℤ) (call_after : CallData) (told told_after : ToldData) (shown : List ℕ) where
    pub ordinary : (what : What) → result ≡ further.Ordinary → Told what
        → AsksOrNot limits options q room code call_after told told_after shown
        → AsksOffered limits options q room what code call_after told told_after shown
    ordinary Ordinary is t asks = asks
    ordinary Short is t asks = absurd (let e = sym t.0 ∙ is in cc)
    ordinary (Row row) is t asks = absurd (let e = sym t.0 ∙ is in cc)
    ordinary Unnamed is t asks = absurd (let e = sym t.0 ∙ is in cc)

    pub short : (what : What) → result ≡ further.Short → Told what
        → code ≡ outcome_code (Err DecodeMessage) → call_after ≡ nothing
        → told_after ≡ finished (Err DecodeMessage) 0 told → shown ≡ []
        → AsksOffered limits options q room what code call_after told told_after shown
    short Short is t code_is call_is told_is none = (code_is, call_is, told_is, none)
    short Ordinary is t code_is call_is told_is none = absurd (let e = sym t.0 ∙ is in cc)
    short (Row row) is t code_is call_is told_is none = absurd (let e = sym t.0 ∙ is in cc)
    short Unnamed is t code_is call_is told_is none = absurd (let e = sym t.0 ∙ is in cc)

    pub unnamed : (what : What) → result ≡ further.Unnamed → Told what
        → AsksOffered limits options q room Unnamed code call_after told told_after shown
        → AsksOffered limits options q room what code call_after told told_after shown
    unnamed Unnamed is t asks = asks
    unnamed Ordinary is t asks = absurd (let e = sym t.0 ∙ is in cc)
    unnamed Short is t asks = absurd (let e = sym t.0 ∙ is in cc)
    unnamed (Row row) is t asks = absurd (let e = sym t.0 ∙ is in cc)

  pub row_told : (told : ToldData) (shown : List ℕ) (code : ℤ) (call_after : CallData) (kept : Type 0) (what : What)
      → result ≡ further.Row → Told what → shown ≡ [] → TellsOrNot code mid call_after kept
      → AsksOffered limits options q room what code call_after told told shown
  row_told told shown code call_after kept (Row row) is t none (inl h) = (inl (h.0, h.1 ∙ t.1, tt), refl, none)
  row_told told shown code call_after kept (Row row) is t none (inr h) = (inr h, refl, none)
  row_told told shown code call_after kept Ordinary is t none h = absurd (let e = sym t.0 ∙ is in cc)
  row_told told shown code call_after kept Short is t none h = absurd (let e = sym t.0 ∙ is in cc)
  row_told told shown code call_after kept Unnamed is t none h = absurd (let e = sym t.0 ∙ is in cc)

  -- which memory a slot has
  pub ordinary_holds : (slot : Option Memory) (what : What) → result ≡ further.Ordinary → Told what
      → HoldsOffered limits options q room what slot → HoldsFor room (ask limits options room q) slot
  ordinary_holds slot Ordinary is t has = has
  ordinary_holds slot Short is t has = absurd (let e = sym t.0 ∙ is in cc)
  ordinary_holds slot (Row row) is t has = absurd (let e = sym t.0 ∙ is in cc)
  ordinary_holds slot Unnamed is t has = absurd (let e = sym t.0 ∙ is in cc)

  pub row_holds : (slot : Option Memory) (what : What) → result ≡ further.Row → Told what
      → HoldsOffered limits options q room what slot → HoldsAnswer mid slot
  row_holds slot (Row row) is t has = subst (λ (c : CallData). HoldsAnswer c slot) (sym t.1) has
  row_holds slot Ordinary is t has = absurd (let e = sym t.0 ∙ is in cc)
  row_holds slot Short is t has = absurd (let e = sym t.0 ∙ is in cc)
  row_holds slot Unnamed is t has = absurd (let e = sym t.0 ∙ is in cc)

  pub unnamed_holds : (slot : Option Memory) (what : What) → result ≡ further.Unnamed → Told what
      → HoldsOffered limits options q room what slot → HoldsOffered limits options q room Unnamed slot
  unnamed_holds slot Unnamed is t has = has
  unnamed_holds slot Ordinary is t has = absurd (let e = sym t.0 ∙ is in cc)
  unnamed_holds slot Short is t has = absurd (let e = sym t.0 ∙ is in cc)
  unnamed_holds slot (Row row) is t has = absurd (let e = sym t.0 ∙ is in cc)

  -- where memory may be wanted
  pub ordinary_wants : (u : Unread) (what : What) → result ≡ further.Ordinary → Told what
      → ¬ (MayWantOffered limits options room u what) → ¬ (MayWant limits options room u)
  ordinary_wants u Ordinary is t none = none
  ordinary_wants u Short is t none = absurd (let e = sym t.0 ∙ is in cc)
  ordinary_wants u (Row row) is t none = absurd (let e = sym t.0 ∙ is in cc)
  ordinary_wants u Unnamed is t none = absurd (let e = sym t.0 ∙ is in cc)

  pub unnamed_wants : (u : Unread) (what : What) → result ≡ further.Unnamed → Told what
      → ¬ (MayWantOffered limits options room u what) → ¬ (MayWantOffered limits options room u Unnamed)
  unnamed_wants u Unnamed is t none = none
  unnamed_wants u Ordinary is t none = absurd (let e = sym t.0 ∙ is in cc)
  unnamed_wants u Short is t none = absurd (let e = sym t.0 ∙ is in cc)
  unnamed_wants u (Row row) is t none = absurd (let e = sym t.0 ∙ is in cc)

  -- ---- without a reply

  pub checks_ordinary : (code : ℤ) (call_after : CallData) (interrupts : ℕ) (what : What) → result ≡ further.Ordinary
      → Told what → Checks limits options q room code call_after interrupts
      → ChecksOffered limits options q room what code call_after interrupts
  checks_ordinary code call_after n Ordinary is t checks = checks
  checks_ordinary code call_after n Short is t checks = absurd (let e = sym t.0 ∙ is in cc)
  checks_ordinary code call_after n (Row row) is t checks = absurd (let e = sym t.0 ∙ is in cc)
  checks_ordinary code call_after n Unnamed is t checks = absurd (let e = sym t.0 ∙ is in cc)

  pub checks_short : (code : ℤ) (what : What) → result ≡ further.Short → Told what → code ≡ outcome_code (Err DecodeMessage)
      → ChecksOffered limits options q room what code nothing 0
  checks_short code Short is t code_is = (code_is, refl, refl)
  checks_short code Ordinary is t code_is = absurd (let e = sym t.0 ∙ is in cc)
  checks_short code (Row row) is t code_is = absurd (let e = sym t.0 ∙ is in cc)
  checks_short code Unnamed is t code_is = absurd (let e = sym t.0 ∙ is in cc)

  pub checks_row : (what : What) → result ≡ further.Row → Told what
      → ChecksOffered limits options q room what is_asked mid 0
  checks_row (Row row) is t = (refl, t.1, refl)
  checks_row Ordinary is t = absurd (let e = sym t.0 ∙ is in cc)
  checks_row Short is t = absurd (let e = sym t.0 ∙ is in cc)
  checks_row Unnamed is t = absurd (let e = sym t.0 ∙ is in cc)

  pub checks_unnamed : (code : ℤ) (call_after : CallData) (interrupts : ℕ) (what : What) → result ≡ further.Unnamed
      → Told what → ChecksOffered limits options q room Unnamed code call_after interrupts
      → ChecksOffered limits options q room what code call_after interrupts
  checks_unnamed code call_after n Unnamed is t checks = checks
  checks_unnamed code call_after n Ordinary is t checks = absurd (let e = sym t.0 ∙ is in cc)
  checks_unnamed code call_after n Short is t checks = absurd (let e = sym t.0 ∙ is in cc)
  checks_unnamed code call_after n (Row row) is t checks = absurd (let e = sym t.0 ∙ is in cc)

-- a TMPFILE whose request isn't asked
pub none_unnamed : (limits : Limits) (options : ℕ) (q : List ℕ) (room : ℕ) (code : ℤ) (call : CallData) (told : ToldData)
    (shown : List ℕ) → code ≡ no_memory → call ≡ nothing → shown ≡ []
    → AsksOffered limits options q room Unnamed code call told told shown
none_unnamed limits options q room code call told shown code_is call_is none =
    (nothing, inr (record { why = inl code_is; no_call = refl; same_told = refl; none_shown = none }), rw code_is call_is)

-- a request that asks what virtiofsd's table says is told so
pub of_ordinary : (limits : Limits) (options : ℕ) (q : List ℕ) (room : ℕ) (what : What) (code : ℤ)
    (call_after : CallData) (told told_after : ToldData) (shown : List ℕ) → what ≡ Ordinary
    → AsksOrNot limits options q room code call_after told told_after shown
    → AsksOffered limits options q room what code call_after told told_after shown
of_ordinary limits options q room what code call_after told told_after shown is asks =
    subst (λ (w : What). AsksOffered limits options q room w code call_after told told_after shown) (sym is) asks

-- and a slot that has memory for it has it so
pub ordinary_held : (limits : Limits) (options : ℕ) (q : List ℕ) (room : ℕ) (what : What) (slot : Option Memory)
    → what ≡ Ordinary → HoldsOffered limits options q room what slot → HoldsFor room (ask limits options room q) slot
ordinary_held limits options q room what slot is holds =
    subst (λ (w : What). HoldsOffered limits options q room w slot) is holds

-- ---- requests of no row

and_none : (b : Bool) → (b && false) ≡ false
and_none true = refl
and_none false = refl

none_row : (h : InHeader) (rest : List ℕ) (len : ℕ) → row_of 0 h rest len ≡ Ordinary
none_row h rest len =
    rw (
      and_none (h.opcode == number.GETLK),
      and_none (h.opcode == number.SETLK),
      and_none (h.opcode == number.SETLKW),
      and_none (h.opcode == number.BMAP),
      and_none (h.opcode == number.IOCTL),
      and_none (h.opcode == number.POLL),
      and_none (h.opcode == number.NOTIFY_REPLY),
      and_none (h.opcode == number.TMPFILE),
      and_none (h.opcode == number.STATX),
      and_none (h.opcode == number.COPY_64),
    ) refl

none_by : (above : Bool) (h : InHeader) (rest : List ℕ) (len : ℕ)
    → (if above then Ordinary else row_of 0 h rest len) ≡ Ordinary
none_by true h rest len = refl
none_by false h rest len = none_row h rest len

none_after : (limits : Limits) (r : Result InHeader Error) (rest : List ℕ) (len : ℕ)
    → what_after 0 limits r rest len ≡ Ordinary
none_after limits (Err error) rest len = refl
none_after limits (Ok h) rest len = none_by (nat_lt (max_len limits) h.len) h rest len

-- where nothing is offered
pub no_row : (offers : ℕ) (limits : Limits) (q : List ℕ) → offers ≡ 0 → what_of offers limits q ≡ Ordinary
no_row offers limits q none = rw none (none_after limits (record_of in_header q) (drop 40 q) (length q))

-- what is said of a request where nothing is offered is said by virtiofsd's table
pub plain_asked : (session : SessionData) (request : List (Bor (List ℕ))) (room : ℕ) (code : ℤ) (call_after : CallData)
    (told told_after : ToldData) (shown : List ℕ)
    → AsksInSession session request room (what_in session 0 request) code call_after told told_after shown
    → AsksInSession session request room Ordinary code call_after told told_after shown
plain_asked session request room code call_after told told_after shown asked =
    subst (λ (w : What). AsksInSession session request room w code call_after told told_after shown)
    (no_row 0 (limits_of session) (flat_bytes (segments_of request)) refl) asked

pub plain_memory : (session : SessionData) (request : List (Bor (List ℕ))) (room : ℕ) (code : ℤ) (slot : Option Memory)
    → AsksWithoutMemory session request room (what_in session 0 request) code slot
    → AsksWithoutMemory session request room Ordinary code slot
plain_memory session request room code slot memory =
    subst (λ (w : What). AsksWithoutMemory session request room w code slot)
    (no_row 0 (limits_of session) (flat_bytes (segments_of request)) refl) memory

-- the four opcodes that are asked for most are of no row
most_row : (offers : ℕ) (h : InHeader) (rest : List ℕ) (len : ℕ) → IsAskedMost h.opcode
    → row_of offers h rest len ≡ Ordinary
most_row offers h rest len (inl is) = rw is refl
most_row offers h rest len (inr (inl is)) = rw is refl
most_row offers h rest len (inr (inr (inl is))) = rw is refl
most_row offers h rest len (inr (inr (inr is))) = rw is refl

most_by : (offers : ℕ) (above : Bool) (h : InHeader) (rest : List ℕ) (len : ℕ) → IsAskedMost h.opcode
    → (if above then Ordinary else row_of offers h rest len) ≡ Ordinary
most_by offers true h rest len most = refl
most_by offers false h rest len most = most_row offers h rest len most

most_after : (offers : ℕ) (limits : Limits) (short : Bool) (h : InHeader) (rest : List ℕ) (len : ℕ) → IsAskedMost h.opcode
    → what_after offers limits (if short then Err DecodeMessage else Ok h) rest len ≡ Ordinary
most_after offers limits true h rest len most = refl
most_after offers limits false h rest len most = most_by offers (nat_lt (max_len limits) h.len) h rest len most

pub most_ordinary : (offers : ℕ) (limits : Limits) (q : List ℕ) → IsAskedMost (header_of q).opcode
    → what_of offers limits q ≡ Ordinary
most_ordinary offers limits q most =
    most_after offers limits (nat_lt (length q) 40) (header_of q) (drop 40 q) (length q) most

-- the opcode of a request is that of its header
whole_header : (head rest : List ℕ) → length head ≡ 40 → header_of head ≡ header_of (head ++ rest)
whole_header head rest long =
    let total : 40 ≤ length (head ++ rest) = omega (arith, long, length-append head rest) in
    let front : take 40 (head ++ rest) ≡ head = ap (λ (n : ℕ). take n (head ++ rest)) (sym long) ∙ take-append_seam head rest in
    ap (value_of in_header) (sym front) ∙ value_of-take in_header 40 (head ++ rest) (omega (arith, total))

pub most_whole : (head rest : List ℕ) → length head ≡ 40 → IsAskedMost (header_of head).opcode
    → IsAskedMost (header_of (head ++ rest)).opcode
most_whole head rest long most = subst (λ (g : InHeader). IsAskedMost g.opcode) (whole_header head rest long) most

pub most_front : (head rest q : List ℕ) → length head ≡ 40 → q ≡ head ++ rest → IsAskedMost (header_of q).opcode
    → IsAskedMost (header_of head).opcode
most_front head rest q long is most =
    subst (λ (g : InHeader). IsAskedMost g.opcode) (sym (whole_header head rest long))
    (subst (λ (b : List ℕ). IsAskedMost (header_of b).opcode) is most)

-- a request of no row is asked as the promise says
pub promised : (limits : Limits) (options : ℕ) (q : List ℕ) (room : ℕ) (what : What) (code : ℤ) (call_after : CallData)
    (told told_after : ToldData) (shown : List ℕ) → what ≡ Ordinary
    → AsksOffered limits options q room what code call_after told told_after shown
    → IsAskedOrNot limits options q room code call_after told told_after shown
promised limits options q room Ordinary code call_after told told_after shown is asks =
    asked_or_not limits options q room code call_after told told_after shown asks
promised limits options q room Short code call_after told told_after shown is asks = absurd (let e = is in cc)
promised limits options q room (Row row) code call_after told told_after shown is asks = absurd (let e = is in cc)
promised limits options q room Unnamed code call_after told told_after shown is asks = absurd (let e = is in cc)

-- and checked so
pub checks_promised : (limits : Limits) (options : ℕ) (q : List ℕ) (room offers : ℕ) (code : ℤ) (call_after : CallData)
    (interrupts : ℕ) → offers ≡ 0
    → ChecksOffered limits options q room (what_of offers limits q) code call_after interrupts
    → Checks limits options q room code call_after interrupts
checks_promised limits options q room offers code call_after n none checks =
    subst (λ (w : What). ChecksOffered limits options q room w code call_after n) (no_row offers limits q none) checks

-- ---- a code that is another's

pub recode : (limits : Limits) (options : ℕ) (q : List ℕ) (room : ℕ) (what : What) (code other : ℤ) (call_after : CallData)
    (told told_after : ToldData) (shown : List ℕ) → other ≡ code
    → AsksOffered limits options q room what code call_after told told_after shown
    → AsksOffered limits options q room what other call_after told told_after shown
recode limits options q room what code other call_after told told_after shown is asks =
    subst (λ (n : ℤ). AsksOffered limits options q room what n call_after told told_after shown) (sym is) asks

pub recode_checks : (limits : Limits) (options : ℕ) (q : List ℕ) (room : ℕ) (what : What) (code other : ℤ)
    (call_after : CallData) (interrupts : ℕ) → other ≡ code
    → ChecksOffered limits options q room what code call_after interrupts
    → ChecksOffered limits options q room what other call_after interrupts
recode_checks limits options q room what code other call_after n is checks =
    subst (λ (n' : ℤ). ChecksOffered limits options q room what n' call_after n) (sym is) checks

pub no_code : (code other refused : ℤ) → other ≡ code → code ≢ refused → other ≢ refused
no_code code other refused is other_than = λ e. other_than (sym is ∙ e)

-- ---- a TMPFILE in one piece

what_unnamed : (options room : ℕ) (old mid : CallData) (result : Further) (what : What) → result ≡ further.Unnamed
    → Tells what (told_under options room) result old mid → what ≡ Unnamed
what_unnamed options room old mid result Unnamed is t = refl
what_unnamed options room old mid result Ordinary is t = absurd (let e = sym t.0 ∙ is in cc)
what_unnamed options room old mid result Short is t = absurd (let e = sym t.0 ∙ is in cc)
what_unnamed options room old mid result (Row row) is t = absurd (let e = sym t.0 ∙ is in cc)

unnamed_by : (offers : ℕ) (limits : Limits) (q : List ℕ) (short : Bool) → nat_lt (length q) 40 ≡ short
    → what_after offers limits (if short then Err DecodeMessage else Ok (value_of in_header q)) (drop 40 q) (length q) ≡ Unnamed
    → 40 ≤ length q
unnamed_by offers limits q true test is = absurd cc
unnamed_by offers limits q false test is = grind (arith, nat_tests, test)

-- its header is whole
pub unnamed_whole : (options room : ℕ) (old mid : CallData) (result : Further) (offers : ℕ) (limits : Limits) (q : List ℕ)
    → result ≡ further.Unnamed → Tells (what_of offers limits q) (told_under options room) result old mid → 40 ≤ length q
unnamed_whole options room old mid result offers limits q is t =
    unnamed_by offers limits q (nat_lt (length q) 40) refl (what_unnamed options room old mid result (what_of offers limits q) is t)

-- and a reader of it is one of the CREATE
pub whole_as : (q : List ℕ) (r : Unread) → 40 ≤ length q → IsWhole q r
    → IsWhole (as_create q) (unread_with_opcode CREATE r)
whole_as q r long whole =
    let same : length (as_create q) ≡ length q = same_length CREATE (omega arith) q (omega (arith, long)) in
    record {
      left = ap as_create whole.left;
      one_piece = whole.one_piece ∙ ap (λ (n : ℕ). lengths_from 0 (n ∷ [])) (sym same);
    }

-- one that is too long is too long as a CREATE
pub too_long_as : (create : Bool) (q : List ℕ) → 2 ^ 64 ≤ length q → 2 ^ 64 ≤ length (bytes_as create q)
too_long_as false q long = long
too_long_as true q long =
    let same : length (as_create q) ≡ length q = same_length CREATE (omega arith) q (omega (arith, long)) in
    omega (arith, same, long)

named_takes : (is : Bool) (call : CallData)
    → put_of (if is then named_tmpfile call else call) (if is then named_tmpfile call else call).room
    ≡ put_of call call.room
named_takes true call = refl
named_takes false call = refl

-- an answer to a CREATE that is named TMPFILE takes as much room
pub named_room : (code : ℤ) (created call : CallData) (p : Part) → call ≡ named code created
    → HasRoomFor (put_of created created.room) p → HasRoomFor (put_of call call.room) p
named_room code created call p is has =
    subst (λ (it : CallData). HasRoomFor (put_of it it.room) p) (sym is)
    (subst (λ (n : ℕ). HasRoomFor n p) (sym (named_takes (int_eq code is_asked) created)) has)
