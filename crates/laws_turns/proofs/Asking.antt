-- Every case of what a request may ask, by its form.
use Rattle.std.proofs.Common.{◌≡◌, ◌<◌, ◌+◌, ◌-◌, ◌*◌, ◌==◌, ℕ, Bool, true, false, List, length, take, drop, nat_lt, if◌then◌else◌, Option, Some, None, Result, Ok, Err, refl, arith}
use Rattle.std.proofs.lemmas.Bool.Decides.{nat_tests}
use Rattle.vfs_flags.specs.Numbers.{enomem, enosys, eproto, opcode_of}
use Rattle.vfs_flags.specs.Flags.{init_ext, has_flag}
use Rattle.vfs_flags.specs.declared.constants.TheConstants.{KERNEL_VERSION, MIN_KERNEL_MINOR_VERSION}
use Rattle.vfs_flags.specs.declared.opcode.Opcode.{Opcode}
use Rattle.vfs_wire.specs.Fields.{Table, bytes_of, value_of}
use Rattle.vfs_wire.specs.Records.{in_header, out_header, init_in_compat, init_in_ext, init_out, forget_one}
use Rattle.vfs_wire.specs.declared.headers.InHeader.{InHeader}
use Rattle.vfs_wire.specs.declared.init.InitInCompat.{InitInCompat}
use Rattle.vfs_files.specs.Calls.{Call}
use Rattle.vfs_files.specs.Values.{name_of, first_name}
use Rattle.vfs_grammar.specs.Limits.{max_len}
use Rattle.vfs_grammar.specs.Records.{size_of, record_of}
use Rattle.vfs_grammar.specs.Ask.{form_of, ask_number, ask}
use Rattle.vfs_grammar.specs.Words.{ask_header, refused, silent}
use Rattle.vfs_grammar.specs.Memory.{header_of}
use Rattle.vfs_grammar.specs.FormParts.{second_or_refusal, both_or_refusal, sized_or_refusal, name_or_refusal, flags2_in}
use Rattle.vfs_grammar.specs.Forms.{Ask, Ends, Asks, Lists, WithMemory, within, refused_or, tail_of, pairs_of, pairs_in, second_flags, ask_version, Layout, Without, Record, layout_record, Form, NoTail, NameTail, TwoNames, NameAndValue, NameAndExtensions, LinkAndExtensions, Pairs, WithRest, IntoRoom, Directories, Versions, Silent, NotServed, space_after_header, ask_form, extended_in, link_in_tail}
use Rattle.vfs_grammar.specs.Listing.{Listing}
use Rattle.laws_turns.specs.Turns.{unique_of}
use Rattle.vfs_grammar.specs.Books.{opcode_in}
use Rattle.vfs_grammar.specs.Reply.{Bytes, Echo, fault_reply, body_reply, version_out}
use Rattle.vfs_grammar.specs.declared.limits.Limits.{Limits}
use Rattle.vfs_grammar.specs.declared.error.Error.{Error}
use Rattle.vfs_grammar.specs.declared.error.Error.TheVariants.{DecodeMessage, EncodeMessage, MissingParameter, InvalidXattrSize, InvalidCString, InvalidHeaderLength}
use Rattle.vfs_grammar.proofs.Refusing.{MayRefuse, either, IsRefused, of_extended, of_link}

-- a request of this form carries data, and its room is too small for the header of their reply
abbrev pub IsCramped : Form → Type 0
IsCramped (IntoRoom layout room call) = room < size_of out_header
IsCramped (Directories layout above room listing) = room < size_of out_header
IsCramped _ = ⊥

-- the same by the opcode
abbrev pub IsCrampedBy : Limits → (options room : ℕ) → Option Opcode → InHeader → Type 0
IsCrampedBy limits options room None h = ⊥
IsCrampedBy limits options room (Some opcode) h = IsCramped (form_of limits options room h opcode)

-- what is to be shown of P in each case that a request may ask, but for copies, and for a room that
-- is too small for a header
pub record EachCase (P : Ask → Type 0) (unique : ℕ) : Type 0 where
  pub refusal : (e : Error) → MayRefuse e → P (refused e)
  pub fault : (f : Option ℕ) → P (Ends (Bytes (fault_reply f unique)))
  pub version : P (Ends (Bytes (body_reply (bytes_of init_out version_out) unique)))
  pub nothing : P silent
  pub asks : (echo : Echo) (c : Call) → echo.unique ≡ unique → P (Asks echo c)
  pub lists : (echo : Echo) (l : Listing) → echo.unique ≡ unique → P (Lists echo l)

module _ (P : Ask → Type 0) (unique : ℕ) (each : EachCase P unique) where
  -- one test refuses a part
  test_cases : {A : Type 0} (b : Bool) (e : Error) (v : A) (next : A → Ask) → MayRefuse e
      → ((x : A) → (if b then Err e else Ok v) ≡ Ok x → P (next x))
      → P (refused_or (if b then Err e else Ok v) next)
  test_cases true e v next m p = each.refusal e m
  test_cases false e v next m p = p v refl

  pub record_cases : {R : Type 0} (t : Table R) (bytes : List ℕ) (next : R → Ask)
      → ((r : R) → record_of t bytes ≡ Ok r → P (next r)) → P (refused_or (record_of t bytes) next)
  record_cases t bytes next p =
      test_cases (nat_lt (length bytes) (size_of t)) DecodeMessage (value_of t bytes) next tt p

  pub layout_cases : {R : Type 0} (l : Layout R) (rest : List ℕ) (next : R → Ask)
      → ((r : R) → layout_record l rest ≡ Ok r → P (next r)) → P (refused_or (layout_record l rest) next)
  layout_cases (Without r) rest next p = p r refl
  layout_cases (Record t) rest next p = record_cases t rest next p

  -- two tests refuse a tail
  tests_cases : {A : Type 0} (b c : Bool) (v : A) (next : A → Ask)
      → ((x : A) → (if b then Err InvalidHeaderLength else if c then Err DecodeMessage else Ok v) ≡ Ok x → P (next x))
      → P (refused_or (if b then Err InvalidHeaderLength else if c then Err DecodeMessage else Ok v) next)
  tests_cases true c v next p = each.refusal InvalidHeaderLength tt
  tests_cases false true v next p = each.refusal DecodeMessage tt
  tests_cases false false v next p = p v refl

  pub tail_cases : (h : InHeader) (size : ℕ) (rest : List ℕ) (next : List ℕ → Ask)
      → ((tail : List ℕ) → tail_of h size rest ≡ Ok tail → P (next tail)) → P (refused_or (tail_of h size rest) next)
  tail_cases h size rest next p =
      let n = size_of in_header + size in
      tests_cases (nat_lt h.len n) (nat_lt (length rest) (h.len - n)) (take (h.len - n) rest) next p

  pub pairs_cases : (count : ℕ) (bytes : List ℕ) (next : List (ℕ × ℕ) → Ask)
      → ((ps : List (ℕ × ℕ)) → pairs_in count bytes ≡ Ok ps → P (next ps)) → P (refused_or (pairs_in count bytes) next)
  pairs_cases count bytes next p =
      test_cases (nat_lt (length bytes) (count * size_of forget_one)) DecodeMessage (pairs_of count bytes) next tt p

  room_test : (b : Bool) (room n : ℕ) (next : ℕ → Ask) → nat_lt room (size_of out_header) ≡ b
      → (room < size_of out_header → P (refused EncodeMessage)) → P (next n) → P (refused_or (if b then Err EncodeMessage else Ok n) next)
  room_test true room n next test cramped p = cramped (grind (arith, nat_tests))
  room_test false room n next test cramped p = p

  pub room_cases : (room : ℕ) (next : ℕ → Ask) → (room < size_of out_header → P (refused EncodeMessage))
      → ((room_for_data : ℕ) → P (next room_for_data)) → P (refused_or (space_after_header room) next)
  room_cases room next cramped p =
      room_test (nat_lt room (size_of out_header)) room (room - size_of out_header) next refl cramped (p (room - size_of out_header))

  pub within_cases : (above : Bool) (h : InHeader) (next : Ask) → h.unique ≡ unique
      → (above ≡ false → P next) → P (within above h next)
  within_cases true h next e p = rw e (each.fault (Some enomem))
  within_cases false h next e p = p refl

  name_cases : (name : Option (List ℕ)) (next : List ℕ → Ask) → ((text : List ℕ) → P (next text))
      → P (refused_or (name_or_refusal name) next)
  name_cases None next p = each.refusal InvalidCString tt
  name_cases (Some text) next p = p text

  second_name_cases : (first : List ℕ) (second : Option (List ℕ)) (next : List ℕ × List ℕ → Ask)
      → ((x : List ℕ × List ℕ) → P (next x)) → P (refused_or (second_or_refusal first second) next)
  second_name_cases first None next p = each.refusal InvalidCString tt
  second_name_cases first (Some second) next p = p (first, second)

  names_cases : (part : Option (List ℕ × List ℕ)) (next : List ℕ × List ℕ → Ask)
      → ((x : List ℕ × List ℕ) → P (next x)) → P (refused_or (both_or_refusal part) next)
  names_cases None next p = each.refusal MissingParameter tt
  names_cases (Some part) next p = second_name_cases part.0 (name_of part.1) next p

  sized_cases : (size : ℕ) (part : Option (List ℕ × List ℕ)) (next : List ℕ × List ℕ → Ask)
      → ((x : List ℕ × List ℕ) → P (next x)) → P (refused_or (sized_or_refusal size part) next)
  sized_cases size None next p = each.refusal MissingParameter tt
  sized_cases size (Some part) next p =
      either (λ r. P (refused_or r next)) (length part.1 == size) (Ok part) (Err (InvalidXattrSize (size, length part.1)))
      (p part) (each.refusal (InvalidXattrSize (size, length part.1)) tt)

  refused_cases : {A : Type 0} (r : Result A Error) (next : A → Ask) → IsRefused r → ((x : A) → P (next x)) → P (refused_or r next)
  refused_cases (Err e) next f p = each.refusal e f
  refused_cases (Ok x) next f p = p x

  version_cases : (h : InHeader) (r : InitInCompat) (flags2 : ℕ) → h.unique ≡ unique → P (ask_version h r flags2)
  version_cases h r flags2 e = rw e
      (either P (nat_lt r.major KERNEL_VERSION) _ _ (each.fault (Some eproto))
      (either P (nat_lt KERNEL_VERSION r.major) _ _ each.version
      (either P (nat_lt r.minor MIN_KERNEL_MINOR_VERSION) _ _ (each.fault (Some eproto)) (each.asks _ _ refl))))

  second_cases : (flags : ℕ) (rest : List ℕ) (next : ℕ → Ask) → ((flags2 : ℕ) → P (next flags2))
      → P (refused_or (second_flags flags rest) next)
  second_cases flags rest next p =
      either (λ r. P (refused_or r next)) (has_flag flags init_ext) (flags2_in (record_of init_in_ext rest)) (Ok 0)
      (either (λ r. P (refused_or (flags2_in r) next)) (nat_lt (length rest) (size_of init_in_ext)) (Err DecodeMessage)
      (Ok (value_of init_in_ext rest)) (each.refusal DecodeMessage tt) (p _)) (p 0)

  pub versions_cases : (h : InHeader) (rest : List ℕ) → h.unique ≡ unique → P (ask_form h rest Versions)
  versions_cases h rest e =
      record_cases init_in_compat rest _ (λ r is.
      second_cases r.flags (drop (size_of init_in_compat) rest) (ask_version h r) (λ flags2. version_cases h r flags2 e))

  module _ (copies : (a : Ask) → P a → P (WithMemory a)) where
    -- P holds of what a request of each form asks
    form_cases : (h : InHeader) (rest : List ℕ) (form : Form) → h.unique ≡ unique → (IsCramped form → P (refused EncodeMessage))
        → P (ask_form h rest form)
    form_cases h rest (NoTail l above call) e cramped =
        layout_cases l rest _ (λ r is. within_cases (above r) h _ e (λ no. each.asks _ _ e))
    form_cases h rest (NameTail l above call) e cramped =
        layout_cases l rest _ (λ r is. tail_cases h _ _ _ (λ tail whole.
        copies _ (within_cases (above r) h _ e (λ no. name_cases (name_of tail) _ (λ name. each.asks _ _ e)))))
    form_cases h rest (TwoNames l call) e cramped =
        layout_cases l rest _ (λ r is. tail_cases h _ _ _ (λ tail whole.
        copies _ (names_cases (first_name tail) _ (λ names. each.asks _ _ e))))
    form_cases h rest (NameAndValue l size call) e cramped =
        layout_cases l rest _ (λ r is. tail_cases h _ _ _ (λ tail whole.
        copies _ (sized_cases (size r) (first_name tail) _ (λ part. each.asks _ _ e))))
    form_cases h rest (NameAndExtensions l options call) e cramped =
        layout_cases l rest _ (λ r is. tail_cases h _ _ _ (λ tail whole.
        copies _ (refused_cases (extended_in options tail) _ (of_extended options tail) (λ part. each.asks _ _ e))))
    form_cases h rest (LinkAndExtensions l options call) e cramped =
        layout_cases l rest _ (λ r is. tail_cases h _ _ _ (λ tail whole.
        copies _ (refused_cases (link_in_tail options tail) _ (of_link options tail) (λ part. each.asks _ _ e))))
    form_cases h rest (Pairs l above count call) e cramped =
        layout_cases l rest _ (λ r is. within_cases (above r) h _ e (λ no.
        pairs_cases (count r) _ _ (λ pairs whole. copies _ (each.asks _ _ e))))
    form_cases h rest (WithRest l call) e cramped = layout_cases l rest _ (λ r is. each.asks _ _ e)
    form_cases h rest (IntoRoom l room call) e cramped = layout_cases l rest _ (λ r is. room_cases room _ cramped (λ room_for_data. each.asks _ _ e))
    form_cases h rest (Directories l above room listing) e cramped =
        layout_cases l rest _ (λ r is. within_cases (above r) h _ e (λ no.
        room_cases room _ cramped (λ room_for_records. each.lists _ _ e)))
    form_cases h rest Versions e cramped = versions_cases h rest e
    form_cases h rest Silent e cramped = each.nothing
    form_cases h rest NotServed e cramped = rw e (each.fault (Some enosys))

    number_cases : (limits : Limits) (options room : ℕ) (opcode : Option Opcode) (h : InHeader) (rest : List ℕ)
        → h.unique ≡ unique → (IsCrampedBy limits options room opcode h → P (refused EncodeMessage))
        → P (ask_number limits options room opcode h rest)
    number_cases limits options room None h rest e cramped = rw e (each.fault (Some enosys))
    number_cases limits options room (Some opcode) h rest e cramped = form_cases h rest (form_of limits options room h opcode) e cramped

    -- P holds of what any bytes ask
    pub ask_cases : (limits : Limits) (options room : ℕ) (bytes : List ℕ) → unique_of bytes ≡ unique
        → (IsCrampedBy limits options room (opcode_in bytes) (header_of bytes) → P (refused EncodeMessage))
        → P (ask limits options room bytes)
    ask_cases limits options room bytes e cramped =
        let h = value_of in_header bytes in
        let rest = drop (size_of in_header) bytes in
        either (λ r. P (refused_or r (λ h. ask_header limits options room h rest))) (nat_lt (length bytes) (size_of in_header))
        (Err DecodeMessage) (Ok h) (each.refusal DecodeMessage tt)
        (within_cases (nat_lt (max_len limits) h.len) h _ e (λ no.
        number_cases limits options room (opcode_of h.opcode) h rest e cramped))
