-- The numbers of the limits, and how long replies with data are.
use Rattle.std.proofs.Common.{◌≡◌, ◌≤◌, ◌<◌, ◌+◌, ◌-◌, ◌*◌, ℕ, Bool, true, false, List, length, drop, nat_le, nat_lt, if◌then◌else◌, Option, Some, Ok, Err, refl, ap, sym, ◌∙◌, arith, length-drop}
use Rattle.std.proofs.lemmas.Bool.Decides.{nat_tests}
use Rattle.std.proofs.lemmas.List.{drop-drop}
use Rattle.vfs_flags.specs.Numbers.{enomem}
use Rattle.vfs_flags.specs.declared.opcode.Opcode.{Opcode}
use Rattle.vfs_flags.specs.declared.opcode.Opcode.TheVariants.{Read, Readdir, Readdirplus, BatchForget}
use Rattle.vfs_wire.specs.Fields.{value_of}
use Rattle.vfs_wire.specs.Records.{batch_forget_in}
use Rattle.vfs_wire_more.specs.Records.{read_in}
use Rattle.vfs_wire.specs.declared.headers.InHeader.{InHeader}
use Rattle.vfs_files.specs.Calls as call
use Rattle.vfs_files.specs.Calls.{Answer, Failed, Put, Data, IsAnswer, read_answer}
use Rattle.vfs_files.specs.Values.{context_of}
use Rattle.vfs_files.specs.declared.entry.Context.{Context}
use Rattle.vfs_grammar.specs.Ask.{ask, ask_number, lists_too_much, listing_of}
use Rattle.vfs_grammar.specs.Memory.{header_of}
use Rattle.vfs_grammar.specs.Forms.{Ask, Asks, Lists, WithMemory, faulted, refused_or, within, pairs_in, Record, Directories, ask_form}
use Rattle.vfs_grammar.specs.Words.{refused, reply_to}
use Rattle.vfs_grammar.specs.Books.{opcode_in}
use Rattle.laws_turns.specs.Turns.{after_header, count_of_pairs, CarriesData, size_asked}
use Rattle.vfs_grammar.specs.Limits.{max_len}
use Rattle.vfs_grammar.specs.Reply.{Echo, echo_of, fault_reply, body_reply}
use Rattle.vfs_grammar.specs.Room.{IsReplied}
use Rattle.vfs_grammar.specs.Turn.{Turn, Follows, IsTurn}
use Rattle.vfs_grammar.specs.declared.limits.Limits.{Limits}
use Rattle.vfs_grammar.specs.declared.error.Error.{Error}
use Rattle.vfs_grammar.specs.declared.error.Error.TheVariants.{DecodeMessage, EncodeMessage}
use Rattle.vfs_grammar.proofs.Rooms.{length-body_reply, length-fault_reply}

-- ---- the limits

record_whole : {R : Type 0} (test : Bool) (x : R) (next : R → Ask) → test ≡ false
    → refused_or (if test then Err DecodeMessage else Ok x) next ≡ next x
record_whole true x next e = absurd cc
record_whole false x next e = refl

within_is : (test : Bool) (h : InHeader) (next : Ask) → test ≡ false → within test h next ≡ next
within_is true h next e = absurd cc
within_is false h next e = refl

above_is : (test : Bool) (h : InHeader) (next : Ask) → test ≡ true → within test h next ≡ faulted enomem h
above_is true h next e = refl
above_is false h next e = absurd cc

module _ (limits : Limits) (options room : ℕ) (request : List ℕ) where
  -- what a request asks whose header is whole
  by_header : 40 ≤ length request
      → ask limits options room request
      ≡ within (nat_lt (max_len limits) (header_of request).len) (header_of request)
      (ask_number limits options room (opcode_in request) (header_of request) (after_header request))
  by_header long = record_whole (nat_lt (length request) 40) (header_of request) _ (grind (arith, nat_tests))

  pub len_within : 40 ≤ length request → (header_of request).len ≤ limits.max_buffer + 4096
      → ask limits options room request
      ≡ ask_number limits options room (opcode_in request) (header_of request) (after_header request)
  len_within long small =
      by_header long ∙ within_is (nat_lt (max_len limits) (header_of request).len) (header_of request) _ (grind (arith, nat_tests))

  pub len_above : 40 ≤ length request → limits.max_buffer + 4096 < (header_of request).len
      → ask limits options room request ≡ faulted 12 (header_of request)
  len_above long large =
      by_header long ∙ above_is (nat_lt (max_len limits) (header_of request).len) (header_of request) _ (grind (arith, nat_tests))

  -- what a BATCH_FORGET asks whose record is whole
  by_count : 48 ≤ length request → (header_of request).len ≤ limits.max_buffer + 4096 → opcode_in request ≡ Some BatchForget
      → ask limits options room request
      ≡ within (nat_lt limits.max_buffer (count_of_pairs request * 16)) (header_of request)
      (refused_or (pairs_in (count_of_pairs request) (drop 8 (after_header request))) (λ pairs.
      WithMemory (Asks (echo_of (header_of request)) (call.BatchForget (context_of (header_of request)) pairs))))
  by_count long small is =
      len_within (omega arith) small
      ∙ ap (λ (o : Option Opcode). ask_number limits options room o (header_of request) (after_header request)) is
      ∙ record_whole (nat_lt (length (after_header request)) 8) (value_of batch_forget_in (after_header request)) _
      (let size = length-drop 40 request in grind (arith, nat_tests))

  pub pairs_within : 48 ≤ length request → (header_of request).len ≤ limits.max_buffer + 4096 → opcode_in request ≡ Some BatchForget → 16 * count_of_pairs request ≤ limits.max_buffer
      → ask limits options room request
      ≡ refused_or (pairs_in (count_of_pairs request) (drop 48 request)) (λ pairs.
      WithMemory (Asks (echo_of (header_of request)) (call.BatchForget (context_of (header_of request)) pairs)))
  pairs_within long small is few =
      by_count long small is
      ∙ within_is (nat_lt limits.max_buffer (count_of_pairs request * 16)) (header_of request) _ (grind (arith, nat_tests))
      ∙ ap (λ (bytes : List ℕ).
      refused_or (pairs_in (count_of_pairs request) bytes) (λ pairs.
      WithMemory (Asks (echo_of (header_of request)) (call.BatchForget (context_of (header_of request)) pairs)))) (drop-drop 8 40 request)

  pub pairs_above : 48 ≤ length request → (header_of request).len ≤ limits.max_buffer + 4096 → opcode_in request ≡ Some BatchForget → limits.max_buffer < 16 * count_of_pairs request
      → ask limits options room request ≡ faulted 12 (header_of request)
  pairs_above long small is many =
      by_count long small is
      ∙ above_is (nat_lt limits.max_buffer (count_of_pairs request * 16)) (header_of request) _ (grind (arith, nat_tests))

-- ---- data

put_size : (fits : Bool) (size n : ℕ) → (if fits then Ok size else Err EncodeMessage) ≡ Ok n → n ≡ size
put_size true size n o = cc
put_size false size n o = absurd cc

module _ (limits : Limits) (options after n : ℕ) (t : Turn) (answered : t.outcome ≡ Ok n) (rest : List ℕ) where
  -- the size in the record that these bytes begin with
  abbrev size : ℕ
  size = (value_of read_in rest).size

  -- where this is asked, no more is answered than a header and that many bytes
  Keeps : Ask → Type 0
  Keeps a = Follows t limits options a after → n ≤ 16 + size

  refusal_keeps : (e : Error) → Keeps (refused e)
  unfolding Keeps
  refusal_keeps e f = absurd (let a = sym f.1.0 ∙ answered in cc)

  fault_keeps : (number : ℕ) (h : InHeader) → Keeps (faulted number h)
  unfolding Keeps
  fault_keeps number h f =
      let reply = fault_reply (Some number) h.unique in
      let is : n ≡ length reply = put_size (nat_le (length reply) (length t.room)) (length reply) n (sym f.1.says ∙ answered) in
      omega (arith, is, length-fault_reply (Some number) h.unique)

  answer_keeps : (answer : Answer) (unique : ℕ) → IsAnswer (Data size) answer
      → IsReplied (reply_to unique (Data size) answer) t.room t.outcome t.room_after → n ≤ 16 + size
  answer_keeps (Failed fault) unique a h =
      let is : n ≡ length (fault_reply fault unique) = (let e = sym h.says ∙ answered in cc) in
      omega (arith, is, length-fault_reply fault unique)
  answer_keeps (Put bytes) unique a h =
      let is : n ≡ length (body_reply bytes unique) = (let e = sym h.says ∙ answered in cc) in
      omega (arith, is, length-body_reply bytes unique, a.0)
  answer_keeps _ unique a h = absurd a

  read_keeps : (echo : Echo) (ctx : Context) (inode handle room offset : ℕ) (owner : Option ℕ) (flags : ℕ)
      → Keeps (Asks echo (call.Read ctx inode handle room size offset owner flags))
  unfolding Keeps
  read_keeps echo ctx inode handle room offset owner flags f = answer_keeps f.0 echo.unique f.2 f.3

  lists_keep : (echo : Echo) (plus : Bool) (h : InHeader) (room : ℕ) → Keeps (Lists echo (listing_of plus h (value_of read_in rest) room))
  unfolding Keeps
  lists_keep echo plus h room f = answer_keeps (read_answer f.1 f.0) echo.unique f.3 f.4

  record_keeps : {R : Type 0} (short : Bool) (x : R) (next : R → Ask) → Keeps (next x) → Keeps (refused_or (if short then Err DecodeMessage else Ok x) next)
  record_keeps true x next k = refusal_keeps DecodeMessage
  record_keeps false x next k = k

  room_keeps : (small : Bool) (room : ℕ) (next : ℕ → Ask) → Keeps (next room) → Keeps (refused_or (if small then Err EncodeMessage else Ok room) next)
  room_keeps true room next k = refusal_keeps EncodeMessage
  room_keeps false room next k = k

  within_keeps : (above : Bool) (h : InHeader) (next : Ask) → Keeps next → Keeps (within above h next)
  within_keeps true h next k = fault_keeps enomem h
  within_keeps false h next k = k

  listing_keeps : (plus : Bool) (room : ℕ) (h : InHeader)
      → Keeps (ask_form h rest (Directories (Record read_in) (lists_too_much limits room) room (listing_of plus h)))
  listing_keeps plus room h =
      record_keeps (nat_lt (length rest) 40) (value_of read_in rest) _
      (within_keeps (lists_too_much limits room (value_of read_in rest)) h _
      (room_keeps (nat_lt room 16) (room - 16) _ (lists_keep (echo_of h) plus h (room - 16))))

  number_keeps : (room : ℕ) (opcode : Option Opcode) (h : InHeader) → CarriesData opcode → Keeps (ask_number limits options room opcode h rest)
  number_keeps room (Some Read) h c =
      record_keeps (nat_lt (length rest) 40) (value_of read_in rest) _
      (room_keeps (nat_lt room 16) (room - 16) _ (read_keeps (echo_of h) (context_of h) h.nodeid _ (room - 16) _ _ _))
  number_keeps room (Some Readdir) h c = listing_keeps false room h
  number_keeps room (Some Readdirplus) h c = listing_keeps true room h
  number_keeps room _ h c = absurd c

pub no_more : (limits : Limits) (options after n : ℕ) (t : Turn) → IsTurn limits options t after → CarriesData (opcode_in t.request) → t.outcome ≡ Ok n
    → n ≤ 16 + size_asked t.request
unfolding Keeps
no_more limits options after n t f c o =
    let h = header_of t.request in
    record_keeps limits options after n t o (after_header t.request) (nat_lt (length t.request) 40) h _
    (within_keeps limits options after n t o (after_header t.request) (nat_lt (max_len limits) h.len) h _
    (number_keeps limits options after n t o (after_header t.request) (length t.room) (opcode_in t.request) h c))
    f
