-- The words of the laws of turns.
use Rattle.std.specs.Prelude.{◌≡◌, ◌<◌, ◌^◌, ℕ, ℤ, List, take, Bool, false, Ok, IsOk, ◌≤◌, [], ◌∷◌, length, drop, Option, Some, None}
use Rattle.vfs_flags.specs.Numbers.{opcode_of}
use Rattle.vfs_flags.specs.declared.opcode.Opcode.{Opcode}
use Rattle.vfs_wire.specs.Fields.{bytes_of, value_of}
use Rattle.vfs_wire.specs.Records.{out_header, in_header, batch_forget_in}
use Rattle.vfs_wire.specs.declared.headers.InHeader.{InHeader}
use Rattle.vfs_wire_more.specs.Records.{read_in}
use Rattle.vfs_files.specs.Calls.{Call, Readdir, Answer}
use Rattle.vfs_files.specs.Runs.{Called}
use Rattle.vfs_grammar.specs.Records.{size_of}
use Rattle.vfs_grammar.specs.Ask.{form_of}
use Rattle.vfs_grammar.specs.Memory.{header_of, by_memory}
use Rattle.vfs_grammar.specs.Forms.{tail_of, pairs_in, Layout, layout_size, layout_record, Form}
use Rattle.vfs_grammar.specs.Words.{following}
use Rattle.vfs_grammar.specs.Books.{opcode_in}
use Rattle.vfs_grammar.specs.Limits.{max_len}
use Rattle.vfs_grammar.specs.Reply.{Reply, Bytes}
use Rattle.vfs_grammar.specs.Witnesses.{Witness, turn_tells}
use Rattle.vfs_grammar.specs.Turn.{Turn, IsTurn}
use Rattle.vfs_grammar.specs.declared.limits.Limits.{Limits}
use Rattle.vfs_flags.specs.declared.opcode.Opcode.TheVariants as opcode

-- the number that a client gave its request
abbrev pub unique_of : (request : List ℕ) → ℕ
unique_of request = (header_of request).unique

-- The bytes begin with the header of a reply of this length to this request, whatever error it
-- says; and the length is one that a header can say.
pub record BeginsWithHeader (len unique : ℕ) (bytes : List ℕ) : Type 0 where
  pub error : ℤ
  pub fits : len < 2 ^ 32
  pub header :
      take (size_of out_header) bytes
      ≡ bytes_of out_header (record { len = len; error = error; unique = unique })

-- a tail that is whole, after a record that is whole
pub record TailIsWhole {R : Type 0} (h : InHeader) (rest : List ℕ) (layout : Layout R)
    : Type 0 where
  pub whole_record : IsOk (layout_record layout rest)
  pub whole_tail : IsOk (tail_of h (layout_size layout) (following layout rest))

-- pairs that are whole and no more than the limits allow, after a record that is whole
pub record PairsAreWhole {R : Type 0} (rest : List ℕ) (layout : Layout R) (above : R → Bool)
    (count : R → ℕ) : Type 0 where
  pub counts : R
  pub whole_record : layout_record layout rest ≡ Ok counts
  pub in_limit : above counts ≡ false
  pub whole_pairs : IsOk (pairs_in (count counts) (following layout rest))

-- a request of this form has whole what memory may be wanted for: its tail, or its pairs
abbrev pub HasWhole : InHeader → (rest : List ℕ) → Form → Type 0
HasWhole h rest form =
    by_memory ⊥ (λ R layout. TailIsWhole h rest layout)
    (λ R layout options. TailIsWhole h rest layout)
    (λ R layout above count. PairsAreWhole rest layout above count) form

-- memory is wanted after this header, by the form of its opcode
abbrev pub WantsMemoryAfter : Limits → (options room_len : ℕ) → Option Opcode → InHeader → List ℕ → Type 0
WantsMemoryAfter limits options room_len None h rest = ⊥
WantsMemoryAfter limits options room_len (Some opcode) h rest =
    HasWhole h rest (form_of limits options room_len h opcode)

-- a request for which memory may be wanted: its header is whole, its `len` in the limit, and it
-- is of a form with a tail or pairs, which are whole
pub record WantsMemory (limits : Limits) (options room_len : ℕ) (request : List ℕ) : Type 0 where
  pub header : size_of in_header ≤ length request
  pub in_limit : (header_of request).len ≤ max_len limits
  pub form :
      WantsMemoryAfter limits options room_len (opcode_of (header_of request).opcode) (header_of request)
      (drop (size_of in_header) request)

-- what comes after the header of a request
abbrev pub after_header : (request : List ℕ) → List ℕ
after_header request = drop (size_of in_header) request

-- how many pairs a BATCH_FORGET says that it has
abbrev pub count_of_pairs : (request : List ℕ) → ℕ
count_of_pairs request = (value_of batch_forget_in (after_header request)).count

-- READ, READDIR and READDIRPLUS, whose replies carry data
abbrev pub CarriesData : Option Opcode → Type 0
CarriesData (Some opcode.Read) = Unit {0}
CarriesData (Some opcode.Readdir) = Unit {0}
CarriesData (Some opcode.Readdirplus) = Unit {0}
CarriesData _ = ⊥

-- how many bytes of data such a request asks for: the `size` of its record
abbrev pub size_asked : (request : List ℕ) → ℕ
size_asked request = (value_of read_in (after_header request)).size

-- these bytes are longer than the room, which holds as many of them as it has place for
pub record IsCutOff (reply room room_after : List ℕ) : Type 0 where
  pub longer : length room < length reply
  pub holds : room_after ≡ take (length room) reply

-- what comes back is bytes, and that many of them
abbrev pub CutsOff : Reply → (room room_after : List ℕ) → Type 0
CutsOff (Bytes reply) room room_after = IsCutOff reply room room_after
CutsOff _ room room_after = ⊥

-- what a turn tells whose reply was cut off
abbrev pub cut_turn_tells : Turn → Witness
cut_turn_tells t = record (turn_tells t) {
  replied = λ reply. CutsOff reply t.room t.room_after;
}

-- a request for data was met by a room that is too small for the header of its reply: no call was
-- made, and nothing has changed
pub record LacksRoomForHeader (options after : ℕ) (t : Turn) : Type 0 where
  pub carries : CarriesData (opcode_in t.request)
  pub small : length t.room < size_of out_header
  pub no_call : t.events ≡ []
  pub same_room : t.room_after ≡ t.room
  pub same_options : after ≡ options

-- a turn whose one call was answered by this, and whose reply fit
pub record AnswersWhole (limits : Limits) (options : ℕ) (answer : Answer) (t : Turn) (after : ℕ)
    : Type 0 where
  pub turn : IsTurn limits options t after
  pub call : Call
  pub called : t.events ≡ Called call answer ∷ []
  pub len : ℕ
  pub fits : t.outcome ≡ Ok len

-- what comes after the header of a reply
abbrev pub body_in : (room_after : List ℕ) → List ℕ
body_in room_after = drop (size_of out_header) room_after
