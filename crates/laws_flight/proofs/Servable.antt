-- What the grammar asks can be answered: there is room for a header, and a directory is asked for no more than a reply
-- can have.
use Rattle.std.proofs.Common.{◌≡◌, ◌≢◌, ◌≤◌, ◌-◌, ◌||◌, ℕ, Bool, true, false, List, length, drop, nat_lt, if◌then◌else◌, Option, Some, None, Result, Ok, Err, refl, arith}
use Rattle.std.proofs.lemmas.Bool.Decides.{nat_tests}
use Rattle.vfs_flags.specs.Numbers.{opcode_of, enomem}
use Rattle.vfs_flags.specs.declared.opcode.Opcode.{Opcode}
use Rattle.vfs_flags.specs.declared.opcode.Opcode.TheVariants as opcode
use Rattle.vfs_wire.specs.Fields.{value_of}
use Rattle.vfs_wire.specs.Records.{in_header}
use Rattle.vfs_wire.specs.declared.headers.InHeader.{InHeader}
use Rattle.vfs_wire_more.specs.declared.files.ReadIn.{ReadIn}
use Rattle.vfs_files.specs.Calls.{Kind, Data, Iterators, kind_of}
use Rattle.vfs_grammar.specs.Ask.{ask, ask_number, form_of, lists_too_much}
use Rattle.vfs_grammar.specs.Forms.{Ask, Ends, Asks, Lists, WithMemory, Form, Directories, IntoRoom, Layout, ask_form, refused_or, faulted, within, space_after_header, layout_record}
use Rattle.vfs_grammar.specs.Reply.{echo_of}
use Rattle.vfs_grammar.specs.Limits.{max_len}
use Rattle.vfs_grammar.specs.Listing.{Listing}
use Rattle.vfs_grammar.specs.Records.{size_of}
use Rattle.vfs_grammar.specs.Words.{ask_header, refused}
use Rattle.vfs_grammar.specs.declared.limits.Limits.{Limits}
use Rattle.vfs_grammar.specs.declared.error.Error.{Error}
use Rattle.vfs_grammar.specs.declared.error.Error.TheVariants.{DecodeMessage}
use Rattle.laws_turns.proofs.Table.{Shows, form_shown}
use Rattle.laws_flight.proofs.Asking.{room_for_records}

-- data are read into a room that has one for a header
abbrev pub HasHeader : (space : ℕ) → Kind → Type 0
HasHeader space (Data size) = 16 ≤ space
HasHeader space kind = Unit {0}

-- a call answers no iterator; a directory has all the room after a header, and its records are within the limit
abbrev pub IsServable : (most space : ℕ) → Ask → Type 0
IsServable most space (Ends reply) = Unit {0}
IsServable most space (Asks echo call) = (kind_of call ≢ Iterators) × HasHeader space (kind_of call)
IsServable most space (Lists echo l) = (16 ≤ space) × (l.space ≡ space - 16) × (l.size ≤ most)
IsServable most space (WithMemory rest) = IsServable most space rest

-- what holds of each refusal and each fault holds of what is left out by them
module _ (P : Ask → Type 0) (h : InHeader) (rest : List ℕ) (refusal : (e : Error) → P (refused e))
    (fault : (number : ℕ) → P (faulted number h)) where
  part : {A : Type 0} (r : Result A Error) (next : A → Ask) → ((x : A) → r ≡ Ok x → P (next x))
      → P (refused_or r next)
  part (Err e) next p = refusal e
  part (Ok x) next p = p x refl

  limit : (above : Bool) (next : Ask) → (above ≡ false → P next) → P (within above h next)
  limit true next p = fault enomem
  limit false next p = p refl

  directories : {R : Type 0} (layout : Layout R) (above : R → Bool) (space : ℕ) (listing : R → ℕ → Listing)
      → ((r : R) (n : ℕ) → above r ≡ false → space_after_header space ≡ Ok n → P (Lists (echo_of h) (listing r n)))
      → P (ask_form h rest (Directories layout above space listing))
  directories layout above space listing p =
      part (layout_record layout rest) _ (λ r is. limit (above r) _ (λ small.
      part (space_after_header space) _ (λ n fits. p r n small fits)))

-- a size that is not too much is within the limit
size_within : (limits : Limits) (space : ℕ) (r : ReadIn) (above room : Bool) → nat_lt limits.max_buffer r.size ≡ above
    → (above || room) ≡ false → r.size ≤ limits.max_buffer
size_within limits space r true room is small = absurd cc
size_within limits space r false room is small = grind (arith, nat_tests, is)

module _ (limits : Limits) (options space : ℕ) (h : InHeader) (rest : List ℕ) where
  -- what is to be shown of a form: of a directory and of data more than of others
  abbrev Fit : Form → Type 0
  Fit (Directories {R} layout above room listing) =
      (r : R) (n : ℕ) → above r ≡ false → space_after_header room ≡ Ok n
      → IsServable limits.max_buffer space (Lists (echo_of h) (listing r n))
  Fit (IntoRoom {R} layout room call) =
      (r : R) (n : ℕ) → space_after_header room ≡ Ok n
      → IsServable limits.max_buffer space (Asks (echo_of h) (call r n))
  Fit form = Shows (IsServable limits.max_buffer space) h rest form

  by_form : (form : Form) → Fit form → IsServable limits.max_buffer space (ask_form h rest form)
  by_form (Directories layout above room listing) fit =
      directories (IsServable limits.max_buffer space) h rest (λ e. tt) (λ number. tt) layout above room listing fit
  by_form (IntoRoom layout room call) fit =
      part (IsServable limits.max_buffer space) h rest (λ e. tt) (λ number. tt) (layout_record layout rest) _ (λ r is.
      part (IsServable limits.max_buffer space) h rest (λ e. tt) (λ number. tt) (space_after_header room) _ (λ n fits.
      fit r n fits))
  by_form form fit =
      form_shown (IsServable limits.max_buffer space) h rest (λ e. tt) (λ number low high. tt) (λ a p. p) form fit

  directory : (r : ReadIn) (n : ℕ) → lists_too_much limits space r ≡ false → space_after_header space ≡ Ok n
      → (16 ≤ space) × (n ≡ space - 16) × (r.size ≤ limits.max_buffer)
  directory r n small fits =
      let room = room_for_records space n (nat_lt space 16) refl fits in
      (room.0, room.1, size_within limits space r (nat_lt limits.max_buffer r.size) (nat_lt space r.size) refl small)

  by_opcode : (o : Opcode) → IsServable limits.max_buffer space (ask_form h rest (form_of limits options space h o))
  by_opcode opcode.Readdir =
      by_form (form_of limits options space h opcode.Readdir) (λ r n small fits. directory r n small fits)
  by_opcode opcode.Readdirplus =
      by_form (form_of limits options space h opcode.Readdirplus) (λ r n small fits. directory r n small fits)
  by_opcode opcode.Read =
      by_form (form_of limits options space h opcode.Read) (λ r n fits.
      (λ e. absurd cc, (room_for_records space n (nat_lt space 16) refl fits).0))
  by_opcode opcode.Init = by_form (form_of limits options space h opcode.Init) (tt, λ echo offered. (λ e. absurd cc, tt))
  by_opcode opcode.Interrupt = by_form (form_of limits options space h opcode.Interrupt) tt
  by_opcode opcode.SetupMapping = by_form (form_of limits options space h opcode.SetupMapping) tt
  by_opcode opcode.RemoveMapping = by_form (form_of limits options space h opcode.RemoveMapping) tt
  by_opcode o = by_form (form_of limits options space h o) (λ x is. (λ e. absurd cc, tt))

  by_number : (o : Option Opcode) → IsServable limits.max_buffer space (ask_number limits options space o h rest)
  by_number None = tt
  by_number (Some o) = by_opcode o

  by_header : IsServable limits.max_buffer space (ask_header limits options space h rest)
  by_header =
      limit (IsServable limits.max_buffer space) h rest (λ e. tt) (λ number. tt) (nat_lt (max_len limits) h.len) _
      (λ small. by_number (opcode_of h.opcode))

header_read : (P : Ask → Type 0) → ((e : Error) → P (refused e)) → (short : Bool) (h : InHeader)
    (next : InHeader → Ask) → P (next h) → P (refused_or (if short then Err DecodeMessage else Ok h) next)
header_read P refusal true h next p = refusal DecodeMessage
header_read P refusal false h next p = p

pub is_servable : (limits : Limits) (options space : ℕ) (request : List ℕ)
    → IsServable limits.max_buffer space (ask limits options space request)
is_servable limits options space request =
    header_read (IsServable limits.max_buffer space) (λ e. tt) (nat_lt (length request) (size_of in_header))
    (value_of in_header request) (λ h. ask_header limits options space h (drop (size_of in_header) request))
    (by_header limits options space (value_of in_header request) (drop (size_of in_header) request))
