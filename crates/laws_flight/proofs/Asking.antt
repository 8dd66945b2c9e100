-- What the grammar never asks: a directory by a call; and how much room it leaves for records.
use Rattle.std.proofs.Common.{◌≡◌, ◌≢◌, ◌≤◌, ◌-◌, ℕ, Bool, true, false, List, length, drop, nat_lt, if◌then◌else◌, Option, Some, None, Result, Ok, Err, refl, arith}
use Rattle.std.proofs.lemmas.Bool.Decides.{nat_tests}
use Rattle.vfs_flags.specs.Numbers.{opcode_of, enomem}
use Rattle.vfs_flags.specs.declared.opcode.Opcode.{Opcode}
use Rattle.vfs_flags.specs.declared.opcode.Opcode.TheVariants as opcode
use Rattle.vfs_wire.specs.Fields.{value_of}
use Rattle.vfs_wire.specs.Records.{in_header}
use Rattle.vfs_wire.specs.declared.headers.InHeader.{InHeader}
use Rattle.vfs_files.specs.Calls.{Iterators, kind_of}
use Rattle.vfs_grammar.specs.Ask.{ask, ask_number, form_of}
use Rattle.vfs_grammar.specs.Words.{ask_header, refused}
use Rattle.vfs_grammar.specs.Forms.{Ask, Ends, Asks, Lists, WithMemory, Form, Directories, Layout, ask_form, refused_or, faulted, within, space_after_header, layout_record}
use Rattle.vfs_grammar.specs.Listing.{Listing}
use Rattle.vfs_grammar.specs.Reply.{echo_of}
use Rattle.vfs_grammar.specs.Limits.{max_len}
use Rattle.vfs_grammar.specs.Records.{size_of}
use Rattle.vfs_grammar.specs.declared.limits.Limits.{Limits}
use Rattle.vfs_grammar.specs.declared.error.Error.{Error}
use Rattle.vfs_grammar.specs.declared.error.Error.TheVariants.{DecodeMessage, EncodeMessage}
use Rattle.laws_turns.proofs.Table.{Shows, form_shown}

-- a call answers no iterator, and a directory has all the room after a header
abbrev pub IsUsual : (space : ℕ) → Ask → Type 0
IsUsual space (Ends reply) = Unit {0}
IsUsual space (Asks echo call) = kind_of call ≢ Iterators
IsUsual space (Lists echo l) = (16 ≤ space) × (l.space ≡ space - 16)
IsUsual space (WithMemory rest) = IsUsual space rest

-- what holds of each refusal and each fault holds of what is left out by them
module _ (P : Ask → Type 0) (h : InHeader) (rest : List ℕ) (refusal : (e : Error) → P (refused e))
    (fault : (number : ℕ) → P (faulted number h)) where
  part : {A : Type 0} (r : Result A Error) (next : A → Ask) → ((x : A) → r ≡ Ok x → P (next x))
      → P (refused_or r next)
  part (Err e) next p = refusal e
  part (Ok x) next p = p x refl

  limit : (above : Bool) (next : Ask) → P next → P (within above h next)
  limit true next p = fault enomem
  limit false next p = p

  -- a directory is to be read, in the room that there is after a header
  directories : {R : Type 0} (layout : Layout R) (above : R → Bool) (space : ℕ) (listing : R → ℕ → Listing)
      → ((r : R) (n : ℕ) → space_after_header space ≡ Ok n → P (Lists (echo_of h) (listing r n)))
      → P (ask_form h rest (Directories layout above space listing))
  directories layout above space listing p =
      part (layout_record layout rest) _ (λ r is. limit (above r) _
      (part (space_after_header space) _ (λ n fits. p r n fits)))

pub room_for_records : (space n : ℕ) (short : Bool) → nat_lt space 16 ≡ short
    → (if short then Err EncodeMessage else Ok (space - 16)) ≡ Ok n → (16 ≤ space) × (n ≡ space - 16)
room_for_records space n true short is = absurd cc
room_for_records space n false short is = (grind (arith, nat_tests, short), cc)

module _ (limits : Limits) (options space : ℕ) (h : InHeader) (rest : List ℕ) where
  -- what is to be shown of a form: of a directory more than of others
  abbrev Fit : Form → Type 0
  Fit (Directories {R} layout above room listing) =
      (r : R) (n : ℕ) → space_after_header room ≡ Ok n → IsUsual space (Lists (echo_of h) (listing r n))
  Fit form = Shows (IsUsual space) h rest form

  by_form : (form : Form) → Fit form → IsUsual space (ask_form h rest form)
  by_form (Directories layout above room listing) fit =
      directories (IsUsual space) h rest (λ e. tt) (λ number. tt) layout above room listing fit
  by_form form fit = form_shown (IsUsual space) h rest (λ e. tt) (λ number low high. tt) (λ a p. p) form fit

  by_opcode : (o : Opcode) → IsUsual space (ask_form h rest (form_of limits options space h o))
  by_opcode opcode.Readdir =
      by_form (form_of limits options space h opcode.Readdir) (λ r n fits.
      room_for_records space n (nat_lt space 16) refl fits)
  by_opcode opcode.Readdirplus =
      by_form (form_of limits options space h opcode.Readdirplus) (λ r n fits.
      room_for_records space n (nat_lt space 16) refl fits)
  by_opcode opcode.Init = by_form (form_of limits options space h opcode.Init) (tt, λ echo offered e. absurd cc)
  by_opcode opcode.Interrupt = by_form (form_of limits options space h opcode.Interrupt) tt
  by_opcode opcode.SetupMapping = by_form (form_of limits options space h opcode.SetupMapping) tt
  by_opcode opcode.RemoveMapping = by_form (form_of limits options space h opcode.RemoveMapping) tt
  by_opcode o = by_form (form_of limits options space h o) (λ x is e. absurd cc)

  by_number : (o : Option Opcode) → IsUsual space (ask_number limits options space o h rest)
  by_number None = tt
  by_number (Some o) = by_opcode o

  by_header : IsUsual space (ask_header limits options space h rest)
  by_header =
      limit (IsUsual space) h rest (λ e. tt) (λ number. tt) (nat_lt (max_len limits) h.len) _
      (by_number (opcode_of h.opcode))

header_read : (P : Ask → Type 0) → ((e : Error) → P (refused e)) → (short : Bool) (h : InHeader)
    (next : InHeader → Ask) → P (next h) → P (refused_or (if short then Err DecodeMessage else Ok h) next)
header_read P refusal true h next p = refusal DecodeMessage
header_read P refusal false h next p = p

pub is_usual : (limits : Limits) (options space : ℕ) (request : List ℕ)
    → IsUsual space (ask limits options space request)
is_usual limits options space request =
    header_read (IsUsual space) (λ e. tt) (nat_lt (length request) (size_of in_header))
    (value_of in_header request) (λ h. ask_header limits options space h (drop (size_of in_header) request))
    (by_header limits options space (value_of in_header request) (drop (size_of in_header) request))
