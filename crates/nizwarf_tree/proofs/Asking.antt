-- What a request asks by the rows that the file system offers.
use Rattle.std.proofs.Common.{◌≡◌, ◌==◌, ◌&&◌, ◌+◌, ℕ, Bool, true, false, List, length, drop, nat_le, nat_lt, if◌then◌else◌, Result, Ok, Err, refl, subst}
use Rattle.vfs_flags.specs.Flags.{has_flag}
use Rattle.vfs_wire.specs.Records.{in_header}
use Rattle.vfs_wire.specs.declared.headers.InHeader.{InHeader}
use Rattle.vfs_wire_more.specs.Locks.{lk_in}
use Rattle.vfs_wire_more.specs.Devices.{ioctl_in, statx_in}
use Rattle.vfs_grammar.specs.Limits.{max_len}
use Rattle.vfs_grammar.specs.Records.{record_of, size_of}
use Rattle.vfs_grammar.specs.declared.error.Error.{Error}
use Rattle.vfs_grammar.specs.declared.limits.Limits.{Limits}
use Rattle.codec_calls.specs.declared.call.CallData.{CallData}
use Rattle.codec_calls.specs.declared.call.kind.TheConstants as kind
use Rattle.codec_calls.specs.declared.call.number.TheConstants as number
use Rattle.codec_decode.specs.declared.offers.TheConstants as row
use Rattle.codec_decode.specs.Further.{What, Ordinary, Short, Row, Unnamed, Tells, ioctl_place, or_short, row_of, told_under, what_after}
use Rattle.codec_decode.specs.declared.row.Further.{Further}
use Rattle.codec_decode.specs.declared.row.Further.TheVariants as further
use Rattle.vfs_server.specs.Step.{ServerState}
use Rattle.nizwarf_tree.specs.Files.{State}
use Rattle.nizwarf_tree.specs.Offered.{AsksRow, row_limits, what_asked}
use Rattle.nizwarf_tree.specs.declared.files.TheConstants.{OFFERS}

-- ---- each row that is offered is answered a text

-- a call of a row that a request asks for is
abbrev pub TextOf : What → Type 0
TextOf (Row told) = told.answer ≡ kind.BYTES
TextOf Ordinary = Unit {0}
TextOf Short = Unit {0}
TextOf Unnamed = Unit {0}

pub record IsText (what : What) : Type 0 where
  pub text : TextOf what

by_record : {R : Type 0} (r : Result R Error) (next : R → What) → ((x : R) → IsText (next x)) → IsText (or_short r next)
by_record (Err error) next is = record { text = tt {0} }
by_record (Ok x) next is = is x

whole : (b : Bool) (told : CallData) → told.answer ≡ kind.BYTES → IsText (if b then Row told else Short)
whole true told is = record { text = is }
whole false told is = record { text = tt {0} }

-- a row is asked for where it is offered; and else the next ones
next : (asks offered : Bool) (this rest : What) → (offered ≡ true → IsText this) → IsText rest
    → IsText (if asks && offered then this else rest)
next true true this rest is others = is refl
next true false this rest is others = others
next false true this rest is others = others
next false false this rest is others = others

-- it is not offered
none : {A : Type 0} → false ≡ true → A
none never = absurd (cc never)

module _ (h : InHeader) (rest : List ℕ) (len : ℕ) where
  of_row : IsText (row_of OFFERS h rest len)
  of_row =
      next (h.opcode == number.GETLK) (has_flag OFFERS row.LOCKS) _ _
      (λ _. by_record (record_of lk_in rest) _ (λ r. record { text = refl }))
      (next (h.opcode == number.SETLK) (has_flag OFFERS row.LOCKS) _ _ (λ never. none never)
      (next (h.opcode == number.SETLKW) (has_flag OFFERS row.LOCKS) _ _ (λ never. none never)
      (next (h.opcode == number.BMAP) (has_flag OFFERS row.BMAP) _ _ (λ never. none never)
      (next (h.opcode == number.IOCTL) (has_flag OFFERS row.IOCTL) _ _
      (λ _. by_record (record_of ioctl_in rest) _ (λ r. whole (nat_le (ioctl_place + r.in_size) len) _ refl))
      (next (h.opcode == number.POLL) (has_flag OFFERS row.POLL) _ _ (λ never. none never)
      (next (h.opcode == number.NOTIFY_REPLY) (has_flag OFFERS row.NOTIFY_REPLY) _ _ (λ never. none never)
      (next (h.opcode == number.TMPFILE) (has_flag OFFERS row.TMPFILE) _ _ (λ _. record { text = tt {0} })
      (next (h.opcode == number.STATX) (has_flag OFFERS row.STATX) _ _
      (λ _. by_record (record_of statx_in rest) _ (λ r. record { text = refl }))
      (next (h.opcode == number.COPY_64) (has_flag OFFERS row.COPY_64) _ _ (λ never. none never)
      (record { text = tt {0} }))))))))))

  by_limit : (above : Bool) → IsText (if above then Ordinary else row_of OFFERS h rest len)
  by_limit true = record { text = tt {0} }
  by_limit false = of_row

by_header : (limits : Limits) (h : Result InHeader Error) (rest : List ℕ) (len : ℕ)
    → IsText (what_after OFFERS limits h rest len)
by_header limits (Err error) rest len = record { text = tt {0} }
by_header limits (Ok h) rest len = by_limit h rest len (nat_lt (max_len limits) h.len)

pub are_texts : (limits : Limits) (q : List ℕ) → IsText (what_asked limits q)
are_texts limits q = by_header (row_limits limits) (record_of in_header q) (drop (size_of in_header) q) (length q)

-- ---- what was told

module _ (server : ServerState State) (total : ℕ) (q : List ℕ) (result : Further) (call after : CallData) where
  abbrev Told : What → Type 0
  Told w = Tells w (told_under server.options total) result call after

  -- it was one of these, by the result
  pub is_ordinary : (w : What) → Told w → result ≡ further.Ordinary → w ≡ Ordinary
  is_ordinary Ordinary t is = refl
  is_ordinary Short t is = absurd (cc (t.0, is))
  is_ordinary (Row told) t is = absurd (cc (t.0, is))
  is_ordinary Unnamed t is = absurd (cc (t.0, is))

  pub is_short : (w : What) → Told w → result ≡ further.Short → w ≡ Short
  is_short Ordinary t is = absurd (cc (t.0, is))
  is_short Short t is = refl
  is_short (Row told) t is = absurd (cc (t.0, is))
  is_short Unnamed t is = absurd (cc (t.0, is))

  pub is_unnamed : (w : What) → Told w → result ≡ further.Unnamed → w ≡ Unnamed
  is_unnamed Ordinary t is = absurd (cc (t.0, is))
  is_unnamed Short t is = absurd (cc (t.0, is))
  is_unnamed (Row told) t is = absurd (cc (t.0, is))
  is_unnamed Unnamed t is = refl

  row_told : (w : What) → what_asked server.limits q ≡ w → Told w → result ≡ further.Row → AsksRow server total q after
  row_told Ordinary asks t is = absurd (cc (t.0, is))
  row_told Short asks t is = absurd (cc (t.0, is))
  row_told (Row told) asks t is = record { row = told; asks = asks; told = t.1 }
  row_told Unnamed asks t is = absurd (cc (t.0, is))

  pub is_row : Told (what_asked server.limits q) → result ≡ further.Row → AsksRow server total q after
  is_row t is = row_told (what_asked server.limits q) refl t is

  pub is_text : AsksRow server total q after → after.answer ≡ kind.BYTES
  is_text a =
      let text : IsText (Row a.row) = subst IsText a.asks (are_texts server.limits q) in
      rw a.told text.text
