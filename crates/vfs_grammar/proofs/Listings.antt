-- How long the records of a listing are.
use Rattle.std.proofs.Common.{◌≡◌, ◌≤◌, ◌+◌, ◌-◌, ◌^◌, ℕ, List, [], ◌∷◌, Bool, true, false, cond, nat_lt, Option, None, Result, Ok, Err, length, arith, refl, sym, ap, ◌∙◌, length-append, sum_by}
use Rattle.std.proofs.lemmas.Bool.{ltb-false}
use Rattle.std.proofs.lemmas.List.Sums.{sum_by-cons}
use Rattle.std.specs.List.{flat_map}
use Rattle.vfs_files.specs.Values.{Item}
use Rattle.vfs_files.specs.Runs.{Event}
use Rattle.vfs_files.specs.declared.entry.Context.{Context}
use Rattle.vfs_grammar.specs.Listing.{Verdict, Fits, Full, Fails, record_len, Got, Line, Stop, End, At, len_of, bytes_got, line_len, line_bytes, AreWritten, answer_at, answer_of, IsListing, verdict}
use Rattle.vfs_grammar.proofs.Dirents.{length-record_bytes}

-- ---- one record

-- the tests of a record, in order
fits_by : (a b c : Bool) (max room len : ℕ) (fault : Option ℕ) → (b ≡ false → len ≤ max)
    → (c ≡ false → len ≤ room)
    → cond a (Fails fault) (cond b Full (cond c (Fails None) Fits)) ≡ Fits
    → (len ≤ max) × (len ≤ room)
fits_by true b c max room len fault hb hc h = cc
fits_by false true c max room len fault hb hc h = cc
fits_by false false true max room len fault hb hc h = cc
fits_by false false false max room len fault hb hc h = (hb refl, hc refl)

-- what fits is no longer than what may be put, and than the room
pub fits_within : (max room : ℕ) (got : Got) (i : Item) → verdict max room got i ≡ Fits
    → (len_of got i ≤ max) × (len_of got i ≤ room)
fits_within max room (Err fault) i h = cc
fits_within max room (Ok entry) i h =
    fits_by (nat_lt (2 ^ 32 - 1) (length i.name)) (nat_lt max (record_len entry i))
    (nat_lt room (record_len entry i)) max room (record_len entry i) _
    (ltb-false max (record_len entry i)) (ltb-false room (record_len entry i)) h

-- what fits is as long as its record
pub length-bytes_got : (max room : ℕ) (got : Got) (i : Item) → verdict max room got i ≡ Fits
    → length (bytes_got got i) ≡ len_of got i
length-bytes_got max room (Ok entry) i h = length-record_bytes entry i
length-bytes_got max room (Err fault) i h = cc

-- ---- lines

-- the records of written lines are as long as their lengths say
pub length-lines : (plus : Bool) (size room written : ℕ) (ls : List Line)
    → AreWritten plus size room written ls
    → length (flat_map line_bytes ls) ≡ sum_by line_len ls
length-lines plus size room written [] w = refl
length-lines plus size room written (l ∷ ls) w =
    let rest = length-lines plus size room (written + line_len l) ls w.3 in
    let sum = sum_by-cons line_len l ls in
    let one = length-bytes_got (size - written) (room - written) l.got l.item w.0 in
    length-append (line_bytes l) (flat_map line_bytes ls) ∙ omega (arith, sum, rest, one)

-- written lines are within what may be put
pub lines_within : (plus : Bool) (size room written : ℕ) (ls : List Line)
    → AreWritten plus size room written ls → written ≤ size
    → written + sum_by line_len ls ≤ size
lines_within plus size room written [] w h = omega arith
lines_within plus size room written (l ∷ ls) w h =
    let here = fits_within (size - written) (room - written) l.got l.item w.0 in
    let rest = lines_within plus size room (written + line_len l) ls w.3 (omega (arith, here.0)) in
    let sum = sum_by-cons line_len l ls in
    omega (arith, sum, rest)

-- ---- a listing

told_by : (b : Bool) (total : ℕ) (fault : Option ℕ) (n : ℕ)
    → Ok n ≡ cond {A = Result ℕ (Option ℕ)} b (Ok total) (Err fault) → n ≡ total
told_by true total fault n e = cc
told_by false total fault n e = cc

answer_at_is : (plus : Bool) (total n : ℕ) (v : Verdict) → Ok n ≡ answer_at plus total v → n ≡ total
answer_at_is plus total n Fits e = cc
answer_at_is plus total n Full e = cc
answer_at_is false total n (Fails fault) e = cc
answer_at_is true total n (Fails fault) e = told_by (nat_lt 0 total) total fault n e

answer_of_is : (plus : Bool) (size room total n : ℕ) (stop : Stop)
    → Ok n ≡ answer_of plus size room total stop → n ≡ total
answer_of_is plus size room total n End e = cc
answer_of_is plus size room total n (At l) e = answer_at_is plus total n ((verdict (size - total) (room - total) l.got l.item)) e

module _ {plus : Bool} {ctx : Context} {parent size room : ℕ} {events : List Event} {body : List ℕ}
    {result : Result ℕ (Option ℕ)} where
  -- a listing that answers a number answers the length of its records
  pub length-listing : IsListing plus ctx parent size room events body result → (n : ℕ)
      → result ≡ Ok n → n ≡ length body
  length-listing h n e =
      let total : n ≡ sum_by line_len h.lines =
      answer_of_is plus size room (sum_by line_len h.lines) n h.stop (sym e ∙ h.answer_is) in
      total ∙ sym (ap length h.records_are ∙ length-lines plus size room 0 h.lines h.written)

  -- its records are no longer than was asked for
  pub listing_within : IsListing plus ctx parent size room events body result → length body ≤ size
  listing_within h =
      let long = ap length h.records_are ∙ length-lines plus size room 0 h.lines h.written in
      let within = lines_within plus size room 0 h.lines h.written (omega arith) in
      omega (arith, long, within)
