-- What small callers cite: a record that fits, one that is cut, a directory that is not served.
use Rattle.std.proofs.Common.{◌≡◌, ◌≤◌, ◌<◌, ◌-◌, ◌^◌, ℕ, false, true, nat_lt, [], Option, Result, Ok, Err, length, take, MatchResult, arith, ap, ◌∙◌, length-take, List, ◌∷◌, ◌++◌, Some, None, refl, sym, sum_by}
use Rattle.std.proofs.lemmas.Bool.Decides.{nat_tests}
use Rattle.std.proofs.lemmas.List.{drop_all}
use Rattle.std.specs.List.{flat_map}
use Rattle.vfs_segments.specs.Written.{Written, wrote}
use Rattle.vfs_files.specs.Answers.{Plain, directory_answer}
use Rattle.vfs_files.specs.Calls.{not_served, no_such_call, Call, Handed}
use Rattle.vfs_files.specs.Values.{Item}
use Rattle.vfs_files.specs.declared.entry.Entry.{Entry}
use Rattle.vfs_files.specs.Runs.{Taken}
use Rattle.vfs_files.specs.declared.entry.Context.{Context}
use Rattle.vfs_grammar.proofs.Dirents.{length-record_bytes}
use Rattle.vfs_grammar.specs.Listing.{record_len, Verdict, Fails, Got, Line, Stop, End, At, line_events, stop_events, line_bytes, line_len, bytes_got, len_of, answer_at, answer_of, AreWritten, Stops, verdict}
use Rattle.vfs_grammar.specs.Words.{record_bytes}
use Rattle.vfs_grammar.proofs.Listings.{fits_within}
use Rattle.vfs_grammar.specs.Samples.{file_a}
use Rattle.vfs_listings.specs.Reading.{Adds, cut_by, cut_short, ReadsItems}

-- what fits is put
pub put_whole : (max : ℕ) (entry : Option Entry) (i : Item) (old new : Written)
    (result : Result ℕ (Option ℕ)) → Adds (verdict max (length old.left) (Ok entry) i) entry i old result
    new
    → length i.name < 2 ^ 32 → record_len entry i ≤ max → record_len entry i ≤ length old.left
    → new ≡ wrote old (record_bytes entry i)
put_whole max entry i old new result h short below room =
    let a : nat_lt (2 ^ 32 - 1) (length i.name) ≡ false = grind (arith, nat_tests) in
    let b : nat_lt max (record_len entry i) ≡ false = grind (arith, nat_tests) in
    let c : nat_lt (length old.left) (record_len entry i) ≡ false = grind (arith, nat_tests) in
    let fits = rw (a, b, c) at h in
    fits.1

-- what is too long for the room fills it
pub cut_fills : (max : ℕ) (entry : Option Entry) (i : Item) (old new : Written)
    (result : Result ℕ (Option ℕ)) → Adds (verdict max (length old.left) (Ok entry) i) entry i old result
    new
    → length i.name < 2 ^ 32 → record_len entry i ≤ max → length old.left < record_len entry i
    → new.left ≡ []
cut_fills max entry i old new result h short below room =
    let a : nat_lt (2 ^ 32 - 1) (length i.name) ≡ false = grind (arith, nat_tests) in
    let b : nat_lt max (record_len entry i) ≡ false = grind (arith, nat_tests) in
    let c : nat_lt (length old.left) (record_len entry i) ≡ true = grind (arith, nat_tests) in
    let cut = rw (a, b, c) at h in
    let all = length-take (length old.left) (record_bytes entry i) in
    let long = length-record_bytes entry i in
    ap (λ (w : Written). w.left) cut.1 ∙ drop_all
    (length (take (length old.left) (record_bytes entry i))) old.left
    (omega (arith, all, long, room))

-- where `readdir` is not served its fault is the answer, and nothing is put
pub not_opened : {S I : Type 0} (opened : Result I (Option ℕ)) (Reads : I → Type 0) (middle new : S)
    (room left : Written) (result : Result ℕ (Option ℕ))
    → directory_answer opened ≡ Plain no_such_call
    → MatchResult opened Reads (λ fault. (result ≡ Err fault) × (new ≡ middle) × (left ≡ room))
    → (result ≡ Err not_served) × (left ≡ room)
not_opened (Ok it) Reads middle new room left result h m = cc
not_opened (Err fault) Reads middle new room left result h m =
    let same : fault ≡ not_served = cc in
    (m.0 ∙ ap Err same, m.2)

-- a record of 32 bytes that may be put, and for which there are 31
cut_verdict : (max room : ℕ) (i : Item) → length i.name ≡ 1 → 32 ≤ max → room ≡ 31 → verdict max room (Ok None) i ≡ Fails None
cut_verdict max room i one below short =
    let len : record_len None i ≡ 32 = omega (arith, one) in
    let a : nat_lt (2 ^ 32 - 1) (length i.name) ≡ false = grind (arith, nat_tests) in
    let b : nat_lt max (record_len None i) ≡ false = grind (arith, nat_tests) in
    let c : nat_lt room (record_len None i) ≡ true = grind (arith, nat_tests) in
    rw (a, b, c) refl

module _ (ctx : Context) (parent size room : ℕ) (short : room ≡ 31) (asked : 32 ≤ size) where
  cut_at : (lines : List Line) (s : Stop) → AreWritten false size room 0 lines → Stops false size room (sum_by line_len lines) s
      → Taken (Some file_a) ∷ [] ≡ flat_map (line_events ctx parent false) lines ++ stop_events ctx parent false s
      → (flat_map line_bytes lines ++ cut_short size room (sum_by line_len lines) s ≡ take 31 (record_bytes None file_a))
      × (answer_of false size room (sum_by line_len lines) s ≡ Err None)
  cut_at [] End w stops e = cc
  cut_at [] (At last) w stops e =
      let item : last.item ≡ file_a = cc in
      let all : room - 0 ≡ 31 = omega (arith, short) in
      let is : (verdict (size - 0) (room - 0) last.got last.item) ≡ Fails None =
      ap (λ (g : Got). verdict (size - 0) (room - 0) g last.item) stops.0
      ∙ ap (λ (i : Item). verdict (size - 0) (room - 0) (Ok None) i) item
      ∙ cut_verdict (size - 0) (room - 0) file_a refl (omega (arith, asked)) all in
      let bytes : line_bytes last ≡ record_bytes None file_a =
      ap (λ (g : Got). bytes_got g last.item) stops.0 ∙ ap (record_bytes None) item in (
        ap (λ (v : Verdict). cut_by v (room - 0) (line_bytes last)) is ∙ ap (take (room - 0)) bytes
            ∙ ap (λ (n : ℕ). take n (record_bytes None file_a)) all,
        ap (answer_at false 0) is,
      )
  cut_at (l ∷ ls) s w stops e =
      let item : l.item ≡ file_a = cc in
      let fits = fits_within (size - 0) (room - 0) l.got l.item w.0 in
      let long : len_of l.got l.item ≡ 32 = ap (λ (g : Got). len_of g l.item) w.1 ∙ ap (record_len None) item in
      absurd (omega (arith, fits.1, long, short))

-- the room is full of the record's beginning
pub room_is_filled : {S I : Type 0} (allows : S → Call → Handed I → S → Type 0) (gives : I → Option Item → I → Type 0)
    (ctx : Context) (parent size : ℕ) (it : I) (old new : S) (room left : Written) (result : Result ℕ (Option ℕ))
    → (h : ReadsItems allows gives ctx false parent size it old room result new left)
    → h.events ≡ Taken (Some file_a) ∷ [] → length room.left ≡ 31 → 32 ≤ size
    → (result ≡ Err None) × (left.left ≡ [])
room_is_filled allows gives ctx parent size it old new room left result h are short asked =
    let l = h.listing in
    let cut = cut_at ctx parent size (length room.left) short asked l.lines l.stop l.written l.stops (sym are ∙ l.events_are) in
    let put = h.puts.wrote
    ∙ ap (λ (b : List ℕ). wrote room (b ++ cut_short size (length room.left) (sum_by line_len l.lines) l.stop)) l.records_are
    ∙ ap (wrote room) cut.0 in
    let some = length-take 31 (record_bytes None file_a) in
    let long = length-record_bytes None file_a in (
      l.answer_is ∙ cut.1,
      ap (λ (w : Written). w.left) put
          ∙ drop_all (length (take 31 (record_bytes None file_a))) room.left (omega (arith, some, long, short)),
    )

-- ---- a room that is too small
