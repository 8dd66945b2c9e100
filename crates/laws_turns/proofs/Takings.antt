-- How many items a listing takes, and that it is whole where nothing cuts it short.
use Rattle.std.proofs.Common.{◌≡◌, ◌≤◌, ◌<◌, ◌≢◌, ◌+◌, ◌-◌, ◌*◌, ◌/◌, ◌^◌, ℕ, List, [], ◌∷◌, ◌++◌, Bool, true, false, cond, nat_lt, Option, Some, None, Result, Ok, Err, length, map, inl, inr, arith, refl, sym, ap, ◌∙◌, length-append, sum_by}
use Rattle.std.proofs.lemmas.Bool.{ltb-true, ltb-false}
use Rattle.std.proofs.lemmas.Bool.Decides.{nat_tests}
use Rattle.std.proofs.lemmas.List.{length-map}
use Rattle.std.proofs.lemmas.List.Elements.{All-nil, All-cons, All-head, All-tail, All-same}
use Rattle.std.proofs.lemmas.List.Sums.{sum_by-cons}
use Rattle.std.specs.List.{All, flat_map}
use Rattle.vfs_files.specs.Calls.{Lookup, Failed}
use Rattle.vfs_files.specs.Values.{Item}
use Rattle.vfs_files.specs.Runs.{Event, Called, OpenedDirectory, Taken}
use Rattle.vfs_files.specs.declared.entry.Context.{Context}
use Rattle.vfs_files.specs.declared.entry.Entry.{Entry}
use Rattle.vfs_grammar.specs.Directories.{takings, least_record, GoesOn, IsWhole}
use Rattle.vfs_grammar.specs.Listing.{Fits, Full, Fails, record_len, Got, Line, Stop, End, At, Gets, is_dot, line_events, given_back, node_got, stop_events, Stops, len_of, line_len, line_bytes, AreWritten, answer_at, answer_of, IsListing, IsGot, verdict}
use Rattle.vfs_grammar.specs.Words.{lookup_of, lookups}
use Rattle.vfs_grammar.proofs.Listings.{length-lines, lines_within}

-- ---- how many are taken

least_by : (plus dot : Bool) (max room : ℕ) (got : Got) (i : Item) → verdict max room got i ≡ Fits
    → Gets plus dot i got → least_record plus ≤ len_of got i
least_by plus dot max room (Err fault) i h g = cc
least_by false dot max room (Ok entry) i h g = omega arith
least_by true true max room (Ok None) i h g = absurd g
least_by true false max room (Ok None) i h g = absurd g
least_by true dot max room (Ok (Some e)) i h g = omega arith

-- each written line is at least as long as the shortest record
pub lines_least : (plus : Bool) (size room written : ℕ) (ls : List Line)
    → AreWritten plus size room written ls → least_record plus * length ls ≤ sum_by line_len ls
lines_least false size room written [] w = omega arith
lines_least true size room written [] w = omega arith
lines_least false size room written (l ∷ ls) w =
    let sum = sum_by-cons line_len l ls in
    let rest = lines_least false size room (written + line_len l) ls w.3 in
    let one = least_by false (is_dot l.item.name) (size - written) (room - written) l.got l.item w.0
    w.1 in
    omega (arith, sum, rest, one)
lines_least true size room written (l ∷ ls) w =
    let sum = sum_by-cons line_len l ls in
    let rest = lines_least true size room (written + line_len l) ls w.3 in
    let one = least_by true (is_dot l.item.name) (size - written) (room - written) l.got l.item w.0
    w.1 in
    omega (arith, sum, rest, one)

takings-append : (xs ys : List Event) → takings (xs ++ ys) ≡ takings xs ++ takings ys
takings-append [] ys = refl
takings-append (Called call answer ∷ xs) ys = takings-append xs ys
takings-append (OpenedDirectory call ∷ xs) ys = takings-append xs ys
takings-append (Taken item ∷ xs) ys = ap (λ l. item ∷ l) (takings-append xs ys)

takings-lookup : (ctx : Context) (parent : ℕ) (name : List ℕ) (got : Got)
    → takings (lookup_of ctx parent name got) ≡ []
takings-lookup ctx parent name (Ok (Some entry)) = refl
takings-lookup ctx parent name (Ok None) = refl
takings-lookup ctx parent name (Err fault) = refl

takings-lookups : (plus dot : Bool) (ctx : Context) (parent : ℕ) (l : Line)
    → takings (lookups ctx parent plus dot l) ≡ []
takings-lookups false dot ctx parent l = refl
takings-lookups true true ctx parent l = refl
takings-lookups true false ctx parent l = takings-lookup ctx parent l.item.name l.got

-- the items of lines
abbrev items_of : List Line → List (Option Item)
items_of ls = map (λ l. Some l.item) ls

takings-line : (plus : Bool) (ctx : Context) (parent : ℕ) (l : Line)
    → takings (line_events ctx parent plus l) ≡ Some l.item ∷ []
takings-line plus ctx parent l = ap (λ t. Some l.item ∷ t)
    (takings-lookups plus (is_dot l.item.name) ctx parent l)

takings-lines : (plus : Bool) (ctx : Context) (parent : ℕ) (ls : List Line)
    → takings (flat_map (line_events ctx parent plus) ls) ≡ items_of ls
takings-lines plus ctx parent [] = refl
takings-lines plus ctx parent (l ∷ ls) =
    takings-append (line_events ctx parent plus l) (flat_map (line_events ctx parent plus) ls)
    ∙ ap (λ t. t ++ takings (flat_map (line_events ctx parent plus) ls))
    (takings-line plus ctx parent l)
    ∙ ap (λ t. Some l.item ∷ t) (takings-lines plus ctx parent ls)

takings-back : (ctx : Context) (got : Got) → takings (given_back ctx (node_got got)) ≡ []
takings-back ctx (Ok (Some e)) = refl
takings-back ctx (Ok None) = refl
takings-back ctx (Err fault) = refl

-- the item of a stop
abbrev last_of : Stop → Option Item
last_of End = None
last_of (At l) = Some l.item

takings-stop : (plus : Bool) (ctx : Context) (parent : ℕ) (stop : Stop)
    → takings (stop_events ctx parent plus stop) ≡ last_of stop ∷ []
takings-stop plus ctx parent End = refl
takings-stop plus ctx parent (At l) =
    takings-append (line_events ctx parent plus l) (given_back ctx (node_got l.got))
    ∙ ap (λ t. t ++ takings (given_back ctx (node_got l.got))) (takings-line plus ctx parent l)
    ∙ ap (λ t. Some l.item ∷ t) (takings-back ctx l.got)

bound_by : (plus : Bool) (size n total : ℕ) → least_record plus * n ≤ total → total ≤ size
    → n + 1 ≤ size / least_record plus + 1
bound_by false size n total least within = omega arith
bound_by true size n total least within = omega arith

-- a listing takes no more items than there is place for shortest records, and one
pub takings_bounded : (plus : Bool) (ctx : Context) (parent size room : ℕ) (events : List Event)
    (body : List ℕ) (result : Result ℕ (Option ℕ))
    → IsListing plus ctx parent size room events body result
    → length (takings events) ≤ size / least_record plus + 1
takings_bounded plus ctx parent size room events body result h =
    let within = lines_within plus size room 0 h.lines h.written (omega arith) in
    let least = lines_least plus size room 0 h.lines h.written in
    let all : takings events ≡ items_of h.lines ++ last_of h.stop ∷ [] =
    ap takings h.events_are
    ∙ takings-append (flat_map (line_events ctx parent plus) h.lines)
    (stop_events ctx parent plus h.stop)
    ∙ ap (λ t. t ++ takings (stop_events ctx parent plus h.stop))
    (takings-lines plus ctx parent h.lines)
    ∙ ap (λ t. items_of h.lines ++ t) (takings-stop plus ctx parent h.stop) in
    let many : length (takings events) ≡ length h.lines + 1 = ap length all
    ∙ length-append (items_of h.lines) (last_of h.stop ∷ [])
    ∙ ap (λ n. n + 1) (length-map h.lines (λ l. Some l.item)) in
    let bound = bound_by plus size (length h.lines) (sum_by line_len h.lines) least
    (omega (arith, within)) in
    omega (arith, many, bound)

-- ---- a directory that nothing cuts short

All-back : {X : Type 0} (P : X → Type 0) (xs ys : List X) → All P (xs ++ ys) → All P ys
All-back P [] ys h = h
All-back P (x ∷ xs) ys h = All-back P xs ys (All-tail P x (xs ++ ys) h)

-- an item that was looked up where nothing failed got an entry
looked_up : (ctx : Context) (parent : ℕ) (name : List ℕ) (fault : Option ℕ) (rest : List Event)
    → All GoesOn (lookup_of ctx parent name (Err fault) ++ rest) → ⊥
looked_up ctx parent name fault rest h = All-head GoesOn
    (Called (Lookup ctx parent name) (Failed fault)) rest h

not_failed : (plus dot : Bool) (ctx : Context) (parent : ℕ) (i : Item) (fault : Option ℕ)
    (rest : List Event) → Gets plus dot i (Err fault)
    → All GoesOn (lookups ctx parent plus dot (record { item = i; got = Err fault }) ++ rest) → ⊥
not_failed false dot ctx parent i fault rest g h = cc
not_failed true true ctx parent i fault rest g h = g
not_failed true false ctx parent i fault rest g h = looked_up ctx parent i.name fault rest h

-- a record with a short name that does not fit into a room of at least `max` is longer than `max`
full_by : (a b c : Bool) (max room len : ℕ) → a ≡ false → (b ≡ true → max < len)
    → (b ≡ false → len ≤ max) → (c ≡ true → room < len) → max ≤ room
    → cond a (Fails (Some 75)) (cond b Full (cond c (Fails None) Fits)) ≢ Fits
    → (cond a (Fails (Some 75)) (cond b Full (cond c (Fails None) Fits)) ≡ Full) × (max < len)
full_by true b c max room len short above below past roomy wrong = cc
full_by false true c max room len short above below past roomy wrong = (refl, above refl)
full_by false false true max room len short above below past roomy wrong =
    let l = below refl in
    let p = past refl in
    absurd (omega (arith, l, p))
full_by false false false max room len short above below past roomy wrong = absurd (wrong refl)

verdict_full : (max room : ℕ) (entry : Option Entry) (i : Item) → length i.name < 2 ^ 32
    → max ≤ room → verdict max room (Ok entry) i ≢ Fits
    → (verdict max room (Ok entry) i ≡ Full) × (max < record_len entry i)
verdict_full max room entry i short roomy wrong =
    full_by (nat_lt (2 ^ 32 - 1) (length i.name)) (nat_lt max (record_len entry i))
    (nat_lt room (record_len entry i)) max room (record_len entry i)
    (grind (arith, nat_tests)) (ltb-true max (record_len entry i))
    (ltb-false max (record_len entry i)) (ltb-true room (record_len entry i)) roomy wrong

stop_full : (plus : Bool) (ctx : Context) (parent max room : ℕ) (i : Item) (got : Got)
    → Gets plus (is_dot i.name) i got
    → All GoesOn (stop_events ctx parent plus (At (record { item = i; got = got }))) → max ≤ room
    → verdict max room got i ≢ Fits
    → (verdict max room got i ≡ Full) × (max < len_of got i)
stop_full plus ctx parent max room i (Ok entry) g h roomy wrong =
    verdict_full max room entry i (All-head GoesOn (Taken (Some i)) _ h) roomy wrong
stop_full plus ctx parent max room i (Err fault) g h roomy wrong =
    absurd (not_failed plus (is_dot i.name) ctx parent i fault [] g
    (All-tail GoesOn (Taken (Some i)) (lookups ctx parent plus (is_dot i.name)
    (record { item = i; got = Err fault }) ++ []) h))

-- lines that were written have what their items get
got_of_written : (plus : Bool) (size room written : ℕ) (ls : List Line)
    → AreWritten plus size room written ls → All (IsGot plus) ls
got_of_written plus size room written [] w = All-nil (IsGot plus)
got_of_written plus size room written (l ∷ ls) w = All-cons (IsGot plus) l ls w.1
    (got_of_written plus size room (written + line_len l) ls w.3)

module _ (plus : Bool) (ctx : Context) (parent size room : ℕ) (events : List Event) (body : List ℕ)
    (result : Result ℕ (Option ℕ)) where
  whole_by : (lines : List Line) (stop : Stop) → AreWritten plus size room 0 lines
      → Stops plus size room (sum_by line_len lines) stop
      → events ≡ flat_map (line_events ctx parent plus) lines ++ stop_events ctx parent plus stop
      → body ≡ flat_map line_bytes lines
      → result ≡ answer_of plus size room (sum_by line_len lines) stop → size ≤ room
      → All GoesOn events
      → IsWhole plus ctx parent size events body result
  whole_by lines End written stops events_are records_are answer_is roomy goes =
      let long = ap length records_are ∙ length-lines plus size room 0 lines written in
      let within = lines_within plus size room 0 lines written (omega arith) in
      record {
        lines = lines;
        got = got_of_written plus size room 0 lines written;
        records_are = records_are;
        answer_is = answer_is
            ∙ ap Ok (sym long);
        within = omega (arith, long, within);
        ends = inl events_are;
      }
  whole_by lines (At l) written stops events_are records_are answer_is roomy goes =
      let total = sum_by line_len lines in
      let long : length body ≡ total = ap length records_are
      ∙ length-lines plus size room 0 lines written in
      let within = lines_within plus size room 0 lines written (omega arith) in
      let last = All-back GoesOn (flat_map (line_events ctx parent plus) lines)
      (stop_events ctx parent plus (At l)) (All-same GoesOn _ _ (sym events_are) goes) in
      let full = stop_full plus ctx parent (size - total) (room - total) l.item l.got stops.0 last
      (omega arith) stops.1 in
      record {
        lines = lines;
        got = got_of_written plus size room 0 lines written;
        records_are = records_are;
        answer_is = answer_is ∙ ap (λ v. answer_at plus total v) full.0 ∙ ap Ok (sym long);
        within = omega (arith, long, within);
        ends = inr (record {
          last = l;
          events_are = events_are;
          got = stops.0;
          passes =
              omega (arith, full.1, long, within);
        });
      }

  -- where the room is at least `size` and nothing cuts the reading short, the directory is whole
  pub listing_whole : IsListing plus ctx parent size room events body result → size ≤ room
      → All GoesOn events → IsWhole plus ctx parent size events body result
  listing_whole h roomy goes = whole_by h.lines h.stop h.written h.stops h.events_are h.records_are
      h.answer_is roomy goes
