-- What small callers cite of directories: the lines of literal events, what they put, and what is
-- answered.
use Rattle.std.proofs.Common.{◌≡◌, ◌<◌, ◌≤◌, ◌-◌, ◌⊎◌, ℕ, List, [], ◌∷◌, ◌++◌, Bool, true, false, Option, Some, None, Result, Ok, Err, length, refl, sym, ap, subst, ◌∙◌, inl, inr, arith, append_assoc, append-nil, length-append, sum_by}
use Rattle.std.proofs.lemmas.List.Elements.{All-nil, All-cons, All-head, All-tail}
use Rattle.std.specs.List.{All, flat_map}
use Rattle.vfs_wire.specs.Fields.{little, bytes_of}
use Rattle.vfs_wire.specs.Records.{entry_out}
use Rattle.vfs_wire.specs.declared.entries.EntryOut.{EntryOut}
use Rattle.vfs_files.specs.Calls.{Readdir, Lookup, Forget, Failed, Found, Done}
use Rattle.vfs_files.specs.Values.{entry_out_of, Item}
use Rattle.vfs_files.specs.Runs.{Event, Called, Taken}
use Rattle.vfs_files.specs.declared.entry.Context.{Context}
use Rattle.vfs_files.specs.declared.entry.Entry.{Entry}
use Rattle.vfs_grammar.specs.Directories.{GoesOn, EndsWhole, EndsFull, IsWhole}
use Rattle.vfs_grammar.specs.Listing.{Got, Line, Stop, End, At, Gets, IsGot, is_dot, dot_out, line_events, stop_events, given_back, node_got, line_bytes, line_len, bytes_got, len_of, answer_at, answer_of, AreWritten, Stops, IsListing, verdict, Fails, Fits, dirent_bytes, record_len}
use Rattle.vfs_grammar.specs.Words.{IsDotEntry, lookups, lookup_of, record_bytes, IsDirectoryOf}
use Rattle.vfs_grammar.proofs.Dirents.{length-record_bytes}
use Rattle.vfs_grammar.specs.Samples.{file_a, root_dot, record_of_a, record_of_dot, entry_of_dot}

-- ---- records

pub record_of_a_is : record_bytes None file_a ≡ record_of_a
unfolding dirent_bytes little
record_of_a_is = refl

record_of_dot_is : bytes_of entry_out (dot_out root_dot) ++ dirent_bytes root_dot ≡ entry_of_dot ++ record_of_dot
unfolding dirent_bytes little
record_of_dot_is = refl

-- ---- READDIR

module _ (ctx : Context) (parent : ℕ) (i : Item) where
  -- the lines after which a READDIR that took one item ended
  one_line : (lines : List Line) → All (IsGot false) lines
      → Taken (Some i) ∷ Taken None ∷ [] ≡ flat_map (line_events ctx parent false) lines ++ stop_events ctx parent false End
      → flat_map line_bytes lines ≡ record_bytes None i
  one_line [] got e = cc
  one_line (l ∷ []) got e =
      let same : l.item ≡ i = cc in
      append-nil (line_bytes l)
      ∙ ap (λ (g : Got). bytes_got g l.item) (All-head (IsGot false) l [] got)
      ∙ ap (record_bytes None) same
  one_line (l ∷ k ∷ ls) got e = cc

  -- and no READDIR that stops at an item takes the end
  not_full : (lines : List Line) (last : Line) → IsGot false last
      → Taken (Some i) ∷ Taken None ∷ [] ≡ flat_map (line_events ctx parent false) lines ++ stop_events ctx parent false (At last)
      → ⊥
  not_full [] last got e = let back = ap (λ (g : Got). given_back ctx (node_got g)) got in cc
  not_full (l ∷ []) last got e = cc
  not_full (l ∷ k ∷ ls) last got e = cc

pub one_file : (ctx : Context) (parent size : ℕ) (body : List ℕ) (result : Result ℕ (Option ℕ))
    → IsWhole false ctx parent size (Taken (Some file_a) ∷ Taken None ∷ []) body result
    → (body ≡ record_of_a) × (result ≡ Ok 32) × (32 ≤ size)
one_file ctx parent size body result h =
    let lines : flat_map line_bytes h.lines ≡ record_bytes None file_a =
    elim h.ends [
      | inl ended ↦ one_line ctx parent file_a h.lines h.got ended
      | inr full ↦ absurd (not_full ctx parent file_a h.lines full.last full.got full.events_are)
    ] in
    let is : body ≡ record_of_a = h.records_are ∙ lines ∙ record_of_a_is in
    let long : length body ≡ 32 = ap length is in
    (is, h.answer_is ∙ ap Ok long, omega (arith, long, h.within))

pub one_file_goes_on : All GoesOn (Taken (Some file_a) ∷ Taken None ∷ [])
one_file_goes_on =
    All-cons GoesOn (Taken (Some file_a)) (Taken None ∷ []) (omega arith)
    (All-cons GoesOn (Taken None) [] tt (All-nil GoesOn))

-- ---- READDIRPLUS

-- a stop's item, where it has one, got what it should
abbrev StopGot : Stop → Type 0
StopGot End = Unit {0}
StopGot (At l) = IsGot true l

dot_entry : (got : Got) → IsDotEntry root_dot got
    → (entry : Entry) × (got ≡ Ok (Some entry)) × (entry_out_of entry ≡ dot_out root_dot)
dot_entry (Ok (Some entry)) h = (entry, refl, h)
dot_entry (Ok None) h = absurd h
dot_entry (Err fault) h = absurd h

module _ (ctx : Context) (parent : ℕ) where
  -- `.` is taken, and nothing is looked up
  dot_then : (l : Line) (rest tail : List Event)
      → Taken (Some root_dot) ∷ rest ≡ line_events ctx parent true l ++ tail
      → (l.item ≡ root_dot) × (rest ≡ tail)
  dot_then l rest tail e =
      let item : l.item ≡ root_dot = cc in
      let none : lookups ctx parent true (is_dot l.item.name) l ≡ [] =
      ap (λ (j : Item). lookups ctx parent true (is_dot j.name) (record { item = j; got = l.got })) item in
      (item, (let f = ap (λ (es : List Event). es ++ tail) none in cc))

  -- `.` gets its own entry
  dot_got : (l : Line) → l.item ≡ root_dot → IsGot true l → IsDotEntry root_dot l.got
  dot_got l item got = subst (λ (j : Item). Gets true (is_dot j.name) j l.got) item got

  -- the bytes of `.`
  dot_bytes : (l : Line) → l.item ≡ root_dot → IsGot true l → line_bytes l ≡ entry_of_dot ++ record_of_dot
  dot_bytes l item got =
      let d = dot_entry l.got (dot_got l item got) in
      ap (λ (g : Got). bytes_got g l.item) d.1 ∙ ap (record_bytes (Some d.0)) item
      ∙ ap (λ (o : EntryOut). bytes_of entry_out o ++ dirent_bytes root_dot) d.2 ∙ record_of_dot_is

  -- what `a` got, by the answer of its lookup
  found_by : (got : Got) (entry : Entry) (rest tail : List Event) → Gets true false file_a got
      → Called (Lookup ctx parent (97 ∷ [])) (Found entry) ∷ rest ≡ lookup_of ctx parent (97 ∷ []) got ++ tail
      → (got ≡ Ok (Some entry)) × (rest ≡ tail)
  found_by (Ok (Some other)) entry rest tail h e = let same : entry ≡ other = cc in (ap (λ (x : Entry). Ok (Some x)) (sym same), cc)
  found_by (Ok None) entry rest tail h e = absurd h
  found_by (Err fault) entry rest tail h e = cc

  -- the lookup of `a` failed
  failed_by : (got : Got) (fault : Option ℕ) (rest tail : List Event) → Gets true false file_a got
      → Called (Lookup ctx parent (97 ∷ [])) (Failed fault) ∷ rest ≡ lookup_of ctx parent (97 ∷ []) got ++ tail
      → got ≡ Err fault
  failed_by (Ok (Some other)) fault rest tail h e = cc
  failed_by (Ok None) fault rest tail h e = absurd h
  failed_by (Err other) fault rest tail h e = cc

  -- `a` is taken, and looked up
  a_then : (l : Line) (rest tail : List Event) → IsGot true l
      → Taken (Some file_a) ∷ rest ≡ line_events ctx parent true l ++ tail
      → (l.item ≡ file_a) × Gets true false file_a l.got × (rest ≡ lookup_of ctx parent (97 ∷ []) l.got ++ tail)
  a_then l rest tail got e =
      let item : l.item ≡ file_a = cc in
      let looked : lookups ctx parent true (is_dot l.item.name) l ≡ lookup_of ctx parent (97 ∷ []) l.got =
      ap (λ (j : Item). lookups ctx parent true (is_dot j.name) (record { item = j; got = l.got })) item in (
        item,
        subst (λ (j : Item). Gets true (is_dot j.name) j l.got) item got,
        (let f = ap (λ (es : List Event). es ++ tail) looked in cc),
      )

  -- nothing is taken by what is given back
  back_takes_none : (got : Got) (item : Option Item) (rest : List Event) → Taken item ∷ rest ≡ given_back ctx (node_got got) → ⊥
  back_takes_none (Ok (Some entry)) item rest e = cc
  back_takes_none (Ok None) item rest e = cc
  back_takes_none (Err fault) item rest e = cc

  -- after the end there is no line
  none_left : (ls : List Line) (s : Stop)
      → Taken None ∷ [] ≡ flat_map (line_events ctx parent true) ls ++ stop_events ctx parent true s
      → flat_map line_bytes ls ≡ []
  none_left [] s e = refl
  none_left (l ∷ ls) s e = cc

  module _ (entry : Entry) where
    -- `.` and `a` are taken, and `a` is looked up, and then the end comes
    abbrev pub dot_and_a : List Event
    dot_and_a =
        Taken (Some root_dot) ∷ Taken (Some file_a) ∷ Called (Lookup ctx parent (97 ∷ [])) (Found entry) ∷ Taken None ∷ []

    after_dot : (ls : List Line) (s : Stop) → All (IsGot true) ls → StopGot s
        → Taken (Some file_a) ∷ Called (Lookup ctx parent (97 ∷ [])) (Found entry) ∷ Taken None ∷ []
        ≡ flat_map (line_events ctx parent true) ls ++ stop_events ctx parent true s
        → flat_map line_bytes ls ≡ record_bytes (Some entry) file_a
    after_dot [] End all got e = cc
    after_dot [] (At last) all got e =
        let a = a_then last _ (given_back ctx (node_got last.got)) got e in
        let f = found_by last.got entry _ (given_back ctx (node_got last.got)) a.1 a.2 in
        absurd (back_takes_none last.got None [] f.1)
    after_dot (k ∷ ks) s all got e =
        let here = All-head (IsGot true) k ks all in
        let tail = flat_map (line_events ctx parent true) ks ++ stop_events ctx parent true s in
        let a = a_then k _ tail here
        (e ∙ append_assoc (line_events ctx parent true k) (flat_map (line_events ctx parent true) ks) (stop_events ctx parent true s)) in
        let f = found_by k.got entry _ tail a.1 a.2 in
        let none = none_left ks s f.1 in
        let mine : line_bytes k ≡ record_bytes (Some entry) file_a =
        ap (λ (g : Got). bytes_got g k.item) f.0 ∙ ap (record_bytes (Some entry)) a.0 in
        ap (λ (bs : List ℕ). line_bytes k ++ bs) none ∙ append-nil (line_bytes k) ∙ mine

    both_lines : (ls : List Line) (s : Stop) → All (IsGot true) ls → StopGot s
        → dot_and_a ≡ flat_map (line_events ctx parent true) ls ++ stop_events ctx parent true s
        → flat_map line_bytes ls ≡ (entry_of_dot ++ record_of_dot) ++ record_bytes (Some entry) file_a
    both_lines [] End all got e = cc
    both_lines [] (At last) all got e =
        absurd (back_takes_none last.got _ _ (dot_then last _ (given_back ctx (node_got last.got)) e).1)
    both_lines (l ∷ ls) s all got e =
        let here = All-head (IsGot true) l ls all in
        let d = dot_then l _ (flat_map (line_events ctx parent true) ls ++ stop_events ctx parent true s)
        (e ∙ append_assoc (line_events ctx parent true l) (flat_map (line_events ctx parent true) ls) (stop_events ctx parent true s)) in
        let more = after_dot ls s (All-tail (IsGot true) l ls all) got d.1 in
        ap (λ (bs : List ℕ). bs ++ flat_map line_bytes ls) (dot_bytes l d.0 here)
        ∙ ap (λ (bs : List ℕ). (entry_of_dot ++ record_of_dot) ++ bs) more

-- what came back where `.` and `a` were taken, and `a` was looked up
pub dot_and_file : (ctx : Context) (parent size : ℕ) (entry : Entry) (body : List ℕ) (result : Result ℕ (Option ℕ))
    → IsWhole true ctx parent size (dot_and_a ctx parent entry) body result
    → (body ≡ (entry_of_dot ++ record_of_dot) ++ record_bytes (Some entry) file_a) × (result ≡ Ok 320)
dot_and_file ctx parent size entry body result h =
    let lines : flat_map line_bytes h.lines ≡ (entry_of_dot ++ record_of_dot) ++ record_bytes (Some entry) file_a =
    elim h.ends [
      | inl ended ↦ both_lines ctx parent entry h.lines End h.got tt ended
      | inr full ↦ both_lines ctx parent entry h.lines (At full.last) h.got full.got full.events_are
    ] in
    let is = h.records_are ∙ lines in
    let long = length-append (entry_of_dot ++ record_of_dot) (record_bytes (Some entry) file_a) in
    let one = length-record_bytes (Some entry) file_a in
    let total : length body ≡ 320 = ap length is ∙ omega (arith, long, one) in
    (is, h.answer_is ∙ ap Ok total)

pub dot_and_file_go_on : (ctx : Context) (parent : ℕ) (entry : Entry) → All GoesOn (dot_and_a ctx parent entry)
dot_and_file_go_on ctx parent entry =
    let found = Called (Lookup ctx parent (97 ∷ [])) (Found entry) in
    All-cons GoesOn (Taken (Some root_dot)) (Taken (Some file_a) ∷ found ∷ Taken None ∷ []) (omega arith)
    (All-cons GoesOn (Taken (Some file_a)) (found ∷ Taken None ∷ []) (omega arith)
    (All-cons GoesOn found (Taken None ∷ []) tt
    (All-cons GoesOn (Taken None) [] tt (All-nil GoesOn))))

-- ---- `.` that does not fit

module _ (ctx : Context) (parent n : ℕ) where
  -- `.` is taken, and node n is given back
  abbrev pub dot_back : List Event
  dot_back = Taken (Some root_dot) ∷ Called (Forget ctx n 1) Done ∷ []

  no_forget : (ls : List Line) (s : Stop)
      → Called (Forget ctx n 1) Done ∷ [] ≡ flat_map (line_events ctx parent true) ls ++ stop_events ctx parent true s
      → ⊥
  no_forget [] End e = cc
  no_forget [] (At last) e = cc
  no_forget (l ∷ ls) s e = cc

  no_lines : (ls : List Line) (s : Stop)
      → dot_back ≡ flat_map (line_events ctx parent true) ls ++ stop_events ctx parent true s → ls ≡ []
  no_lines [] s e = refl
  no_lines (l ∷ ls) s e =
      let d = dot_then ctx parent l _ (flat_map (line_events ctx parent true) ls ++ stop_events ctx parent true s)
      (e ∙ append_assoc (line_events ctx parent true l) (flat_map (line_events ctx parent true) ls) (stop_events ctx parent true s)) in
      absurd (no_forget ls s d.1)

  -- what is given back of `.` is node 0
  back_of_dot : (last : Line) → last.item ≡ root_dot → IsGot true last
      → Called (Forget ctx n 1) Done ∷ [] ≡ given_back ctx (node_got last.got) → (n ≡ 0) × (line_len last ≡ 160)
  back_of_dot last item got e =
      let d = dot_entry last.got (dot_got ctx parent last item got) in
      let zero : d.0.inode ≡ 0 = ap (λ (o : EntryOut). o.nodeid) d.2 in
      let back = ap (λ (g : Got). given_back ctx (node_got g)) d.1 in
      let same : n ≡ d.0.inode = cc in
      (same ∙ zero, ap (λ (g : Got). len_of g last.item) d.1 ∙ ap (record_len (Some d.0)) item)

  dot_back_by : (size : ℕ) (lines : List Line) (body : List ℕ) → body ≡ flat_map line_bytes lines
      → EndsWhole true ctx parent dot_back lines ⊎ EndsFull true ctx parent size dot_back lines body
      → (n ≡ 0) × (body ≡ []) × (size < 160)
  dot_back_by size lines body is (inl ended) =
      let none = no_lines lines End ended in
      let e = ended ∙ ap (λ (ls : List Line). flat_map (line_events ctx parent true) ls ++ stop_events ctx parent true End) none in
      cc
  dot_back_by size lines body is (inr full) =
      let none = no_lines lines (At full.last) full.events_are in
      let e = full.events_are
      ∙ ap (λ (ls : List Line). flat_map (line_events ctx parent true) ls ++ stop_events ctx parent true (At full.last)) none in
      let d = dot_then ctx parent full.last _ (given_back ctx (node_got full.last.got)) e in
      let b = back_of_dot full.last d.0 full.got d.1 in
      let empty : body ≡ [] = is ∙ ap (λ (ls : List Line). flat_map line_bytes ls) none in
      (b.0, empty, omega (arith, full.passes, ap length empty, b.1))

pub dot_is_given_back : (ctx : Context) (parent size n : ℕ) (body : List ℕ) (result : Result ℕ (Option ℕ))
    → IsWhole true ctx parent size (dot_back ctx parent n) body result → (n ≡ 0) × (body ≡ []) × (size < 160)
dot_is_given_back ctx parent size n body result h = dot_back_by ctx parent n size h.lines body h.records_are h.ends

pub dot_back_goes_on : (ctx : Context) (parent n : ℕ) → All GoesOn (dot_back ctx parent n)
dot_back_goes_on ctx parent n =
    All-cons GoesOn (Taken (Some root_dot)) (Called (Forget ctx n 1) Done ∷ []) (omega arith)
    (All-cons GoesOn (Called (Forget ctx n 1) Done) [] tt (All-nil GoesOn))

-- ---- faults

-- a fault of `readdir`
pub refused_is : (plus : Bool) (ctx : Context) (parent handle size offset room : ℕ) (body : List ℕ) (result : Result ℕ (Option ℕ))
    → IsDirectoryOf plus ctx parent handle size offset room
    (Called (Readdir ctx parent handle size offset) (Failed (Some 13)) ∷ []) body result
    → (body ≡ []) × (result ≡ Err (Some 13))
refused_is plus ctx parent handle size offset room body result (inl u) =
    let are = u.1 in
    let same : u.0 ≡ Some 13 = cc in
    (u.2, u.3 ∙ ap Err same)
refused_is plus ctx parent handle size offset room body result (inr o) = let are = o.1 in absurd cc

module _ (ctx : Context) (parent size room : ℕ) where
  -- what failed was not written
  not_written : (written : ℕ) (l : Line) (fault : Option ℕ) → l.got ≡ Err fault → (verdict (size - written) (room - written) l.got l.item) ≡ Fits → ⊥
  not_written written l fault got fits =
      let failed = ap (λ (g : Got). verdict (size - written) (room - written) g l.item) got in cc

  -- what is answered where the last item's lookup failed
  answered_by : (total : ℕ) (last : Line) (fault : Option ℕ) → last.got ≡ Err fault
      → answer_of true size room total (At last) ≡ answer_at true total (Fails fault)
  answered_by total last fault got =
      ap (λ (g : Got). answer_at true total (verdict (size - total) (room - total) g last.item)) got

  -- the lookup of the first item failed
  first_by : (lines : List Line) (s : Stop) → AreWritten true size room 0 lines → Stops true size room (sum_by line_len lines) s
      → Taken (Some file_a) ∷ Called (Lookup ctx parent (97 ∷ [])) (Failed (Some 2)) ∷ []
      ≡ flat_map (line_events ctx parent true) lines ++ stop_events ctx parent true s
      → (flat_map line_bytes lines ≡ []) × (answer_of true size room (sum_by line_len lines) s ≡ Err (Some 2))
  first_by [] End w stops e = cc
  first_by [] (At last) w stops e =
      let a = a_then ctx parent last _ (given_back ctx (node_got last.got)) stops.0 e in
      let f = failed_by ctx parent last.got (Some 2) [] (given_back ctx (node_got last.got)) a.1 a.2 in
      (refl, answered_by 0 last (Some 2) f)
  first_by (l ∷ ls) s w stops e =
      let tail = flat_map (line_events ctx parent true) ls ++ stop_events ctx parent true s in
      let a = a_then ctx parent l _ tail w.1
      (e ∙ append_assoc (line_events ctx parent true l) (flat_map (line_events ctx parent true) ls) (stop_events ctx parent true s)) in
      let f = failed_by ctx parent l.got (Some 2) [] tail a.1 a.2 in
      absurd (not_written 0 l (Some 2) f w.0)

pub first_lookup_fails : (ctx : Context) (parent size room : ℕ) (body : List ℕ) (result : Result ℕ (Option ℕ))
    → IsListing true ctx parent size room
    (Taken (Some file_a) ∷ Called (Lookup ctx parent (97 ∷ [])) (Failed (Some 2)) ∷ []) body result
    → (body ≡ []) × (result ≡ Err (Some 2))
first_lookup_fails ctx parent size room body result h =
    let f = first_by ctx parent size room h.lines h.stop h.written h.stops h.events_are in
    (h.records_are ∙ f.0, h.answer_is ∙ f.1)
