-- The loop over a directory's items: a line more, and each stop.
use Rattle.std.proofs.Common.{◌≡◌, ◌≢◌, ◌≤◌, ◌<◌, ◌+◌, ◌-◌, ◌^◌, ℕ, List, [], ◌∷◌, ◌++◌, Bool, true, false, Option, Some, None, Result, Ok, Err, IfOk, length, arith, refl, sym, ap, subst, ◌∙◌, length-append, length-drop, length-take, sum_by, append-nil}
use Rattle.std.proofs.Math.Seq.{take-nil}
use Rattle.std.proofs.lemmas.List.Sums.{sum_by_push, sum_by-cons}
use Rattle.std.proofs.lemmas.Grind.{flat_map-append}
use Rattle.std.specs.List.{flat_map}
use Rattle.vfs_segments.specs.Written.{Written, Moves, wrote}
use Rattle.vfs_files.specs.Calls.{Call, Lookup, Forget, Handed, Found, Failed, Done, Counts}
use Rattle.vfs_files.specs.Values.{Item}
use Rattle.vfs_files.specs.Runs.{Event, Taken}
use Rattle.vfs_files.specs.RunLaws.{Ran, ran_is_run, ran_on, ran_nothing, ran_taking, ran_call}
use Rattle.vfs_files.specs.declared.entry.Context.{Context}
use Rattle.vfs_files.specs.declared.entry.Entry.{Entry}
use Rattle.vfs_grammar.specs.Listing.{Verdict, Fits, Full, Fails, record_len, Got, Line, End, At, Gets, IsListing, IsGot, FitsGot, is_dot, line_events, given_back, node_got, line_len, line_bytes, len_of, bytes_got, AreWritten, answer_at, verdict}
use Rattle.vfs_grammar.specs.Words.{record_bytes, FitsOption, lookup_of, lookups}
use Rattle.vfs_listings.specs.Reading.{Adds, cut_by, AddsGot, Puts, LooksUpName, LooksUp, GivesBack, AddsLine, ReadsItems}
use Rattle.vfs_grammar.proofs.Listings.{fits_within, length-bytes_got, length-listing, listing_within}
use Rattle.vfs_listings.specs.ReadingLaws.{puts_nothing}
use Rattle.vfs_listings.proofs.Putting.{wrote-wrote}

-- ---- events of a line

module _ {S I : Type 0} (allows : S → Call → Handed I → S → Type 0)
    (gives : I → Option Item → I → Type 0) (ctx : Context) where
  ran_name : (parent : ℕ) (name : List ℕ) (it : Option I) (old : S) (got : Got) (new : S)
      → LooksUpName allows ctx parent name old got new
      → Ran allows gives it old (lookup_of ctx parent name got) new it
  ran_name parent name it old (Ok (Some entry)) new h =
      ran_call allows gives it old (Lookup ctx parent name) (Found entry) new h
  ran_name parent name it old (Ok None) new h = absurd h
  ran_name parent name it old (Err fault) new h =
      ran_call allows gives it old (Lookup ctx parent name) (Failed fault) new h

  -- no call
  ran_still : (it : Option I) (old new : S) → new ≡ old → Ran allows gives it old [] new it
  ran_still it old new e = subst (λ (s : S). Ran allows gives it old [] s it) (sym e)
      (ran_nothing allows gives it old)

  ran_lookups : (plus dot : Bool) (parent : ℕ) (i : Item) (it : Option I) (old : S) (got : Got)
      (new : S) → LooksUp allows ctx plus dot parent i old got new
      → Ran allows gives it old (lookups ctx parent plus dot (record { item = i; got = got })) new
      it
  ran_lookups false dot parent i it old got new h = ran_still it old new h.1
  ran_lookups true true parent i it old got new h = ran_still it old new h.1
  ran_lookups true false parent i it old got new h = ran_name parent i.name it old got new h

  -- the events of a line
  pub ran_line : (plus : Bool) (parent : ℕ) (before : I) (i : Item) (after : I) (old : S)
      (got : Got) (new : S)
      → gives before (Some i) after → LooksUp allows ctx plus (is_dot i.name) parent i old got new
      → Ran allows gives (Some before) old (line_events ctx parent plus
      (record { item = i; got = got })) new (Some after)
  ran_line plus parent before i after old got new h looked =
      ran_on allows gives (ran_taking allows gives before (Some i) after old h)
      (ran_lookups plus (is_dot i.name) parent i (Some after) old got new looked)

  ran_node : (got : Got) (it : Option I) (old new : S) → GivesBack allows ctx Full got old new
      → Ran allows gives it old (given_back ctx (node_got got)) new it
  ran_node (Ok (Some entry)) it old new h = ran_call allows gives it old (Forget ctx entry.inode 1)
      Done new h
  ran_node (Ok None) it old new h = ran_still it old new h
  ran_node (Err fault) it old new h = ran_still it old new h

  -- the events of an entry that was not written
  pub ran_back : (v : Verdict) (got : Got) (it : Option I) (old new : S)
      → GivesBack allows ctx v got old new → v ≢ Fits
      → Ran allows gives it old (given_back ctx (node_got got)) new it
  ran_back Fits got it old new h wrong = absurd (wrong refl)
  ran_back Full got it old new h wrong = ran_node got it old new h
  ran_back (Fails fault) got it old new h wrong = ran_node got it old new h

  -- what is written is not given back
  pub kept : (v : Verdict) (got : Got) (old new : S) → GivesBack allows ctx v got old new → v ≡ Fits
      → new ≡ old
  kept Fits got old new h e = h
  kept Full got old new h e = cc
  kept (Fails fault) got old new h e = cc

  got_name : (parent : ℕ) (i : Item) (old : S) (got : Got) (new : S)
      → LooksUpName allows ctx parent i.name old got new → Gets true false i got
  got_name parent i old (Ok (Some entry)) new h = tt
  got_name parent i old (Ok None) new h = absurd h
  got_name parent i old (Err fault) new h = tt

  got_by : (plus dot : Bool) (parent : ℕ) (i : Item) (old : S) (got : Got) (new : S)
      → LooksUp allows ctx plus dot parent i old got new → Gets plus dot i got
  got_by false dot parent i old got new h = h.0
  got_by true true parent i old got new h = h.0
  got_by true false parent i old got new h = got_name parent i old got new h

  -- a line has what its item gets
  pub line_got : (plus : Bool) (parent : ℕ) (i : Item) (old : S) (got : Got) (new : S)
      → LooksUp allows ctx plus (is_dot i.name) parent i old got new
      → IsGot plus (record { item = i; got = got })
  line_got plus parent i old got new h = got_by plus (is_dot i.name) parent i old got new h

-- ---- bytes that are put

pub length-puts : (old new : Written) (a : List ℕ) → Puts old a new
    → length new.left + length a ≡ length old.left
length-puts old new a p =
    let left =
    ap (λ (w : Written). length w.left) p.wrote ∙ length-drop (length a) old.left in
    omega (arith, left, p.within)

pub puts_on : (old middle new : Written) (a b : List ℕ) → Puts old a middle → Puts middle b new
    → Puts old (a ++ b) new
puts_on old middle new a b p q = record {
  within =
      let left = length-puts old middle a p in
      let sum = length-append a b in
      omega (arith, left, sum, p.within, q.within);
  wrote = q.wrote ∙ ap (λ (w : Written). wrote w b) p.wrote ∙ wrote-wrote old a b;
}

-- a number above 0 came of a record that was put whole
put_by : (v : Verdict) (entry : Option Entry) (i : Item) (old : Written) (n : ℕ) (new : Written)
    → Adds v entry i old (Ok n) new → 0 < n
    → (v ≡ Fits) × (n ≡ record_len entry i) × (new ≡ wrote old (record_bytes entry i))
    × FitsOption entry
put_by Fits entry i old n new h some = let e : n ≡ record_len entry i = cc in (refl, e, h.1, h.2)
put_by Full entry i old n new h some = let zero : n ≡ 0 = cc in absurd (omega arith)
put_by (Fails None) entry i old n new h some = cc
put_by (Fails (Some number)) entry i old n new h some = cc

pub was_put : (max room : ℕ) (got : Got) (i : Item) (old : Written) (n : ℕ) (new : Written)
    → AddsGot max room got i old (Ok n) new → 0 < n
    → (verdict max room got i ≡ Fits) × (n ≡ len_of got i) × (new ≡ wrote old (bytes_got got i))
    × FitsGot got
was_put max room (Ok entry) i old n new h some =
    put_by (verdict max room (Ok entry) i) entry i old n new h some
was_put max room (Err fault) i old n new h some = cc

full_by : (v : Verdict) (entry : Option Entry) (i : Item) (old new : Written)
    → Adds v entry i old (Ok 0) new → v ≡ Full
full_by Fits entry i old new h = let zero : 0 ≡ record_len entry i = cc in absurd (omega arith)
full_by Full entry i old new h = refl
full_by (Fails None) entry i old new h = cc
full_by (Fails (Some number)) entry i old new h = cc

-- 0 came of one that is too long
pub was_full : (max room : ℕ) (got : Got) (i : Item) (old new : Written)
    → AddsGot max room got i old (Ok 0) new → verdict max room got i ≡ Full
was_full max room (Ok entry) i old new h = full_by (verdict max room (Ok entry) i) entry i old new h
was_full max room (Err fault) i old new h = cc

-- what was put of a record that was not written
cut_put_by : (v : Verdict) (entry : Option Entry) (i : Item) (old : Written)
    (result : Result ℕ (Option ℕ)) (new : Written) → Adds v entry i old result new → v ≢ Fits
    → Puts old (cut_by v (length old.left) (record_bytes entry i)) new
cut_put_by Fits entry i old result new h wrong = absurd (wrong refl)
cut_put_by Full entry i old result new h wrong = puts_nothing old new h.1
cut_put_by (Fails None) entry i old result new h wrong =
    record {
      within = omega (arith, length-take (length old.left) (record_bytes entry i));
      wrote =
          h.1;
    }
cut_put_by (Fails (Some number)) entry i old result new h wrong = puts_nothing old new h.1

cut_none : (fault : Option ℕ) (room : ℕ) → cut_by (Fails fault) room [] ≡ []
cut_none None room = take-nil room
cut_none (Some number) room = refl

pub cut_put : (max : ℕ) (got : Got) (i : Item) (old : Written) (result : Result ℕ (Option ℕ))
    (new : Written) → AddsGot max (length old.left) got i old result new
    → verdict max (length old.left) got i ≢ Fits
    → Puts old (cut_by (verdict max (length old.left) got i) (length old.left) (bytes_got got i))
    new
cut_put max (Ok entry) i old result new h wrong =
    cut_put_by (verdict max (length old.left) (Ok entry) i) entry i old result new h wrong
cut_put max (Err fault) i old result new h wrong =
    rw (cut_none fault (length old.left)) (puts_nothing old new h.1)

failed_by : (v : Verdict) (entry : Option Entry) (i : Item) (old : Written) (fault : Option ℕ)
    (new : Written) → Adds v entry i old (Err fault) new → v ≡ Fails fault
failed_by Fits entry i old fault new h = cc
failed_by Full entry i old fault new h = cc
failed_by (Fails None) entry i old fault new h = let same : None ≡ fault = cc in ap Fails same
failed_by (Fails (Some number)) entry i old fault new h = let same : Some number ≡ fault = cc in
    ap Fails same

-- a fault came of one that fails
pub has_failed : (max room : ℕ) (got : Got) (i : Item) (old : Written) (fault : Option ℕ)
    (new : Written) → AddsGot max room got i old (Err fault) new
    → verdict max room got i ≡ Fails fault
has_failed max room (Ok entry) i old fault new h =
    failed_by (verdict max room (Ok entry) i) entry i old fault new h
has_failed max room (Err other) i old fault new h = let same : other ≡ fault = cc in ap Fails same

-- what was put moved the writer on
pub moves_of : (old new : Written) (bytes : List ℕ) → Puts old bytes new → Moves old bytes new
moves_of old new bytes puts = rw puts.wrote (record {
  passed = refl;
  left = omega (arith, puts.within, length-drop (length bytes) old.left);
  held_at = refl;
  held = refl;
  lengths = refl;
})

-- ---- lines

-- the records that are answered are counted
pub counts_of_listing : (plus : Bool) (ctx : Context) (parent size room : ℕ) (events : List Event)
    (body : List ℕ) (answer : Result ℕ (Option ℕ))
    → IsListing plus ctx parent size room events body answer → size < 2 ^ 32 - 16
    → Counts answer body size
counts_of_listing plus ctx parent size room events body (Ok n) h small =
    let long = length-listing h n refl in
    let within = listing_within h in
    (long, omega (arith, long, within), omega (arith, within, small))
counts_of_listing plus ctx parent size room events body (Err fault) h small = tt

pub written_more : (plus : Bool) (size room written : ℕ) (ls : List Line) (l : Line)
    → AreWritten plus size room written ls
    → (verdict (size - (written + sum_by line_len ls)) (room - (written + sum_by line_len ls)) l.got l.item) ≡ Fits → IsGot plus l → FitsGot l.got
    → AreWritten plus size room written (ls ++ l ∷ [])
written_more plus size room written [] l w f got fits =
    (subst (λ n. (verdict (size - n) (room - n) l.got l.item) ≡ Fits) (omega arith) f, got, fits, tt)
written_more plus size room written (k ∷ ls) l w f got fits = (
  w.0,
  w.1,
  w.2,
  written_more plus size room (written + line_len k) ls l w.3
      (subst (λ n. (verdict (size - n) (room - n) l.got l.item) ≡ Fits) (omega (arith, sum_by-cons line_len k ls)) f) got
      fits,
)

pub flat_map-push : {X A : Type 0} (f : X → List A) (xs : List X) (x : X)
    → flat_map f (xs ++ x ∷ []) ≡ flat_map f xs ++ f x
flat_map-push f xs x = flat_map-append f xs (x ∷ [])
    ∙ ap (λ l. flat_map f xs ++ l) (append-nil (f x))

-- ---- the loop

module _ {S I : Type 0} (allows : S → Call → Handed I → S → Type 0)
    (gives : I → Option Item → I → Type 0)
    (ctx : Context) (plus : Bool) (parent size : ℕ) (first : I) (before : S) (old : Written) where
  -- what the loop keeps: so far these lines were written, and no stop came
  pub record Filling (written : ℕ) (it : I) (s : S) (now : Written) : Type 0 where
    pub lines : List Line
    pub ran : Ran allows gives (Some first) before (flat_map (line_events ctx parent plus) lines) s
        (Some it)
    pub lines_written : AreWritten plus size (length old.left) 0 lines
    pub puts : Puts old (flat_map line_bytes lines) now
    pub count : written ≡ sum_by line_len lines
    pub left : length now.left + written ≡ length old.left
    pub within : written ≤ size

  pub filling_start : Filling 0 first before old
  filling_start = record {
    lines = [];
    ran = ran_nothing allows gives (Some first) before;
    lines_written = tt;
    puts = puts_nothing old old refl;
    count = refl;
    left = omega arith;
    within = omega arith;
  }

  -- a line more
  pub filling_more : {written n : ℕ} {it next : I} {s new : S} {now then : Written}
      → Filling written it s now → (i : Item) → gives it (Some i) next
      → AddsLine allows ctx plus parent (size - written) i s now (Ok n) new then → 0 < n
      → Filling (written + n) next new then
  filling_more {written} {n} {it} {next} {s} {new} {now} {then} f i h a some =
      let l : Line = record { item = i; got = a.got } in
      let v = verdict (size - written) (length now.left) a.got i in
      let put = was_put (size - written) (length now.left) a.got i now n then a.adds some in
      let fits = fits_within (size - written) (length now.left) a.got i put.0 in
      let room : length now.left ≡ length old.left - (0 + sum_by line_len f.lines) =
      omega (arith, f.left, f.count) in
      let max : size - written ≡ size - (0 + sum_by line_len f.lines) = omega (arith, f.count) in
      let ran : Ran allows gives (Some it) s (line_events ctx parent plus l) new (Some next) =
      (let P : S → Type 0 = λ z. Ran allows gives (Some it) s (line_events ctx parent plus l) z
      (Some next) in
      subst P (sym (kept allows gives ctx v a.got a.middle new a.gives_back put.0))
      (ran_line allows gives ctx plus parent it i next s a.got a.middle h a.looks_up)) in
      let long : length (bytes_got a.got i) ≡ len_of a.got i =
      length-bytes_got (size - written) (length now.left) a.got i put.0 in
      let step : Puts now (bytes_got a.got i) then =
      record { within = omega (arith, long, fits.1); wrote = put.2 } in
      record {
        lines = f.lines ++ l ∷ [];
        ran = rw (flat_map-push (line_events ctx parent plus) f.lines l)
            (ran_on allows gives f.ran ran);
        lines_written = written_more plus size (length old.left) 0 f.lines l f.lines_written
            (rw (← max, ← room) put.0) (line_got allows gives ctx plus parent i s a.got a.middle
            a.looks_up) put.3;
        puts = rw (flat_map-push line_bytes f.lines l) (puts_on old now then _ _ f.puts step);
        count = omega (arith, f.count, put.1, sum_by_push line_len f.lines l);
        left = omega (arith, f.left, put.1, long, length-puts now then (bytes_got a.got i) step);
        within = omega (arith, f.within, fits.0, put.1);
      }

  -- the end of the directory
  pub filling_end : {written : ℕ} {it next : I} {s : S} {now : Written} → Filling written it s now
      → gives it None next
      → ReadsItems allows gives ctx plus parent size first before old (Ok written) s now
  filling_end {written} {it} {next} {s} {now} f h =
      let ran = ran_on allows gives f.ran (ran_taking allows gives it None next s h) in
      record {
        events = flat_map (line_events ctx parent plus) f.lines ++ Taken None ∷ [];
        body = flat_map line_bytes f.lines;
        is_run = ran_is_run allows gives ran;
        listing = record {
          lines = f.lines;
          stop = End;
          written = f.lines_written;
          stops = tt;
          events_are = refl;
          records_are = refl;
          answer_is = ap Ok f.count;
        };
        puts = rw (append-nil (flat_map line_bytes f.lines)) f.puts;
      }

  -- an item that is not written
  filling_stop : {written : ℕ} {it next : I} {s new : S} {now then : Written}
      {result : Result ℕ (Option ℕ)} → Filling written it s now → (i : Item)
      → gives it (Some i) next
      → (a : AddsLine allows ctx plus parent (size - written) i s now result new then)
      → (v : Verdict) → verdict (size - written) (length now.left) a.got i ≡ v → v ≢ Fits
      → ReadsItems allows gives ctx plus parent size first before old (answer_at plus written v) new
      then
  filling_stop {written} {it} {next} {s} {new} {now} {then} {result} f i h a v is wrong =
      let l : Line = record { item = i; got = a.got } in
      let room : length now.left ≡ length old.left - sum_by line_len f.lines =
      omega (arith, f.left, f.count) in
      let max : size - written ≡ size - sum_by line_len f.lines = omega (arith, f.count) in
      let here : (verdict (size - (sum_by line_len f.lines)) ((length old.left) - (sum_by line_len f.lines)) l.got l.item) ≡ v =
      rw (← max, ← room) is in
      let back : GivesBack allows ctx v a.got a.middle new =
      (let P : Verdict → Type 0 = λ z. GivesBack allows ctx z a.got a.middle new in
      subst P is a.gives_back) in
      let cut : Puts now (cut_by v (length now.left) (bytes_got a.got i)) then =
      rw (← is) (cut_put (size - written) a.got i now result then a.adds
      (λ e. wrong (sym is ∙ e))) in
      let ran = ran_on allows gives f.ran (ran_on allows gives
      (ran_line allows gives ctx plus parent it i next s a.got a.middle h a.looks_up)
      (ran_back allows gives ctx v a.got (Some next) a.middle new back wrong)) in
      record {
        events = flat_map (line_events ctx parent plus) f.lines
            ++ (line_events ctx parent plus l ++ given_back ctx (node_got a.got));
        body = flat_map line_bytes f.lines;
        is_run = ran_is_run allows gives ran;
        listing = record {
          lines = f.lines;
          stop = At l;
          written = f.lines_written;
          stops = (
            line_got allows gives ctx plus parent i s a.got a.middle a.looks_up,
            λ e. wrong
                (sym here ∙ e),
          );
          events_are = refl;
          records_are = refl;
          answer_is = ap (λ n. answer_at plus n v) f.count
              ∙ ap (λ z. answer_at plus (sum_by line_len f.lines) z) (sym here);
        };
        puts = rw (here, ← room) (puts_on old now then (flat_map line_bytes f.lines)
            (cut_by v (length now.left) (bytes_got a.got i)) f.puts cut);
      }

  -- an item that is too long
  pub filling_full : {written : ℕ} {it next : I} {s new : S} {now then : Written}
      → Filling written it s now → (i : Item) → gives it (Some i) next
      → AddsLine allows ctx plus parent (size - written) i s now (Ok 0) new then
      → ReadsItems allows gives ctx plus parent size first before old (Ok written) new then
  filling_full {written} {it} {next} {s} {new} {now} {then} f i h a =
      let why = was_full (size - written) (length now.left) a.got i now then a.adds in
      filling_stop f i h a Full why (λ e. cc)

  -- an item that fails
  pub filling_failed : {written : ℕ} {it next : I} {s new : S} {now then : Written}
      {fault : Option ℕ} {result : Result ℕ (Option ℕ)} → Filling written it s now → (i : Item)
      → gives it (Some i) next
      → AddsLine allows ctx plus parent (size - written) i s now (Err fault) new then
      → result ≡ answer_at plus written (Fails fault) → ReadsItems allows gives ctx plus parent size first
      before old result new then
  filling_failed {written} {it} {next} {s} {new} {now} {then} {fault} {result} f i h a e =
      let why = has_failed (size - written) (length now.left) a.got i now fault then a.adds in
      let P : Result ℕ (Option ℕ) → Type 0 = λ r. ReadsItems allows gives ctx plus parent size first
      before old r new then in
      subst P (sym e) (filling_stop f i h a (Fails fault) why (λ e. cc))

-- no more is answered than was asked for
pub read_within : {S I : Type 0} (allows : S → Call → Handed I → S → Type 0)
    (gives : I → Option Item → I → Type 0) (ctx : Context) (plus : Bool) (parent size : ℕ)
    (it : I) (middle new : S) (room left : Written) (result : Result ℕ (Option ℕ))
    → ReadsItems allows gives ctx plus parent size it middle room result new left
    → IfOk result (λ n. n ≤ size)
read_within allows gives ctx plus parent size it middle new room left (Ok n) reads =
    let e = length-listing reads.listing n refl in
    let w = listing_within reads.listing in
    omega (arith, e, w)
read_within allows gives ctx plus parent size it middle new room left (Err fault) reads = tt
