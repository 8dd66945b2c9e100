-- The loop over the items that are offered: one more is taken, and each stop.
use Rattle.std.proofs.Common.{◌≡◌, ◌≢◌, ◌≤◌, ◌<◌, ◌+◌, ◌-◌, ℕ, suc, List, [], ◌∷◌, ◌++◌, Bool, Option, None, Result, Ok, Err, length, take, drop, get_or, arith, refl, sym, ap, subst, ◌∙◌, sum_by, append-nil}
use Rattle.std.proofs.Math.Seq.{drop-cons}
use Rattle.std.proofs.lemmas.List.{length_push, take_more, take_all, take-append-drop}
use Rattle.std.proofs.lemmas.List.Sums.{sum_by_push}
use Rattle.std.specs.List.{flat_map}
use Rattle.vfs_segments.specs.Written.{Written}
use Rattle.vfs_files.specs.Values.{name_of}
use Rattle.vfs_grammar.specs.Listing.{Verdict, Fits, Full, Fails, Line, End, At, line_len, line_bytes, bytes_got, len_of, AreWritten, answer_at, verdict}
use Rattle.vfs_grammar.proofs.Listings.{fits_within, length-bytes_got}
use Rattle.vfs_listings.specs.Reading.{Puts, cut_by}
use Rattle.vfs_listings.specs.ReadingLaws.{puts_nothing}
use Rattle.vfs_listings.proofs.Filling.{length-puts, puts_on, was_put, was_full, has_failed, cut_put, written_more, flat_map-push}
use Rattle.codec_calls.specs.declared.data.ItemData.{ItemData}
use Rattle.codec_encode.specs.Offered.{IsLine, AreTaken, AreOffered, taken_by, AddsItem, ReadsOffered}

-- one more is taken
taken_more : (plus : Bool) (items : List ItemData) (lines : List Line) (i : ItemData) (l : Line) → AreTaken plus items lines → IsLine plus i l
    → AreTaken plus (items ++ i ∷ []) (lines ++ l ∷ [])
taken_more plus [] [] i l t h = (h, tt)
taken_more plus [] (k ∷ lines) i l t h = absurd t
taken_more plus (j ∷ items) [] i l t h = absurd t
taken_more plus (j ∷ items) (k ∷ lines) i l t h = (t.0, taken_more plus items lines i l t.1 h)

-- those that were taken, and then the end
offered_end : (plus : Bool) (items rest : List ItemData) (lines : List Line) → AreTaken plus items lines → AreOffered plus rest [] End
    → AreOffered plus (items ++ rest) lines End
offered_end plus [] rest [] t h = h
offered_end plus [] rest (k ∷ lines) t h = absurd t
offered_end plus (j ∷ items) rest [] t h = absurd t
offered_end plus (j ∷ items) rest (k ∷ lines) t h = (t.0, offered_end plus items rest lines t.1 h)

-- those that were taken, and then one that stopped the reading
offered_at : (plus : Bool) (items rest : List ItemData) (lines : List Line) (i : ItemData) (l : Line) → AreTaken plus items lines → IsLine plus i l
    → AreOffered plus (items ++ i ∷ rest) lines (At l)
offered_at plus [] rest [] i l t h = h
offered_at plus [] rest (k ∷ lines) i l t h = absurd t
offered_at plus (j ∷ items) rest [] i l t h = absurd t
offered_at plus (j ∷ items) rest (k ∷ lines) i l t h = (t.0, offered_at plus items rest lines i l t.1 h)

-- items up to one, that one, and the rest
split_at : (items : List ItemData) (index : ℕ) (d : ItemData) → index < length items
    → take index items ++ get_or items index d ∷ drop (suc index) items ≡ items
split_at items index d h = ap (λ (x : List ItemData). take index items ++ x) (sym (drop-cons items index d h)) ∙ take-append-drop index items

module _ (plus : Bool) (size : ℕ) (items : List ItemData) (old : Written) where
  -- what the loop keeps: the items before this index were taken, and their records put
  pub record Taking (index written taken : ℕ) (now : Written) : Type 0 where
    pub lines : List Line
    pub are_taken : AreTaken plus (take index items) lines
    pub lines_written : AreWritten plus size (length old.left) 0 lines
    pub puts : Puts old (flat_map line_bytes lines) now
    pub count : written ≡ sum_by line_len lines
    pub left : length now.left + written ≡ length old.left
    pub within : written ≤ size
    pub number : taken ≡ length lines
    pub index_is : taken ≡ index

  pub taking_start : Taking 0 0 0 old
  taking_start = record {
    lines = [];
    are_taken = tt;
    lines_written = tt;
    puts = puts_nothing old old refl;
    count = refl;
    left = omega arith;
    within = omega arith;
    number = refl;
    index_is = refl;
  }

  -- one more
  pub taking_more : {index written taken n : ℕ} {now then : Written} → Taking index written taken now → (d : ItemData) → index < length items
      → AddsItem plus (size - written) (get_or items index d) now (Ok n) then → 0 < n → Taking (index + 1) (written + n) (taken + 1) then
  taking_more {index} {written} {taken} {n} {now} {then} f d here a some =
      let l = a.line in
      let put = was_put (size - written) (length now.left) l.got l.item now n then a.adds some in
      let fits = fits_within (size - written) (length now.left) l.got l.item put.0 in
      let room : length now.left ≡ length old.left - (0 + sum_by line_len f.lines) = omega (arith, f.left, f.count) in
      let max : size - written ≡ size - (0 + sum_by line_len f.lines) = omega (arith, f.count) in
      let long : length (bytes_got l.got l.item) ≡ len_of l.got l.item = length-bytes_got (size - written) (length now.left) l.got l.item put.0 in
      let step : Puts now (bytes_got l.got l.item) then = record { within = omega (arith, long, fits.1); wrote = put.2 } in
      record {
        lines = f.lines ++ l ∷ [];
        are_taken = rw (take_more items index d here) (taken_more plus (take index items) f.lines (get_or items index d) l f.are_taken a.is_line);
        lines_written = written_more plus size (length old.left) 0 f.lines l f.lines_written (rw (← max, ← room) put.0) a.is_got put.3;
        puts = rw (flat_map-push line_bytes f.lines l) (puts_on old now then _ _ f.puts step);
        count = omega (arith, f.count, put.1, sum_by_push line_len f.lines l);
        left = omega (arith, f.left, put.1, long, length-puts now then (bytes_got l.got l.item) step);
        within = omega (arith, f.within, fits.0, put.1);
        number = omega (arith, f.number, length_push f.lines l);
        index_is = omega (arith, f.index_is);
      }

  ending : {index written taken : ℕ} {now : Written} → (f : Taking index written taken now) → AreOffered plus items f.lines End
      → ReadsOffered plus size items old (Ok written) taken now
  ending f offered = record {
    lines = f.lines;
    stop = End;
    written = f.lines_written;
    stops = tt;
    answer_is = ap Ok f.count;
    offered = offered;
    taken_is = f.number;
    puts = rw (append-nil (flat_map line_bytes f.lines)) f.puts;
  }

  -- the end of the items
  pub taking_end : {index written taken : ℕ} {now : Written} → Taking index written taken now → length items ≤ index
      → ReadsOffered plus size items old (Ok written) taken now
  taking_end {index} {written} {taken} {now} f all =
      let t = rw (take_all index items all) at f.are_taken in
      ending f (rw (append-nil items) at (offered_end plus items [] f.lines t tt))

  -- an item without a name
  pub taking_unnamed : {index written taken : ℕ} {now : Written} → Taking index written taken now → (d : ItemData) → index < length items
      → name_of (get_or items index d).name.now ≡ None → ReadsOffered plus size items old (Ok written) taken now
  taking_unnamed {index} {written} {taken} {now} f d here none =
      ending f (subst (λ (x : List ItemData). AreOffered plus x f.lines End) (split_at items index d here)
      (offered_end plus (take index items) (get_or items index d ∷ drop (suc index) items) f.lines f.are_taken none))

  -- an item that is not written
  taking_stop : {index written taken m : ℕ} {now then : Written} {result : Result ℕ (Option ℕ)} → (f : Taking index written taken now) → (d : ItemData)
      → index < length items → (a : AddsItem plus (size - written) (get_or items index d) now result then)
      → (v : Verdict) → verdict (size - written) (length now.left) a.line.got a.line.item ≡ v → v ≢ Fits
      → m ≡ taken_by (answer_at plus written v) taken
      → ReadsOffered plus size items old (answer_at plus written v) m then
  taking_stop {index} {written} {taken} {m} {now} {then} {result} f d here a v is wrong number =
      let l = a.line in
      let room : length now.left ≡ length old.left - sum_by line_len f.lines = omega (arith, f.left, f.count) in
      let max : size - written ≡ size - sum_by line_len f.lines = omega (arith, f.count) in
      let fated : (verdict (size - (sum_by line_len f.lines)) ((length old.left) - (sum_by line_len f.lines)) l.got l.item) ≡ v = rw (← max, ← room) is in
      let cut : Puts now (cut_by v (length now.left) (bytes_got l.got l.item)) then =
      rw (← is) (cut_put (size - written) l.got l.item now result then a.adds (λ e. wrong (sym is ∙ e))) in
      record {
        lines = f.lines;
        stop = At l;
        written = f.lines_written;
        stops = (a.is_got, λ e. wrong (sym fated ∙ e));
        answer_is = ap (λ n. answer_at plus n v) f.count ∙ ap (λ z. answer_at plus (sum_by line_len f.lines) z) (sym fated);
        offered = subst (λ (x : List ItemData). AreOffered plus x f.lines (At l)) (split_at items index d here)
            (offered_at plus (take index items) (drop (suc index) items) f.lines (get_or items index d) l f.are_taken a.is_line);
        taken_is = number ∙ ap (taken_by (answer_at plus written v)) f.number;
        puts = rw (fated, ← room) (puts_on old now then (flat_map line_bytes f.lines) (cut_by v (length now.left) (bytes_got l.got l.item)) f.puts cut);
      }

  -- an item that is too long
  pub taking_full : {index written taken : ℕ} {now then : Written} → Taking index written taken now → (d : ItemData) → index < length items
      → AddsItem plus (size - written) (get_or items index d) now (Ok 0) then → ReadsOffered plus size items old (Ok written) taken then
  taking_full {index} {written} {taken} {now} {then} f d here a =
      taking_stop f d here a Full (was_full (size - written) (length now.left) a.line.got a.line.item now then a.adds) (λ e. cc) refl

  -- an item that fails
  pub taking_failed : {index written taken m : ℕ} {now then : Written} {fault : Option ℕ} {result : Result ℕ (Option ℕ)} → Taking index written taken now
      → (d : ItemData) → index < length items → AddsItem plus (size - written) (get_or items index d) now (Err fault) then
      → result ≡ answer_at plus written (Fails fault) → m ≡ taken_by result taken → ReadsOffered plus size items old result m then
  taking_failed {index} {written} {taken} {m} {now} {then} {fault} {result} f d here a e number =
      subst (λ (r : Result ℕ (Option ℕ)). ReadsOffered plus size items old r m then) (sym e)
      (taking_stop f d here a (Fails fault) (has_failed (size - written) (length now.left) a.line.got a.line.item now fault then a.adds) (λ e. cc)
      (number ∙ ap (λ (r : Result ℕ (Option ℕ)). taken_by r taken) e))
