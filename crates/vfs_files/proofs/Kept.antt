-- The items of entries whose names are one after the other, with one more.
use Rattle.std.proofs.Common.{◌≡◌, ◌≢◌, ◌<◌, ◌≤◌, ◌-◌, ℕ, suc, List, [], ◌∷◌, ◌++◌, length, take, drop, get_or, slice_range, refl, sym, ap, ◌∙◌, subst, arith, length-append, ⊎_elim, nat_lt, true, false}
use Rattle.std.proofs.Math.Seq.{drop-append_seam}
use Rattle.std.proofs.lemmas.Bool.{cases_Bool, ltb-true, ltb-false}
use Rattle.std.proofs.lemmas.List.{drop-append-le, take-append-le, take_all, length-drop, get_or_append_left, get_or-append_right}
use Rattle.vfs_files.specs.Values.{Item}
use Rattle.vfs_files.specs.Listing.{items_from, AreInTurn, IsEntryList}
use Rattle.vfs_files.specs.declared.listing.Kept.{Kept}

-- a name is the same with more bytes after all of them
slice_left : (names text : List ℕ) (a b : ℕ) → a ≤ b → b ≤ length names
    → slice_range (names ++ text) a b ≡ slice_range names a b
slice_left names text a b rise within =
    let long = length-drop a names in
    ap (take (b - a)) (drop-append-le a names text (omega arith))
    ∙ take-append-le (b - a) (drop a names) text (omega (arith, long))

-- and what comes after them is the last one
slice_right : (names text : List ℕ) (a b : ℕ) → a ≡ length names → b ≡ length (names ++ text)
    → slice_range (names ++ text) a b ≡ text
slice_right names text a b begins ends =
    let long = length-append names text in
    ap (λ n. take (b - n) (drop n (names ++ text))) begins
    ∙ ap (take (b - length names)) (drop-append_seam names text)
    ∙ take_all (b - length names) text (omega (arith, long, ends))

abbrev kept_item : Kept → (name : List ℕ) → Item
kept_item kept name =
    record { ino = kept.ino; offset = kept.offset; type_ = kept.type_; name = name }

pub length-items_from : (begin : ℕ) (names : List ℕ) (es : List Kept)
    → length (items_from begin names es) ≡ length es
length-items_from begin names [] = refl
length-items_from begin names (e ∷ es) = ap suc (length-items_from e.end names es)

module _ (names text : List ℕ) (last : Kept) (ends : last.end ≡ length (names ++ text)) where
  items_pushed : (begin : ℕ) (es : List Kept) → AreInTurn begin names es
      → items_from begin (names ++ text) (es ++ last ∷ [])
      ≡ items_from begin names es ++ kept_item last text ∷ []
  items_pushed begin [] turn =
      ap (λ t. kept_item last t ∷ []) (slice_right names text begin last.end turn ends)
  items_pushed begin (e ∷ es) turn =
      ap (λ t. kept_item e t ∷ items_from e.end (names ++ text) (es ++ last ∷ []))
      (slice_left names text begin e.end turn.0 turn.1)
      ∙ ap (λ l. kept_item e (slice_range names begin e.end) ∷ l) (items_pushed e.end es turn.2)

  turn_pushed : (begin : ℕ) (es : List Kept) → AreInTurn begin names es
      → AreInTurn begin (names ++ text) (es ++ last ∷ [])
  turn_pushed begin [] turn =
      let long = length-append names text in
      (omega (arith, turn, ends, long), omega (arith, ends), ends)
  turn_pushed begin (e ∷ es) turn =
      let long = length-append names text in
      (turn.0, omega (arith, turn.1, long), turn_pushed e.end es turn.2)

module _ (names : List ℕ) (entries : List Kept) (given begin : ℕ)
    (old : IsEntryList names entries given begin) (text : List ℕ)
    (no_nul : (k : ℕ) → k < length text → get_or text k 0 ≢ 0)
    (last : Kept) (more : List ℕ) (added : List Kept) (names_are : more ≡ names ++ text)
    (entries_are : added ≡ entries ++ last ∷ []) (ends : last.end ≡ length more) where
  ends' : last.end ≡ length (names ++ text)
  ends' = ends ∙ ap length names_are

  left : drop given (entries ++ last ∷ []) ≡ drop given entries ++ last ∷ []
  left = drop-append-le given entries (last ∷ []) old.within

  pub listing_items : items_from begin more (drop given added)
      ≡ items_from begin names (drop given entries) ++ kept_item last text ∷ []
  listing_items =
      ap (λ ns. items_from begin ns (drop given added)) names_are
      ∙ ap (λ es. items_from begin (names ++ text) (drop given es)) entries_are
      ∙ ap (items_from begin (names ++ text)) left
      ∙ items_pushed names text last ends' begin (drop given entries) old.in_turn

  pub listing_pushed : IsEntryList more added given begin
  listing_pushed =
      subst (λ ns. IsEntryList ns added given begin) (sym names_are)
      (subst (λ es. IsEntryList (names ++ text) es given begin) (sym entries_are) (record {
        within = let long = length-append entries (last ∷ []) in omega (arith, long, old.within);
        in_turn = subst (AreInTurn begin (names ++ text)) (sym left)
            (turn_pushed names text last ends' begin (drop given entries) old.in_turn);
        no_nul = λ k within.
            ⊎_elim
            (λ (front : nat_lt k (length names) ≡ true).
            subst (λ b. b ≢ 0) (sym (get_or_append_left names text 0 k
            (ltb-true k (length names) front)))
            (old.no_nul k (ltb-true k (length names) front)))
            (λ (following : nat_lt k (length names) ≡ false).
            let from = ltb-false k (length names) following in
            let long = length-append names text in
            subst (λ b. b ≢ 0) (sym (get_or-append_right names text (length names) k 0 refl from))
            (no_nul (k - length names) (omega (arith, from, long))))
            (cases_Bool (nat_lt k (length names)));
      }))
