-- Sixteen bytes that a server left, when they were taken out of it.
use denote.RawPtr.{Ptr}
use Rattle.std.proofs.Common.{◌≡◌, ◌∙◌, ℕ, ◌-◌, List, length, take, drop, min, Option, Some, None, IfSome, MatchOption, ap, sym}
use Rattle.std.proofs.lemmas.List.{length-take, length-drop}
use Rattle.nizwarf_tree.specs.TreeUses.{no_such_name}
use Rattle.nizwarf_tree.specs.declared.memory.Place.{Place}

module _ {A B V : Type 0} (room : A → V) (start shown : A → ℕ) (kept : B → V) (bytes : V → List ℕ)
    (at : V → Ptr) (place : Place) where
  pub nothing_taken : (c : Option A) (d : Option B)
      → MatchOption c ⊥ (λ u. (shown u ≡ 16) × (take 16 (drop (start u) (bytes (room u))) ≡ no_such_name))
      → IfSome c (λ s. MatchOption d ⊥ (λ m. kept m ≡ room s))
      → IfSome c (λ s. place ≡ record {
        at = at (room s);
        start = start s;
        len = min (shown s) (length (bytes (room s)) - start s);
      })
      → MatchOption d ⊥ (λ m. (take place.len (drop place.start (bytes (kept m))) ≡ no_such_name)
      × (place.at ≡ at (kept m)))
  nothing_taken None d r taken placed = absurd r
  nothing_taken (Some s) None r taken placed = absurd taken
  nothing_taken (Some s) (Some m) r taken placed =
      let last : List ℕ = drop (start s) (bytes (room s)) in
      let whole : min 16 (length last) ≡ 16 = sym (length-take 16 last) ∙ ap length r.1 in
      let many : length last ≡ length (bytes (room s)) - start s = length-drop (start s) (bytes (room s)) in
      let long : place.len ≡ 16 =
      ap (λ (p : Place). p.len) placed ∙ ap (λ (n : ℕ). min n (length (bytes (room s)) - start s)) r.0
      ∙ ap (min 16) (sym many) ∙ whole in
      let from : place.start ≡ start s = ap (λ (p : Place). p.start) placed in
      (rw (taken, long, from) r.1, ap (λ (p : Place). p.at) placed ∙ ap at (sym taken))
