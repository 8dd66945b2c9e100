-- Runs of `forget`.
use Rattle.std.proofs.Common.{ℕ, List, [], ◌∷◌, ◌++◌, map, Option, None, refl, ap, sym, subst, ◌∙◌}
use Rattle.std.proofs.lemmas.List.{map-append}
use Rattle.vfs_files.specs.Values.{Item}
use Rattle.vfs_files.specs.Calls.{Call, Forget, Done, Handed, Plain}
use Rattle.vfs_files.specs.Runs.{Event, Called, IsRun, ForgetsEach}
use Rattle.vfs_files.specs.declared.entry.Context.{Context}
use Rattle.vfs_files.specs.RunLaws.{run-join}

module _ {S I N : Type 0}
    (allows : S → Call → Handed I → S → Type 0) (gives : I → Option Item → I → Type 0) (value : N → ℕ) where
  -- pairs of a node, which has this number, and a count as pairs of numbers
  abbrev pub pairs_of : List (N × ℕ) → List (ℕ × ℕ)
  pairs_of xs = map (λ p. (value p.0, p.1)) xs

  -- one more `forget` after a run of them
  pub forgets_more : (ctx : Context) (xs : List (N × ℕ)) (inode : N) (count : ℕ) (old middle new : S)
      → ForgetsEach allows gives ctx (pairs_of xs) old middle
      → allows middle (Forget ctx (value inode) count) (Plain Done) new
      → ForgetsEach allows gives ctx (pairs_of (xs ++ (inode, count) ∷ [])) old new
  forgets_more ctx xs inode count old middle new forgot step =
      let event : ℕ × ℕ → Event = λ p. Called (Forget ctx p.0 p.1) Done in
      let pair : N × ℕ → ℕ × ℕ = λ p. (value p.0, p.1) in
      let pushed = ap (map event) (map-append pair xs ((inode, count) ∷ [])) in
      let split = map-append event (pairs_of xs) (pair (inode, count) ∷ []) in
      subst (λ (es : List Event). IsRun allows gives None old es new) (sym (pushed ∙ split))
      (run-join allows gives None old middle new (map event (pairs_of xs))
      (event (pair (inode, count)) ∷ []) forgot (new, step, refl))
