use Rattle.std.proofs.Common.{◌≡◌, ◌<◌, ◌≤◌, ◌+◌, ◌-◌, ◌/◌, ℕ, false, List, length, replicate, refl, sym, ap, ◌∙◌, ⊎_elim, arith}
use Rattle.std.specs.Map.{keys_of}
use Rattle.std.proofs.lemmas.Bool.{cases_lt}
use Rattle.std.proofs.lemmas.List.{length-replicate}
use Rattle.fs_nodes.specs.Pages.{byte_at, holds}
use Rattle.fs_nodes.proofs.HeldPages.{over_in, over_before, over_after, part_zero, lookup_free, zeros_at}
use Rattle.fs_nodes.proofs.pages.Pages.zero.Goals as goal

pub returns-else-holds-clause-bytes : goal.returns-else-holds-clause-bytes
returns-else-holds-clause-bytes c =
    λ place.
    let pages = c.args.self.now in
    let at = c.args.at in
    let count = c.args.count in
    let zeros : List ℕ = replicate count 0 in
    let long : length zeros ≡ count = length-replicate {A = ℕ} count 0 in
    let free : holds (keys_of pages) (at / 4096) ≡ false = sym c.holds.ensures ∙ c.if-holds.false in
    ⊎_elim
    (λ (before : place < at). sym (over_before at zeros (byte_at pages) place before))
    (λ (from : at ≤ place).
    ⊎_elim
    (λ (to : place < at + length zeros).
    let i : ℕ = place - at in
    let is : at + i ≡ place = omega arith in
    ap (byte_at pages) (sym is)
    ∙ part_zero pages at i (lookup_free pages (at / 4096) free) (omega arith)
    ∙ sym (over_in at zeros (byte_at pages) place from to ∙ zeros_at zeros count (place - at) refl)
    )
    (λ (following : at + length zeros ≤ place). sym (over_after at zeros (byte_at pages) place following))
    (cases_lt place (at + length zeros)))
    (cases_lt place at)
