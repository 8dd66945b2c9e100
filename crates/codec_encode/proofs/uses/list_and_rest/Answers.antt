use Rattle.std.proofs.Common.{◌≡◌, ◌<◌, ◌≤◌, ◌-◌, ◌^◌, ℕ, length, drop, inl, inr, ap, arith, length-drop}
use Rattle.std.proofs.lemmas.List.{take_all}
use Rattle.vfs_grammar.specs.Listing.{Listing}
use Rattle.codec_encode.specs.Told.{IsUnlisted}
use Rattle.codec_encode.proofs.uses.list_and_rest.Goals as goal

-- a directory that can be answered is
no_less : (space : ℕ) (l : Listing) → 16 ≤ space → l.size < 2 ^ 32 - 16 → IsUnlisted space l → ⊥
no_less space l enough short (inl h) = omega (arith, enough, h)
no_less space l enough short (inr h) = omega (arith, short, h)

pub returns-in-Some : goal.returns-in-Some
returns-in-Some c echo listing e t =
    let items = c.args.items.now in
    let taken : ℕ = c.in-Some.came.taken in (
      c.default-opened.result,
      c.in-Some.came,
      c.in-Some.ensures.listings echo listing e t c.requires.room,
      take_all (length items - taken) (drop taken items) (omega (arith, length-drop taken items)),
    )

pub returns-in-None : goal.returns-in-None
returns-in-None c echo listing e t =
    let size : c.args.call.now.size ≡ listing.size = ap (λ (l : Listing). l.size) t.listing_is in
    absurd (no_less (length c.args.w.now.left) listing c.requires.header (omega (arith, size, c.requires.short)) (c.in-None.ensures.listings echo listing e t c.requires.room))
