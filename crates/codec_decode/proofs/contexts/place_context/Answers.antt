use Rattle.std.proofs.Common.{◌≡◌, ◌==◌, ℕ, true, false, arith, refl}
use Rattle.std.proofs.lemmas.Bool.Decides.{nat_tests}
use Rattle.codec_decode.proofs.contexts.place_context.Goals as goal

some_length : (n : ℕ) → (n ≡ 0 → ⊥) → (n == 0) ≡ false
some_length n some = grind (arith, nat_tests, some)

no_length : (n : ℕ) → n ≡ 0 → (n == 0) ≡ true
no_length n none = grind (arith, nat_tests, none)

pub returns-then-call-ne0 : goal.returns-then-call-ne0
returns-then-call-ne0 c = record {
  place = c.context_place.result;
  stands = rw (c.bytes_after-blocks.ensures, c.saturating_sub.ensures, c.place_after-place.ensures, c.last_name.ensures) at c.context_place.ensures;
  new_is =
      let some = some_length c.args.call.now.context.len c.if-call-ne0.true in
      rw (some, c.place_after-call.ensures, c.saturating_add-at.ensures, c.place_after-place.ensures, c.last_name.ensures) refl;
}

pub returns-else-call-ne0 : goal.returns-else-call-ne0
returns-else-call-ne0 c = record {
  place = c.context_place.result;
  stands = rw (c.bytes_after-blocks.ensures, c.saturating_sub.ensures, c.place_after-place.ensures, c.last_name.ensures) at c.context_place.ensures;
  new_is = let none = no_length c.args.call.now.context.len c.if-call-ne0.false in rw (none) refl;
}
