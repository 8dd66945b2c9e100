use Rattle.std.proofs.Common.{◌≡◌, ◌==◌, ◌≤◌, ◌∙◌, ℕ, true, false, nat_lt, arith, ap, refl, sym, Some}
use Rattle.std.proofs.lemmas.Bool.Decides.{nat_tests}
use Rattle.vfs_flags.specs.Numbers.{opcode_of}
use Rattle.vfs_flags.specs.declared.opcode.Opcode.TheVariants.{Init, Interrupt, Readdir, Readdirplus}
use Rattle.vfs_grammar.specs.Limits.{max_len}
use Rattle.codec_decode.proofs.asked.ask_after.Goals as goal

interrupt : opcode_of 36 ≡ Some Interrupt
unfolding opcode_of
interrupt = refl

not_above : (limit len : ℕ) → len ≤ limit → nat_lt limit len ≡ false
not_above limit len h = grind (arith, nat_tests, h)

other_number : (n : ℕ) → (n ≡ 36 → ⊥) → (n == 36) ≡ false
other_number n other = grind (arith, nat_tests, other)

pub returns-then-q-clause-told : goal.returns-then-q-clause-told
returns-then-q-clause-told c = λ request long first rest.
    let h = c.args.q.header.now in
    let below : nat_lt (max_len c.args.terms.limits) h.len ≡ false =
    not_above (max_len c.args.terms.limits) h.len (omega (arith, c.max_len.ensures, c.if-q-max_len.false)) in
    let known : opcode_of h.opcode ≡ Some Interrupt = ap opcode_of c.if-q.true ∙ interrupt in
    let number : (h.opcode == 36) ≡ true = ap (λ n. n == 36) c.if-q.true in
    rw (below, known, number) ((refl, refl), c.interrupted.ensures, c.requires.none)

pub returns-in-Ok-Init-clause-told : goal.returns-in-Ok-Init-clause-told
returns-in-Ok-Init-clause-told c = λ request long first rest.
    let h = c.args.q.header.now in
    let below : nat_lt (max_len c.args.terms.limits) h.len ≡ false =
    not_above (max_len c.args.terms.limits) h.len (omega (arith, c.max_len.ensures, c.if-q-max_len.false)) in
    let known : opcode_of h.opcode ≡ Some Init = sym c.in-Ok-Init.ensures.0 ∙ ap Some c.in-Ok-Init.field-0-is in
    let number = other_number h.opcode c.if-q.false in
    rw (below, known, number) (c.ask_init.ensures.told request)

pub returns-in-Ok-clause-told : goal.returns-in-Ok-clause-told
returns-in-Ok-clause-told c = λ request long first rest.
    let h = c.args.q.header.now in
    let below : nat_lt (max_len c.args.terms.limits) h.len ≡ false =
    not_above (max_len c.args.terms.limits) h.len (omega (arith, c.max_len.ensures, c.if-q-max_len.false)) in
    let known : opcode_of h.opcode ≡ Some c.in-Ok.opcode = sym c.in-Ok.ensures.0 in
    let number = other_number h.opcode c.if-q.false in
    rw (below, known, number) (c.ask_of_opcode.ensures.told request long first rest)

pub returns-in-Ok-Readdir-clause-told : goal.returns-in-Ok-Readdir-clause-told
returns-in-Ok-Readdir-clause-told c = λ request long first rest.
    let h = c.args.q.header.now in
    let below : nat_lt (max_len c.args.terms.limits) h.len ≡ false =
    not_above (max_len c.args.terms.limits) h.len (omega (arith, c.max_len.ensures, c.if-q-max_len.false)) in
    let known : opcode_of h.opcode ≡ Some Readdir = sym c.in-Ok-Readdir.ensures.0 ∙ ap Some c.in-Ok-Readdir.field-0-is in
    let number = other_number h.opcode c.if-q.false in
    rw (below, known, number) (c.ask_listing.ensures.told request)

pub returns-in-Ok-Readdirplus-clause-told : goal.returns-in-Ok-Readdirplus-clause-told
returns-in-Ok-Readdirplus-clause-told c = λ request long first rest.
    let h = c.args.q.header.now in
    let below : nat_lt (max_len c.args.terms.limits) h.len ≡ false =
    not_above (max_len c.args.terms.limits) h.len (omega (arith, c.max_len.ensures, c.if-q-max_len.false)) in
    let known : opcode_of h.opcode ≡ Some Readdirplus = sym c.in-Ok-Readdirplus.ensures.0 ∙ ap Some c.in-Ok-Readdirplus.field-0-is in
    let number = other_number h.opcode c.if-q.false in
    rw (below, known, number) (c.ask_listing-in-Ok-Readdirplus.ensures.told request)
