use Rattle.std.proofs.Common.{◌≡◌, ◌≤◌, ◌<◌, ◌+◌, ◌-◌, ◌%◌, ℕ, arith}
use Rattle.std.proofs.lemmas.Bool.Decides.{nat_tests}
use Rattle.vhost_protocol.proofs.chains.rings.needs_event.Goals as goal

-- how far the last entry is after the one of the event, and how many there are
abbrev following : (event new : ℕ) → ℕ
following event new = ((new + (65536 - event)) % 65536 + 65535) % 65536

abbrev many : (new old : ℕ) → ℕ
many new old = (new + (65536 - old)) % 65536

-- there are as many as the counts say
many_is : (new old before after : ℕ) → old ≡ before % 65536 → new ≡ after % 65536 → before ≤ after
    → after - before < 65536 → many new old ≡ after - before
many_is new old before after old_is new_is le few = omega (arith, old_is, new_is)

-- the entry so far after the last one has the event's index
at_event : (event new after : ℕ) → event < 65536 → new ≡ after % 65536 → following event new < after
    → event ≡ (after - 1 - following event new) % 65536
at_event event new after fits new_is far = omega (arith, new_is)

-- an entry of the event's index, less than 65536 before the end, is so far after the last one
following_is : (event new after count : ℕ) → new ≡ after % 65536 → event ≡ count % 65536 → count < after
    → after - count ≤ 65536 → following event new ≡ after - 1 - count
following_is event new after count new_is event_is below near = omega (arith, new_is, event_is)

pub returns-clause-counted : goal.returns-clause-counted
returns-clause-counted c before after old_is new_is le few =
    let many : many c.args.new c.args.old ≡ after - before =
    many_is c.args.new c.args.old before after old_is new_is le few in (
      λ is.
          let far : following c.args.event c.args.new < after - before = grind (arith, nat_tests, is, many) in (
            after - 1 - following c.args.event c.args.new,
            omega (arith, far),
            omega (arith, far),
            at_event c.args.event c.args.new after (omega arith) new_is (omega (arith, far)),
          ),
      λ there.
          let b : following c.args.event c.args.new ≡ after - 1 - there.0 =
          following_is c.args.event c.args.new after there.0 new_is there.3 there.2 (omega (arith, there.1)) in
          grind (arith, nat_tests, b, many, there.1, there.2),
    )
