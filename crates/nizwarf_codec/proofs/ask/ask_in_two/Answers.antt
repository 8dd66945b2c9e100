use Rattle.std.proofs.Common.{◌≡◌, ◌++◌, ◌∙◌, false, true, rules, sym}
use Rattle.nizwarf_codec.specs.Session.{limits_of}
use Rattle.nizwarf_codec.proofs.OfferedAsks.{most_front, most_ordinary, most_whole}
use Rattle.nizwarf_codec.proofs.ask.ask_in_two.Goals as goal

pub returns-clause-told : goal.returns-clause-told
returns-clause-told c = λ said w after space.
    let told = rw (c.in-Some-limits.ensures.0, c.options.ensures) at (c.ask_at_once.ensures.told said w after space) in
    rw (c.in-Some.ensures.1) told

pub returns-clause-ordinary : goal.returns-clause-ordinary
returns-clause-ordinary c = λ said.
    rw (c.in-Some.ensures.1) (most_ordinary c.args.incoming.now.offers (limits_of c.args.incoming.now.session.now)
    (c.in-Some.head.now ++ c.in-Some.rest.now)
    (most_whole c.in-Some.head.now c.in-Some.rest.now c.in-Some.ensures.0 (c.is_asked_most.ensures.most (search rules))))

pub returns-then-not-is_asked_most-clause-all : goal.returns-then-not-is_asked_most-clause-all
returns-then-not-is_asked_most-clause-all c are lies asks =
    let most : c.is_asked_most.result ≡ true = c.is_asked_most.ensures.all
    (most_front c.in-Some.head.now c.in-Some.rest.now _ c.in-Some.ensures.0 c.in-Some.ensures.1 asks.0) in
    let other : c.is_asked_most.result ≡ false = search rules in
    absurd (let e = sym most ∙ other in cc)
