use Rattle.std.proofs.Common.{List, subst, sym}
use Rattle.std.specs.List.{All}
use Rattle.std.proofs.lemmas.List.Elements.{All-cons}
use Rattle.vhost_protocol.specs.Tables.{Apart}
use Rattle.vhost_protocol.specs.declared.messages.records.Region.{Region}
use Rattle.vhost_protocol.proofs.messages.table.+meets_any.Goals as goal

pub returns-else-meet-clause-apart : goal.returns-else-meet-clause-apart
returns-else-meet-clause-apart t c = λ no.
    let P : List Region → Type 0 = λ xs. All (Apart c.args.region.now) xs in
    let first = c.meet.ensures.apart c.if-meet.false in
    let rest = c.meets_any.ensures.apart no in
    subst P (sym c.in-Some.ensures.cases.0)
    (All-cons (Apart c.args.region.now) c.in-Some.first.now c.in-Some.rest.now first rest)
