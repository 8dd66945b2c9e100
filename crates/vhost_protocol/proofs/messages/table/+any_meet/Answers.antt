use Rattle.std.proofs.Common.{List, subst, sym}
use Rattle.std.specs.List.{AllPairs}
use Rattle.std.proofs.lemmas.List.Kept.{AllPairs-cons}
use Rattle.vhost_protocol.specs.Tables.{Apart}
use Rattle.vhost_protocol.specs.declared.messages.records.Region.{Region}
use Rattle.vhost_protocol.proofs.messages.table.+any_meet.Goals as goal

pub returns-else-meets_any-clause-apart : goal.returns-else-meets_any-clause-apart
returns-else-meets_any-clause-apart t c = λ no.
    let P : List Region → Type 0 = λ xs. AllPairs Apart xs in
    let first = c.meets_any.ensures.apart c.if-meets_any.false in
    let rest = c.any_meet.ensures.apart no in
    subst P (sym c.in-Some.ensures.cases.0)
    (AllPairs-cons Apart c.in-Some.first.now c.in-Some.rest.now first rest)
