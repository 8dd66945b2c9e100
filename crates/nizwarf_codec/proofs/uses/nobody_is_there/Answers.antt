use Rattle.std.proofs.Common.{arith, rules}
use Rattle.nizwarf_codec.proofs.uses.nobody_is_there.Goals as goal

pub returns-clause-codes : goal.returns-clause-codes
returns-clause-codes c =
    let a = (c.nizwarf_decode_at-asked.ensures.wrong (λ l. omega (arith, l.page))).0 in
    let b = (c.nizwarf_encode_at-answered.ensures.wrong (λ l. omega (arith, l.page))).0 in
    let d = (c.nizwarf_check_at-checked.ensures.wrong (λ l. omega (arith, l.page))).0 in
    search rules

pub returns-clause-slot : goal.returns-clause-slot
returns-clause-slot c =
    let a = (c.nizwarf_decode_at-asked.ensures.wrong (λ l. omega (arith, l.page))).1 in
    let b = (c.nizwarf_encode_at-answered.ensures.wrong (λ l. omega (arith, l.page))).1 in
    search rules

pub returns-clause-call : goal.returns-clause-call
returns-clause-call c =
    let a = (c.nizwarf_decode_at-asked.ensures.wrong (λ l. omega (arith, l.page))).2 in
    let d = (c.nizwarf_check_at-checked.ensures.wrong (λ l. omega (arith, l.page))).1 in
    search rules

pub returns-clause-told : goal.returns-clause-told
returns-clause-told c =
    let a = (c.nizwarf_decode_at-asked.ensures.wrong (λ l. omega (arith, l.page))).3 in
    let b = (c.nizwarf_encode_at-answered.ensures.wrong (λ l. omega (arith, l.page))).2 in
    search rules

pub returns-clause-interrupts : goal.returns-clause-interrupts
returns-clause-interrupts c =
    let d = (c.nizwarf_check_at-checked.ensures.wrong (λ l. omega (arith, l.page))).2 in
    search rules
