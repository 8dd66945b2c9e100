use Rattle.std.proofs.Common.{◌≡◌, rules, subst}
use Rattle.std.specs.Prelude.{ℤ, []}
use Rattle.nizwarf_codec.specs.Answering.{AnswersOrNot}
use Rattle.nizwarf_codec.specs.Further.{with_eio}
use Rattle.nizwarf_codec.specs.Turns.{IsAnsweredOrNot}
use Rattle.nizwarf_codec.specs.Uses.{usual_limits}
use Rattle.nizwarf_codec.specs.Shown.{shown_in}
use Rattle.nizwarf_codec.proofs.Lookup.{are_limits}
use Rattle.nizwarf_codec.proofs.uses.answer_long_lock.Goals as goal

pub returns-clause-writers : goal.returns-clause-writers
returns-clause-writers c code is =
    let same : c.nizwarf_encode_at.result ≡ code = search (rules, is) in
    subst (λ (n : ℤ). AnswersOrNot usual_limits c.args.call.now (with_eio c.args.a.now) c.args.lock.now [] n c.args.told.now
    c.nizwarf_encode_at.new.told (shown_in c.nizwarf_encode_at.new.handle.value)) same
    (rw (c.requires.asked)
    (rw (c.requires.asked, c.requires.fine, c.requires.lock) at (c.nizwarf_encode_at.ensures.answered are_limits)))

pub returns-clause-promise : goal.returns-clause-promise
returns-clause-promise c code is =
    let same : c.nizwarf_encode_at.result ≡ code = search (rules, is) in
    subst (λ (n : ℤ). IsAnsweredOrNot usual_limits c.args.call.now (with_eio c.args.a.now) c.args.lock.now [] n
    c.args.told.now c.nizwarf_encode_at.new.told (shown_in c.nizwarf_encode_at.new.handle.value)) same
    (rw (c.requires.asked)
    (rw (c.requires.asked, c.requires.fine, c.requires.lock) at (c.nizwarf_encode_at.ensures.fitted are_limits)))

pub returns-clause-stays : goal.returns-clause-stays
returns-clause-stays c asks = c.nizwarf_encode_at.ensures.stays 4096 asks

pub returns-clause-keeps : goal.returns-clause-keeps
returns-clause-keeps c has = c.nizwarf_encode_at.ensures.keeps 4096 has
