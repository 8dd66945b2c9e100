use Rattle.std.proofs.Common.{◌≡◌, ◌++◌, [], append-nil, rules}
use Rattle.codec_decode.specs.Further.{what_of}
use Rattle.nizwarf_codec.specs.Session.{limits_of, options_of}
use Rattle.nizwarf_codec.proofs.OfferedAsks.{checks_ordinary, checks_promised, checks_row, checks_short, checks_unnamed, recode_checks, unnamed_whole}
use Rattle.nizwarf_codec.proofs.check.nizwarf_check_at.Goals as goal

pub returns-in-Ordinary-clause-checked : goal.returns-in-Ordinary-clause-checked
returns-in-Ordinary-clause-checked c = λ are.
    let q = c.args.request.now in
    let all : q ++ [] ≡ q = append-nil q in
    let limits = limits_of c.args.session.now in
    let options = options_of c.args.session.now in
    let told = rw (all, c.in-Some.ensures.0, c.options-options.ensures) at c.what.ensures in
    recode_checks limits options q c.args.room (what_of c.args.offers limits q) _ _ _ _ (search rules)
    (checks_ordinary limits options q c.args.room c.args.call.now c.what.new.call c.what.result c.check_piece.result
    c.check_piece.new.call c.check_piece.new.interrupts (what_of c.args.offers limits q) c.in-Ordinary.is told
    (rw (c.in-Some.ensures.0, c.options-options.ensures) at c.check_piece.ensures))

pub returns-in-Short-clause-checked : goal.returns-in-Short-clause-checked
returns-in-Short-clause-checked c = λ are.
    let q = c.args.request.now in
    let all : q ++ [] ≡ q = append-nil q in
    let limits = limits_of c.args.session.now in
    let options = options_of c.args.session.now in
    let told = rw (all, c.in-Some.ensures.0, c.options-options.ensures) at c.what.ensures in
    recode_checks limits options q c.args.room (what_of c.args.offers limits q) _ _ _ _ (search rules)
    (checks_short limits options q c.args.room c.args.call.now c.what.new.call c.what.result _
    (what_of c.args.offers limits q) c.in-Short.is told c.told.ensures.number)

pub returns-in-Row-clause-checked : goal.returns-in-Row-clause-checked
returns-in-Row-clause-checked c = λ are.
    let q = c.args.request.now in
    let all : q ++ [] ≡ q = append-nil q in
    let limits = limits_of c.args.session.now in
    let options = options_of c.args.session.now in
    let told = rw (all, c.in-Some.ensures.0, c.options-options.ensures) at c.what.ensures in
    checks_row limits options q c.args.room c.args.call.now c.what.new.call c.what.result
    (what_of c.args.offers limits q) c.in-Row.is told

pub returns-in-Unnamed-clause-checked : goal.returns-in-Unnamed-clause-checked
returns-in-Unnamed-clause-checked c = λ are.
    let q = c.args.request.now in
    let all : q ++ [] ≡ q = append-nil q in
    let limits = limits_of c.args.session.now in
    let options = options_of c.args.session.now in
    let told = rw (all, c.in-Some.ensures.0, c.options-options.ensures) at c.what.ensures in
    let checks = rw (c.in-Some.ensures.0, c.options-options.ensures) at c.check_unnamed.ensures in
    recode_checks limits options q c.args.room (what_of c.args.offers limits q) _ _ _ _ (search rules)
    (checks_unnamed limits options q c.args.room c.args.call.now c.what.new.call c.what.result c.check_unnamed.result
    c.check_unnamed.new.call c.check_unnamed.new.interrupts (what_of c.args.offers limits q) c.in-Unnamed.is told checks)

pub check_unnamed-requires-clause-whole : goal.check_unnamed-requires-clause-whole
check_unnamed-requires-clause-whole c =
    let q = c.args.request.now in
    let all : q ++ [] ≡ q = append-nil q in
    let limits = limits_of c.args.session.now in
    let options = options_of c.args.session.now in
    let told = rw (all, c.in-Some.ensures.0, c.options-options.ensures) at c.what.ensures in
    unnamed_whole options c.args.room c.args.call.now c.what.new.call c.what.result c.args.offers limits q c.in-Unnamed.is told

pub returns-in-Ordinary-clause-promise : goal.returns-in-Ordinary-clause-promise
returns-in-Ordinary-clause-promise c are none =
    checks_promised _ _ _ _ _ _ _ _ none (returns-in-Ordinary-clause-checked c are)

pub returns-in-Short-clause-promise : goal.returns-in-Short-clause-promise
returns-in-Short-clause-promise c are none =
    checks_promised _ _ _ _ _ _ _ _ none (returns-in-Short-clause-checked c are)

pub returns-in-Row-clause-promise : goal.returns-in-Row-clause-promise
returns-in-Row-clause-promise c are none =
    checks_promised _ _ _ _ _ _ _ _ none (returns-in-Row-clause-checked c are)

pub returns-in-Unnamed-clause-promise : goal.returns-in-Unnamed-clause-promise
returns-in-Unnamed-clause-promise c are none =
    checks_promised _ _ _ _ _ _ _ _ none (returns-in-Unnamed-clause-checked c are)
