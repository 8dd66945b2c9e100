use Rattle.std.proofs.Common.{◌≡◌, ◌∙◌, ℕ, [], ap, refl, rules, sym}
use Rattle.c_rooms.specs.Codes.{not_asked, ok}
use Rattle.nizwarf_codec.specs.Turns.{read_of, read_of_directory}
use Rattle.nizwarf_codec.proofs.Answering.{answered_as, other_error, other_kind, same_entry, turned_as}
use Rattle.nizwarf_codec.proofs.Ending.{agreed_then, few_taken, none_agreed_then}
use Rattle.nizwarf_codec.proofs.Lookup.{are_limits}
use Rattle.nizwarf_codec.proofs.Promised.{error_answered, error_listed, lacking, of_none, told_of_one}
use Rattle.nizwarf_codec.proofs.uses.answer_anything.Goals as goal

pub returns-clause-agreed : goal.returns-clause-agreed
returns-clause-agreed c init none = λ is.
    let fine : c.nizwarf_encode_at.result ≡ ok = search (rules, is) in
    agreed_then _ _ _ _ _ _ _ _ _ init none refl
    (answered_as _ _ _ _ _ _ _ _ _ _ (other_kind c.args.call.now c.args.answer.now [] (rw (init.kind_is) refl))
    (c.nizwarf_encode_at.ensures.answered are_limits)) fine

pub returns-clause-none : goal.returns-clause-none
returns-clause-none c destroy = λ is.
    let fine : c.nizwarf_encode_at.result ≡ ok = search (rules, is) in
    none_agreed_then _ _ _ _ _ _ _ _ destroy (c.nizwarf_encode_at.ensures.answered are_limits) fine

pub returns-clause-few : goal.returns-clause-few
returns-clause-few c = λ is.
    let fine : c.nizwarf_encode_at.result ≡ ok = search (rules, is) in
    few_taken _ _ _ _ _ _ _ _ (c.nizwarf_encode_at.ensures.answered are_limits) fine

pub returns-clause-told : goal.returns-clause-told
returns-clause-told c code is lacks unasked =
    let same : c.nizwarf_encode_at.result ≡ code = search (rules, is) in
    rw (sym same) (told_of_one _ _ _ _ _ _ _ _ _ (c.nizwarf_encode_at.ensures.fitted are_limits)
    (λ e. lacks (sym same ∙ e)) (λ e. unasked (sym same ∙ e)))

pub returns-clause-untold : goal.returns-clause-untold
returns-clause-untold c = λ is.
    let none : c.nizwarf_encode_at.result ≡ not_asked = search (rules, is) in
    (of_none _ _ _ _ _ _ _ _ _ (c.nizwarf_encode_at.ensures.fitted are_limits) none).0

pub returns-clause-nothing : goal.returns-clause-nothing
returns-clause-nothing c = λ is.
    let none : c.nizwarf_encode_at.result ≡ not_asked = search (rules, is) in
    (of_none _ _ _ _ _ _ _ _ _ (c.nizwarf_encode_at.ensures.fitted are_limits) none).1

pub returns-clause-of_none : goal.returns-clause-of_none
returns-clause-of_none c = λ is.
    let none : c.nizwarf_encode_at.result ≡ not_asked = search (rules, is) in
    (of_none _ _ _ _ _ _ _ _ _ (c.nizwarf_encode_at.ensures.fitted are_limits) none).2

pub returns-clause-changed : goal.returns-clause-changed
returns-clause-changed c request asked name other_offset are same code =
    let none : c.nizwarf_encode_at.result ≡ not_asked = search (rules, code) in
    (of_none _ _ _ _ _ _ _ _ _ (c.nizwarf_encode_at.ensures.fitted are_limits) none).2 request
    (asked, are, ap read_of same, λ is. ap read_of_directory same)

pub returns-clause-lacking : goal.returns-clause-lacking
returns-clause-lacking c code request are =
    let l = lacking _ _ _ _ _ _ _ _ _ request are (c.nizwarf_encode_at.ensures.fitted are_limits) (search (rules, code)) in (
      l.0 ∙ ap (λ (n : ℕ). record c.args.told.now { give_back = n; taken = 0 }) (same_entry c.args.call.now c.args.answer.now []),
      l.1,
    )

pub returns-clause-failed : goal.returns-clause-failed
returns-clause-failed c code is lacks unasked request echo ctx inode handle are asks some =
    let same : c.nizwarf_encode_at.result ≡ code = search (rules, is) in
    error_answered _ _ _ _ _ _ _ _ _ request echo some are ctx inode handle asks
    (turned_as _ _ _ _ _ _ _ _ _ _ (other_error c.args.call.now c.args.answer.now [] some)
    (c.nizwarf_encode_at.ensures.fitted are_limits)) (λ e. lacks (sym same ∙ e)) (λ e. unasked (sym same ∙ e))

pub returns-clause-unread : goal.returns-clause-unread
returns-clause-unread c code is lacks unasked request echo l are lists some =
    let same : c.nizwarf_encode_at.result ≡ code = search (rules, is) in
    error_listed _ _ _ _ _ _ _ _ _ request echo some are l lists
    (turned_as _ _ _ _ _ _ _ _ _ _ (other_error c.args.call.now c.args.answer.now [] some)
    (c.nizwarf_encode_at.ensures.fitted are_limits)) (λ e. lacks (sym same ∙ e)) (λ e. unasked (sym same ∙ e))
