use Rattle.std.proofs.Common.{◌≡◌, ◌∙◌, ◌++◌, ℕ, List, [], Some, ap, refl}
use Rattle.std.specs.Result.{result_ok}
use Rattle.vfs_grammar.specs.declared.limits.Limits.{Limits}
use Rattle.test_uses.proofs.Callers.{step-long}
use Rattle.test_uses.proofs.server.len_above_a_chosen_limit.Goals as goal

pub returns-clause-outcome : goal.returns-clause-outcome
returns-clause-outcome c =
    let same = c.in-Ok.ensures.ok.0 ∙ ap (λ (l : List ℕ). l ++ []) c.as_slice.ensures in
    let seen =
    step-long _ _ c.small_buffers-server.result.0 c.args.w.now c.handle_message.result c.handle_message.new.w c.handle_message.new.self
    (rw same at c.handle_message.ensures.step) (ap (λ (l : Limits). l.max_buffer) c.small_buffers-server.ensures.limits) c.requires in
    let is : c.ok.result ≡ Some 16 = c.ok.ensures.value ∙ ap result_ok seen.outcome_is in
    rw is refl

pub returns-clause-bytes : goal.returns-clause-bytes
returns-clause-bytes c =
    let same = c.in-Ok.ensures.ok.0 ∙ ap (λ (l : List ℕ). l ++ []) c.as_slice.ensures in
    let seen =
    step-long _ _ c.small_buffers-server.result.0 c.args.w.now c.handle_message.result c.handle_message.new.w c.handle_message.new.self
    (rw same at c.handle_message.ensures.step) (ap (λ (l : Limits). l.max_buffer) c.small_buffers-server.ensures.limits) c.requires in
    let is : c.ok.result ≡ Some 16 = c.ok.ensures.value ∙ ap result_ok seen.outcome_is in
    rw is seen.bytes
