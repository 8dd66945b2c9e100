use Rattle.std.proofs.Common.{◌≡◌, ◌∙◌, ◌++◌, ℕ, List, [], ap}
use Rattle.vfs_files.specs.Answers.{Plain}
use Rattle.vfs_files.specs.Calls.{default_answer}
use Rattle.test_uses.proofs.Callers.{step-statfs}
use Rattle.test_uses.proofs.server.ask_statfs.Goals as goal

pub returns-in-Ok-handle_message : goal.returns-in-Ok-handle_message
returns-in-Ok-handle_message c =
    let same = c.in-Ok.ensures.ok.0 ∙ ap (λ (l : List ℕ). l ++ []) c.as_slice.ensures in
    c.into_segments.ensures.bytes
    ∙ step-statfs _ _ (λ s t call answer allowed. let e : Plain answer ≡ Plain (default_answer call) = allowed in cc)
    c.new-server.result c.in_ok-writer.writer c.handle_message.result c.handle_message.new.w c.handle_message.new.self
    (rw same at c.handle_message.ensures.step) c.in_ok-writer.ensures.passed c.in_ok-writer.ensures.room
