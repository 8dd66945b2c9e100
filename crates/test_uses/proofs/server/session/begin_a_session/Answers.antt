use Rattle.std.proofs.Common.{◌≡◌, ◌∙◌, refl}
use Rattle.vfs_files.specs.Answers.{Plain}
use Rattle.vfs_files.specs.Calls.{default_answer}
use Rattle.test_uses.proofs.SessionCallers.{limits_of_new, session-begun}
use Rattle.test_uses.proofs.server.session.begin_a_session.Goals as goal

pub returns : goal.returns
returns c =
    let limits : c.new-server.result.limits ≡ limits_of_new = rw c.new-server.ensures refl in
    let options : c.new-server.result.options ≡ 0 = rw c.new-server.ensures refl in
    let session = rw c.requires.requests at c.handle_session.ensures.memory in
    let seen =
    session-begun _ _ (λ s t call answer allowed. let e : Plain answer ≡ Plain (default_answer call) = allowed in cc)
    c.new-server.result c.handle_session.new.self c.args.writers.now c.handle_session.new.outcomes c.handle_session.new.writers session limits options c.requires.room in
    record {
      outcomes = seen.outcomes_are;
      rooms = seen.rooms;
      held = seen.held;
      segments = seen.segments;
      options = seen.options;
      limits = session.session.same_limits ∙ limits;
    }
