use Rattle.std.proofs.Common.{◌≡◌, ◌∙◌, ◌∷◌, ◌++◌, ℕ, List, [], length, ap}
use Rattle.vfs_segments.specs.Lengths.{lengths_from}
use Rattle.test_uses.proofs.HistoryCallers.{both, lookup_wants_none}
use Rattle.test_uses.proofs.history.found_and_forgotten.Goals as goal

pub returns : goal.returns
returns c =
    let asked = c.in-Ok.ensures.ok.0 ∙ ap (λ (l : List ℕ). l ++ []) c.as_slice.ensures in
    let gave = c.in-Ok-new.ensures.ok.0 ∙ ap (λ (l : List ℕ). l ++ []) c.as_slice-2.ensures in
    let pieces : c.in-Ok.lookup.pieces ≡ 42 ∷ [] =
    c.in-Ok.ensures.pieces ∙ ap (λ (l : List ℕ). lengths_from 0 (length l ∷ [])) c.as_slice.ensures in
    let enough =
    c.handle_message-found.ensures.memory
    (lookup_wants_none c.args.server.now.limits c.args.server.now.options
    (length c.args.one.now.left) c.in-Ok.lookup asked pieces) in
    let seen =
    both c.args.one.now c.args.two.now c.handle_message-found.new.w c.handle_message-forgotten.new.w
    c.args.server.now c.handle_message-found.new.self c.handle_message-forgotten.new.self
    c.handle_message-found.result c.handle_message-forgotten.result
    c.history_goes_on.ensures.handled c.history_keeps_books.ensures
    (rw asked at c.handle_message-found.ensures.step)
    (rw gave at c.handle_message-forgotten.ensures.step)
    c.requires.file c.requires.room enough in
    record {
      outcomes = cc (seen.found, seen.gave);
      entry = seen.reply;
      silent = seen.silent;
      history = seen.history;
      files = seen.same;
    }
