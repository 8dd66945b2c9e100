use Rattle.std.proofs.Common.{◌∙◌, ◌++◌, ℕ, List, [], ap}
use Rattle.test_uses.proofs.Callers.{step-read}
use Rattle.test_uses.proofs.server.read_into_eight_bytes.Goals as goal

pub returns : goal.returns
returns g c =
    let same = c.in-Ok.ensures.ok.0 ∙ ap (λ (l : List ℕ). l ++ []) c.as_slice.ensures in
    let seen =
    step-read g.F.FileSystem.allows g.F.DirIter.DirectoryIterator.gives c.args.server.now c.args.w.now c.handle_message.result
    c.handle_message.new.w c.handle_message.new.self (rw same at c.handle_message.ensures.step) c.requires in
    record { outcome = seen.outcome_is; bytes = seen.bytes; state = seen.state }
