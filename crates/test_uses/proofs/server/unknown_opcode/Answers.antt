use Rattle.std.proofs.Common.{◌≡◌, ◌∙◌, ◌++◌, ℕ, List, [], Some, ap, refl}
use Rattle.std.specs.Result.{result_ok}
use Rattle.test_uses.proofs.Callers.{step-unknown}
use Rattle.test_uses.proofs.server.unknown_opcode.Goals as goal

pub returns-clause-outcome : goal.returns-clause-outcome
returns-clause-outcome g c =
    let same = c.in-Ok.ensures.ok.0 ∙ ap (λ (l : List ℕ). l ++ []) c.as_slice.ensures in
    let seen =
    step-unknown g.F.FileSystem.allows g.F.DirIter.DirectoryIterator.gives c.args.server.now c.args.w.now c.handle_message.result
    c.handle_message.new.w c.handle_message.new.self (rw same at c.handle_message.ensures.step) c.requires in
    let is : c.ok.result ≡ Some 16 = c.ok.ensures.value ∙ ap result_ok seen.outcome_is in
    rw is refl

pub returns-clause-bytes : goal.returns-clause-bytes
returns-clause-bytes g c =
    let same = c.in-Ok.ensures.ok.0 ∙ ap (λ (l : List ℕ). l ++ []) c.as_slice.ensures in
    let seen =
    step-unknown g.F.FileSystem.allows g.F.DirIter.DirectoryIterator.gives c.args.server.now c.args.w.now c.handle_message.result
    c.handle_message.new.w c.handle_message.new.self (rw same at c.handle_message.ensures.step) c.requires in
    let is : c.ok.result ≡ Some 16 = c.ok.ensures.value ∙ ap result_ok seen.outcome_is in
    rw is seen.bytes

pub returns-clause-state : goal.returns-clause-state
returns-clause-state g c =
    let same = c.in-Ok.ensures.ok.0 ∙ ap (λ (l : List ℕ). l ++ []) c.as_slice.ensures in
    let seen =
    step-unknown g.F.FileSystem.allows g.F.DirIter.DirectoryIterator.gives c.args.server.now c.args.w.now c.handle_message.result
    c.handle_message.new.w c.handle_message.new.self (rw same at c.handle_message.ensures.step) c.requires in
    let is : c.ok.result ≡ Some 16 = c.ok.ensures.value ∙ ap result_ok seen.outcome_is in
    rw is seen.state
