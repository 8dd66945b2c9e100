use Rattle.std.proofs.Common.{rules}
use Rattle.std.proofs.Common.{◌≡◌, ℕ, List, Result, Ok, refl, ap, ◌∙◌}
use Rattle.vfs_flags.specs.Numbers.{opcode_of}
use Rattle.vfs_wire.specs.Fields.{number}
use Rattle.vfs_grammar.specs.Books.{accepted_by}
use Rattle.vfs_grammar.specs.Samples.{batch_of_two}
use Rattle.vfs_grammar.specs.declared.error.Error.{Error}
use Rattle.vfs_grammar.proofs.uses.a_forget_is_counted.Goals as goal

-- the pair of node 7
batch_accepts_7 : accepted_by 7 batch_of_two (Ok 0) ≡ 3
unfolding opcode_of number
batch_accepts_7 = refl

pub returns-clause-accepted : goal.returns-clause-accepted
returns-clause-accepted c = λ t request outcome.
    ap (λ (r : List ℕ). accepted_by 7 r t.outcome) request
    ∙ ap (λ (o : Result ℕ Error). accepted_by 7 batch_of_two o) outcome
    ∙ batch_accepts_7

pub returns-clause-refused : goal.returns-clause-refused
returns-clause-refused c = search rules
