use Rattle.std.proofs.Common.{◌≡◌, ℕ, List, ap, sym, subst, arith}
use Rattle.vfs_flags.specs.Numbers.{opcode_of}
use Rattle.vfs_wire.specs.Fields.{number}
use Rattle.vfs_grammar.specs.Books.{opcode_in}
use Rattle.laws_turns.specs.Turns.{CarriesData, size_asked}
use Rattle.laws_turns.proofs.uses.turns.lengths_of_data.Goals as goal

pub returns-clause-read : goal.returns-clause-read
unfolding number opcode_of
returns-clause-read c = λ limits options after n t turn is answer.
    let size : size_asked t.request ≡ 3 = ap size_asked is in
    let carries : CarriesData (opcode_in t.request) = subst (λ (r : List ℕ). CarriesData (opcode_in r)) (sym is) tt in
    let bound = c.data_are_no_more_than_asked.ensures limits options after n t turn carries answer in
    omega (arith, size, bound)

pub returns-clause-readdir : goal.returns-clause-readdir
unfolding number opcode_of
returns-clause-readdir c = λ limits options after n t turn is answer.
    let size : size_asked t.request ≡ 96 = ap size_asked is in
    let carries : CarriesData (opcode_in t.request) = subst (λ (r : List ℕ). CarriesData (opcode_in r)) (sym is) tt in
    let bound = c.data_are_no_more_than_asked.ensures limits options after n t turn carries answer in
    omega (arith, size, bound)

pub returns-clause-readdirplus : goal.returns-clause-readdirplus
unfolding number opcode_of
returns-clause-readdirplus c = λ limits options after n t turn is answer.
    let size : size_asked t.request ≡ 200 = ap size_asked is in
    let carries : CarriesData (opcode_in t.request) = subst (λ (r : List ℕ). CarriesData (opcode_in r)) (sym is) tt in
    let bound = c.data_are_no_more_than_asked.ensures limits options after n t turn carries answer in
    omega (arith, size, bound)
