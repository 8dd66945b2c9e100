use Rattle.std.proofs.Common.{ℕ, List, [], ◌∷◌, ◌++◌, Some, ap, sym, ◌∙◌, arith, append-nil}
use Rattle.std.proofs.lemmas.List.Elements.{All-nil, All-cons}
use Rattle.std.specs.List.{All}
use Rattle.laws_turns.specs.Listings.{IsRow}
use Rattle.vfs_grammar.specs.Nodes.{nodes_in}
use Rattle.vfs_grammar.specs.Words.{record_bytes}
use Rattle.vfs_grammar.specs.Samples.{file_a, root_dot}
use Rattle.laws_turns.proofs.uses.listings.nodes_of_two_records.Goals as goal

pub returns : goal.returns
returns c = λ first second fits one.
    let rows : All IsRow ((first, file_a) ∷ (second, root_dot) ∷ []) =
    All-cons IsRow (first, file_a) ((second, root_dot) ∷ []) (fits, omega arith)
    (All-cons IsRow (second, root_dot) [] (one, omega arith) (All-nil IsRow)) in
    ap (λ (bytes : List ℕ). nodes_in (record_bytes (Some first) file_a ++ bytes)) (sym (append-nil (record_bytes (Some second) root_dot)))
    ∙ c.nodes_are_found.ensures.rows ((first, file_a) ∷ (second, root_dot) ∷ []) rows
