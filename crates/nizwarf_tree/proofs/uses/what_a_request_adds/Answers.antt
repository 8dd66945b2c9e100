use Rattle.std.proofs.Common.{◌∙◌, ℕ, List, [], ◌∷◌, map, ap}
use Rattle.vfs_grammar.specs.Turn.{Turn}
use Rattle.laws_history.specs.History.{Moment, turns_in}
use Rattle.nizwarf_tree.specs.Files.{State}
use Rattle.nizwarf_tree.proofs.uses.what_a_request_adds.Goals as goal

abbrev asked_of : List (Moment State) → List (List ℕ)
asked_of added = map (λ (t : Turn). t.request) (turns_in added)

pub returns-clause-ordinary : goal.returns-clause-ordinary
returns-clause-ordinary c = λ request added h. ap asked_of h.1 ∙ ap (λ (r : List ℕ). r ∷ []) h.2

pub returns-clause-unnamed : goal.returns-clause-unnamed
returns-clause-unnamed c = λ request added h. ap asked_of h.1 ∙ ap (λ (r : List ℕ). r ∷ []) h.2

pub returns-clause-short : goal.returns-clause-short
returns-clause-short c = λ request added h. ap (λ (a : List (Moment State)). turns_in a) h

pub returns-clause-row : goal.returns-clause-row
returns-clause-row c = λ request told added h. ap (λ (a : List (Moment State)). turns_in a) h
