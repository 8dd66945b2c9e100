use Rattle.std.proofs.Common.{[], ◌∷◌, Some, None, false}
use Rattle.std.proofs.lemmas.List.Elements.{All-cons, All-nil}
use Rattle.vfs_files.specs.Runs.{Taken}
use Rattle.vfs_grammar.specs.Directories.{GoesOn}
use Rattle.test_uses.proofs.laws.any_name_is_whole.Goals as goal

pub returns : goal.returns
returns c = λ ctx parent size space item body result short listing roomy.
    c.directories_are_whole.ensures false ctx parent size space _ body result listing roomy
    (All-cons GoesOn (Taken (Some item)) (Taken None ∷ []) short
    (All-cons GoesOn (Taken None) [] tt (All-nil GoesOn)))
