use Rattle.std.proofs.Common.{◌∙◌, ℕ, List, ap}
use Rattle.std.specs.Borrow.{Bor}
use Rattle.vfs_segments.specs.Segments.{flat_bytes, segments_of}
use Rattle.nizwarf_tree.proofs.Steps.{of_tmpfile}
use Rattle.nizwarf_tree.proofs.instance.Instance.answer_tmpfile.Goals as goal

pub returns-clause-served : goal.returns-clause-served
returns-clause-served c =
    of_tmpfile _ _ _ _ _ _ _ _ _
    (ap (λ (l : List (Bor (List ℕ))). flat_bytes (segments_of l)) c.deref.ensures.value ∙ c.in-Ok.ensures)
    c.answer_bytes.ensures.served
