use Rattle.std.proofs.Common.{◌∙◌, ℕ, List, ap}
use Rattle.std.specs.Borrow.{Bor}
use Rattle.vfs_segments.specs.Segments.{flat_bytes, segments_of}
use Rattle.nizwarf_tree.proofs.Offering.{created, pushed}
use Rattle.nizwarf_tree.proofs.offered.as_create.Goals as goal

pub returns : goal.returns
returns c =
    let flat = λ (l : List (Bor (List ℕ))). flat_bytes (segments_of l) in
    created (flat c.args.request.now) (flat c.new-list.result.items) (flat c.push_first.new.list.items)
    (flat c.push.new.self.items) (flat c.push_after.new.list.items) (ap flat c.new-list.ensures.items)
    c.in_ok-push_first.ensures
    (ap flat c.in_ok-push.ensures.items ∙ pushed c.push_first.new.list.items _) c.in_ok-push_after.ensures
