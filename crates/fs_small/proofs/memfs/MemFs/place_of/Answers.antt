use Rattle.std.proofs.Common.{sym, ap, ◌∙◌}
use Rattle.fs_small.specs.MemFs.{Stock, node_place}
use Rattle.fs_small.specs.Index.{file_place}
use Rattle.fs_small.proofs.Index.{place_named, none_named}
use Rattle.fs_small.proofs.memfs.MemFs.place_of.Goals as goal

pub returns-in_err-node-clause-place : goal.returns-in_err-node-clause-place
returns-in_err-node-clause-place c =
    let s = c.self.inside in
    c.from_residual.ensures
    ∙ sym (none_named s.files.items c.args.name.now
    (sym (c.self.invariant.index c.args.name.now) ∙ sym c.in_err-node.ensures.value))
    ∙ ap (λ (s : Stock). file_place s c.args.name.now) c.self.view_is

pub returns-clause-place : goal.returns-clause-place
returns-clause-place c =
    let s = c.self.inside in
    c.place_of_node.ensures.place
    ∙ ap (λ (s : Stock). node_place s c.in_ok-node.node.now) (sym c.self.view_is)
    ∙ place_named s.files.items c.self.invariant.order c.args.name.now c.in_ok-node.node.now
    (sym (c.self.invariant.index c.args.name.now) ∙ sym c.in_ok-node.ensures.value)
    ∙ ap (λ (s : Stock). file_place s c.args.name.now) c.self.view_is
