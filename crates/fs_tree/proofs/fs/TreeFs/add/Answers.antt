use Rattle.std.proofs.Common.{Bool, not, ◌==◌, ◌&&◌, ◌||◌, is_none, ap, ◌∙◌, arith}
use Rattle.fs_nodes.specs.Held.{may_hold}
use Rattle.fs_tree.specs.Holding.{rests}
use Rattle.fs_tree.proofs.Nodes.{is_at_other}
use Rattle.fs_tree.proofs.Noting.{sound_new}
use Rattle.fs_tree.proofs.fs.TreeFs.add.Goals as goal

pub invariant_of-self-2 : goal.invariant_of-self-2
invariant_of-self-2 c =
    let s = c.self.inside in
    let put = c.in_ok-put_node.ensures.updates in
    sound_new s.next s.held c.note.new.self s.nodes.entries c.add_name.new.nodes.entries c.args.node
    c.self.invariant
    (λ m. c.in_default.ensures.idle m ∙ ap rests (put.0 m))
    (λ m up. c.in_default.ensures.free m
    (put.2 m (is_at_other s.next m (λ e. omega (arith, up, e)))
    ∙ c.self.invariant.free m (omega (arith, up))))
    (λ m. c.note.ensures m
    ∙ ap (λ (b : Bool). may_hold s.held m || (not b && m == s.next) || is_none c.note.new.self)
    c.is_idle.ensures)
