use Rattle.std.proofs.Common.{◌≡◌, ◌||◌, false, Option, Some, None, is_none, subst, rules, nat_le}
use Rattle.vfs_files.specs.Calls.{Plain, done_answer}
use Rattle.vfs_files.specs.Values.{name_text}
use Rattle.fs_nodes.specs.declared.children.Child.{Child}
use Rattle.fs_tree.specs.Naming.{directory_refusal}
use Rattle.fs_tree.specs.Outcome.{HandsBack}
use Rattle.fs_tree.specs.Rename.{rename_refusal, renamed, renames, same_node}
use Rattle.fs_tree.specs.State.{child_at, node_at}
use Rattle.fs_tree.proofs.Renaming.{moved_ends}
use Rattle.fs_tree.proofs.calls.TreeFsFileSystem.rename.Goals as goal

pub returns : goal.returns
returns c =
    let s = c.args.self.now in
    let od = c.args.olddir in
    let on = name_text c.args.oldname in
    let nd = c.args.newdir in
    let nn = name_text c.args.newname in
    let flags = c.args.flags in
    let moved = c.get-moved.result in
    let target = c.get-target.result in
    let moved_is : moved ≡ child_at s od on = search rules in
    let target_is : target ≡ child_at s nd nn = search rules in
    let one : directory_refusal (node_at s od) on ≡ None = search rules in
    let two : directory_refusal (node_at s nd) nn ≡ None = search rules in
    let three : rename_refusal s od nd nn flags moved target ≡ None = search rules in
    let is : moved ≡ Some c.in-Some.child = search rules in
    let apart : same_node moved target ≡ false = search rules in
    let ends = moved_ends s c.move_child.new.self c.in-Some.child target
    (is_none target || nat_le 4 flags) (renamed s c.args.ctx od on nd nn flags target)
    c.move_child.result c.move_child.ensures.ok c.move_child.ensures.err
    (directory_refusal (node_at s od) on) (directory_refusal (node_at s nd) nn)
    (rename_refusal s od nd nn flags moved target) moved (same_node moved target) one two three is apart in
    subst
    (λ (t : Option Child). HandsBack s (renames s c.args.ctx od on nd nn flags t (child_at s od on))
    (Plain (done_answer c.move_child.result)) c.move_child.new.self) target_is
    (subst
    (λ (m : Option Child). HandsBack s (renames s c.args.ctx od on nd nn flags target m)
    (Plain (done_answer c.move_child.result)) c.move_child.new.self) moved_is ends)
