use Rattle.std.proofs.Common.{◌≡◌, false, length, Some, None, ap, ◌∙◌, rules}
use Rattle.vfs_files.specs.Values.{name_text}
use Rattle.fs_nodes.specs.Node.{entry_of}
use Rattle.fs_tree.specs.Naming.{new_in}
use Rattle.fs_tree.specs.State.{State, lead, with_new}
use Rattle.fs_tree.specs.Tree.{make_refusal}
use Rattle.fs_tree.proofs.Answering.{made_ends}
use Rattle.fs_tree.proofs.fs.TreeFs.make.Goals as goal

pub returns : goal.returns
returns c =
    let s = c.args.self.now in
    let parent = c.args.parent in
    let name = name_text c.args.name in
    let text = c.args.text.now in
    let node = new_in s c.args.ctx c.args.kind c.args.permissions parent text in
    let last = lead (with_new s node) parent name false (Some (record { node = s.next; kind = c.args.kind })) in
    let free : make_refusal s parent name (length text) ≡ None = search rules in
    let entry : c.entry-entry.result ≡ entry_of s.next node = search rules in
    let node_is : c.in_ok-node.node ≡ node = search rules in
    let left : c.add.new.self ≡ last =
    c.in_ok-add.ensures.ok
    ∙ ap (λ n. lead (with_new s n) parent name false
    (Some (record { node = c.self.inside.next; kind = c.args.kind }))) node_is
    ∙ ap (λ (t : State). lead (with_new s node) parent name false
    (Some (record { node = t.next; kind = c.args.kind }))) c.self.view_is in
    made_ends s c.add.new.self (make_refusal s parent name (length text)) c.entry-entry.result
    (entry_of s.next node) last free entry left
