use Rattle.std.proofs.Common.{◌≡◌, ◌==◌, bit_and, false, [], None, ap, ◌∙◌, rules}
use Rattle.vfs_files.specs.Values.{name_text}
use Rattle.fs_nodes.specs.Node.{entry_of}
use Rattle.fs_nodes.specs.declared.kind.Kind.TheVariants as kind
use Rattle.fs_nodes.specs.declared.node.Node.{Node}
use Rattle.fs_tree.specs.Naming.{directory_refusal, has_no_number, new_in, new_nameless, nameless_refusal}
use Rattle.fs_tree.specs.State.{State, node_at, with_new}
use Rattle.fs_tree.proofs.Answering.{made_ends, nameless_free}
use Rattle.fs_tree.proofs.fs.TreeFs.make_nameless.Goals as goal

pub returns : goal.returns
returns c =
    let s = c.args.self.now in
    let parent = c.args.parent in
    let name = name_text c.args.name in
    let flags = c.args.flags in
    let node = new_nameless s c.args.ctx c.args.permissions parent flags in
    let there : directory_refusal (node_at s parent) name ≡ None = search rules in
    let room : has_no_number s ≡ false = search rules in
    let made : c.in_ok-node.node ≡ new_in s c.args.ctx kind.File c.args.permissions parent [] = search rules in
    let nameless = λ (n : Node). record n { names = 0; is_linkable = bit_and flags 0o200 == 0 } in
    let entry : c.entry-entry.result ≡ entry_of s.next node =
    c.entry-entry.ensures ∙ ap (λ (t : State). entry_of t.next (nameless c.in_ok-node.node)) c.self.view_is
    ∙ ap (λ (n : Node). entry_of s.next (nameless n)) made in
    made_ends s c.add_node.new.self (nameless_refusal s parent name) c.entry-entry.result
    (entry_of s.next node) (with_new s node)
    (nameless_free (directory_refusal (node_at s parent) name) (has_no_number s) there room) entry
    (c.in_ok-add_node.ensures.ok ∙ ap (λ (n : Node). with_new s (nameless n)) made)
