use Rattle.std.proofs.Common.{◌≡◌, false, [], Some, None, Err, sym, ap, ◌∙◌, rules, if◌then◌else◌}
use Rattle.vfs_flags.specs.Flags.{open_options_bits}
use Rattle.vfs_flags.specs.Numbers.{enosys}
use Rattle.vfs_files.specs.Values.{name_text}
use Rattle.vfs_files.specs.Calls.{Answer, Created, Failed, Plain}
use Rattle.vfs_files.specs.declared.entry.Entry.{Entry}
use Rattle.fs_nodes.specs.Node.{entry_of}
use Rattle.fs_nodes.specs.declared.kind.Kind.TheVariants as kind
use Rattle.fs_tree.specs.Naming.{new_in, asks_nameless}
use Rattle.fs_tree.specs.Outcome.{Outcome, Refused}
use Rattle.fs_tree.specs.State.{State, lead, with_new}
use Rattle.fs_tree.specs.Tree.{make_refusal, opens_nothing, makes, makes_nameless}
use Rattle.fs_tree.proofs.Answering.{as_second, created_too, failed_too}
use Rattle.fs_tree.proofs.calls.TreeFsFileSystem.create.Goals as goal

pub returns : goal.returns
returns c =
    let s = c.args.self.now in
    let parent = c.args.parent in
    let name = name_text c.args.name in
    let told : Entry → Answer = λ entry. Created entry None 0 in
    let node = new_in s c.args.ctx kind.File c.args.mode parent [] in
    let reply = Plain (Created c.in_ok-entry-2.entry None (open_options_bits c.empty-2.result)) in
    let other : Outcome = makes s c.args.ctx told kind.File c.args.mode parent name [] in
    let named : asks_nameless name ≡ false = search rules in
    let opens : opens_nothing s.offered ≡ false =
    ap (λ (t : State). opens_nothing t.offered) (sym c.self.view_is) ∙ sym c.opens_nothing.ensures
    ∙ c.if-opens_nothing.false in
    as_second s c.make.new.self reply (asks_nameless name)
    (makes_nameless s c.args.ctx told c.args.mode parent name c.args.flags)
    (if opens_nothing s.offered then Refused enosys else other) named
    (as_second s c.make.new.self reply (opens_nothing s.offered) (Refused enosys) other opens
    (created_too s c.make.new.self (make_refusal s parent name 0) (entry_of s.next node)
    (lead (with_new s node) parent name false (Some (record { node = s.next; kind = kind.File })))
    c.in_ok-entry-2.entry _ (c.empty-2.ensures tt) c.in_ok-entry-2.ensures))

pub returns-in_err-entry-2 : goal.returns-in_err-entry-2
returns-in_err-entry-2 c =
    let s = c.args.self.now in
    let parent = c.args.parent in
    let name = name_text c.args.name in
    let told : Entry → Answer = λ entry. Created entry None 0 in
    let node = new_in s c.args.ctx kind.File c.args.mode parent [] in
    let reply = Plain (Failed c.in_err-entry-2.field-0.0) in
    let other : Outcome = makes s c.args.ctx told kind.File c.args.mode parent name [] in
    let named : asks_nameless name ≡ false = search rules in
    let opens : opens_nothing s.offered ≡ false =
    ap (λ (t : State). opens_nothing t.offered) (sym c.self.view_is) ∙ sym c.opens_nothing.ensures
    ∙ c.if-opens_nothing.false in
    let fault : c.from_residual-in_err-entry-2.result ≡ Err c.in_err-entry-2.field-0.0 = search rules in
    let ends =
    as_second s c.make.new.self reply (asks_nameless name)
    (makes_nameless s c.args.ctx told c.args.mode parent name c.args.flags)
    (if opens_nothing s.offered then Refused enosys else other) named
    (as_second s c.make.new.self reply (opens_nothing s.offered) (Refused enosys) other opens
    (failed_too s c.make.new.self (make_refusal s parent name 0) (entry_of s.next node)
    (lead (with_new s node) parent name false (Some (record { node = s.next; kind = kind.File })))
    c.in_err-entry-2.field-0.0 c.in_err-entry-2.ensures)) in
    rw fault ends
