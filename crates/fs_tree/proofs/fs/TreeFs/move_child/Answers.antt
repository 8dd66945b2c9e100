use Rattle.std.proofs.Common.{◌≡◌, true}
use Rattle.vfs_files.specs.Values.{name_text}
use Rattle.fs_tree.specs.State.{lead}
use Rattle.fs_tree.proofs.Renaming.{renamed_by}
use Rattle.fs_tree.proofs.fs.TreeFs.move_child.Goals as goal

pub returns-clause-ok : goal.returns-clause-ok
returns-clause-ok c =
    let on = name_text c.args.oldname in
    let back_led : c.lead_name.new.self ≡ lead c.lead_to.new.self c.args.olddir on true c.way_back-back.result =
    rw c.to_bytes.ensures at c.lead_name.ensures in
    let named = rw c.is_some.ensures at c.in_ok-lead_to.ensures.ok in
    renamed_by c.args.self.now c.args.ctx c.args.olddir on c.args.newdir (name_text c.args.newname)
    c.args.flags c.args.target c.args.child c.in_ok-white.white c.way_back-back.result
    c.lead_to.new.self c.lead_name.new.self c.move_into.new.self c.leave_target.new.self
    c.in_ok-white.ensures.ok c.way_back-back.ensures named back_led
    c.move_into.ensures c.leave_target.ensures
