use Rattle.std.proofs.Common.{◌++◌, take, ap, ◌∙◌}
use Rattle.vfs_files.specs.Values.{item}
use Rattle.fs_small.specs.MemFs.{root_items}
use Rattle.fs_small.proofs.RootItems.{items_more, items_whole}
use Rattle.fs_small.proofs.memfs.entries.root_entries.Goals as goal

pub loop-place-preserved : goal.loop-place-preserved
loop-place-preserved c =
    let all = root_items c.args.files.now in
    ap (λ l. take c.args.offset all ++ l) c.in_ok-push.ensures.ok
    ∙ items_more all c.loop-place.entries c.args.offset c.loop-place.place (item c.entry_at.result)
    c.loop-place.invariant c.entry_at.ensures

pub returns : goal.returns
returns c =
    items_whole c.args.files.now c.loop-place.entries c.args.offset c.loop-place.place
    c.loop-place-test.false c.loop-place.invariant
