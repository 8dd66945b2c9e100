use Rattle.std.proofs.Common.{ℕ, List, None, map, sym, subst}
use Rattle.std.proofs.lemmas.List.{map-append}
use Rattle.vfs_files.specs.Calls.{Forget, Done}
use Rattle.vfs_files.specs.Runs.{Event, Called, IsRun}
use Rattle.vfs_files.proofs.Forgetting.{pairs_of}
use Rattle.test_uses.proofs.files.forget_two_lists.Goals as goal

pub returns : goal.returns
returns g c =
    let allows = g.F.FileSystem.allows in
    let gives = g.F.DirIter.DirectoryIterator.gives in
    let pairs = pairs_of allows gives g.F.Inode.Number.value in
    let event : ℕ × ℕ → Event = λ p. Called (Forget c.args.ctx.now p.0 p.1) Done in
    let one = map event (pairs c.args.first.items) in
    let other = map event (pairs c.args.second.items) in
    subst (λ (es : List Event). IsRun allows gives None c.args.fs.now es c.forget_each-2.new.fs)
    (sym (map-append event (pairs c.args.first.items) (pairs c.args.second.items)))
    (c.runs_join.ensures None c.args.fs.now c.forget_each.new.fs c.forget_each-2.new.fs one other c.forget_each.ensures c.forget_each-2.ensures)
