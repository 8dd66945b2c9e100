use Rattle.std.proofs.Common.{ap, ◌∙◌, ◌≡◌, get_or, set, map, arith}
use Rattle.vfs_segments.proofs.ViewCuts.{exchanged}
use Rattle.vfs_segments.proofs.views.exchange.Goals as goal

pub returns-clause-same : goal.returns-clause-same
returns-clause-same c =
    let xs = c.args.segments.now.items in
    let back = c.swap.ensures.y_after in
    let read : c.swap-2.new.x ≡ get_or (set xs c.args.place c.swap.new.y) c.args.next c.swap-2.new.x =
    rw c.swap-2.ensures.x_after c.index_mut-2.ensures.value in
    exchanged xs c.args.place c.args.next c.swap.new.y c.swap-2.new.y c.swap-2.new.x (omega arith) read
    ∙ ap (λ v. set (map (λ u. u.items) xs) c.args.place v.items) back
