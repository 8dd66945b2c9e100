use Rattle.std.proofs.Common.{ℕ, List, None, refl, sym, subst}
use Rattle.fs_nodes.proofs.Fills.{counted}
use Rattle.fs_nodes.proofs.transfer.count_left.Goals as goal

pub returns-clause-taken : goal.returns-clause-taken
returns-clause-taken g c =
    let t = c.write_to_file_at.ensures in
    let k = counted _ None c.args.most _ _ _ _ refl t.2 in
    subst (λ (l : List ℕ). g.R.ZeroCopyReader.takes c.args.r.now l c.write_to_file_at.new.self) k.0 t.1

pub returns-clause-left : goal.returns-clause-left
returns-clause-left g c =
    let t = c.write_to_file_at.ensures in
    let k = counted _ None c.args.most _ _ _ _ refl t.2 in
    sym (g.met.R.ZeroCopyReader.takes_first c.args.r.now c.write_to_file_at.new.self _
    (subst (λ (l : List ℕ). g.R.ZeroCopyReader.takes c.args.r.now l c.write_to_file_at.new.self) k.0 t.1))

pub returns-clause-count : goal.returns-clause-count
returns-clause-count g c =
    (counted _ None c.args.most _ _ _ _ refl c.write_to_file_at.ensures.2).1
