use Rattle.std.proofs.Common.{◌∙◌, ap, sym, subst}
use Rattle.fs_small.specs.MemFs.{Stock}
use Rattle.fs_small.specs.Index.{AreIndexed, file_place}
use Rattle.fs_small.proofs.Indexed.{indexed_removed}
use Rattle.fs_small.proofs.memfs.MemFs.take_out.Goals as goal

pub invariant_of-self : goal.invariant_of-self
invariant_of-self c =
    let s = c.self.inside in
    subst (λ fs. AreIndexed fs c.remove.new.self s.next) (sym c.remove-2.ensures.items)
    (indexed_removed s.files.items s.names s.next c.self.invariant c.args.name.now c.args.place
    (ap (λ (s : Stock). file_place s c.args.name.now) c.self.view_is ∙ c.requires)
    c.remove.new.self c.remove.ensures.updates)
