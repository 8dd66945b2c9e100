use Rattle.std.proofs.Common.{rules, ◌≡◌, ◌∷◌, [], List, length, refl, ap, arith, sym, ◌∙◌, append_assoc, append-nil}
use Rattle.std.specs.Vec.Iter.{into_iter_items}
use Rattle.vfs_files.proofs.Forgetting.{forgets_more}
use Rattle.test_uses.proofs.files.forget_each.Goals as goal

-- a list of no length is empty
nothing_left : {X : Type 0} (l : List X) → length l ≡ 0 → l ≡ []
nothing_left [] h = refl
nothing_left (x ∷ xs) h = absurd (omega arith)

pub loop-inode-init : goal.loop-inode-init
loop-inode-init g c = record {
  rest = c.into_iter-inode-iterator.ensures.into_iter_gives.0;
  left = search rules;
  forgot = refl;
}

pub loop-inode-preserved : goal.loop-inode-preserved
loop-inode-preserved g c =
    let at = c.loop-inode in
    let steps = c.in-Some.ensures.steps in
    record {
      rest = append_assoc at.yielded ((c.in-Some.inode, c.in-Some.count) ∷ []) (into_iter_items c.next.new.self)
          ∙ rw (← steps.0) at.invariant.rest;
      left =
          let was = at.invariant.left in
          let short = ap length steps.0 in
          let gone = steps.1 in
          omega arith;
      forgot = forgets_more g.F.FileSystem.allows g.F.DirIter.DirectoryIterator.gives g.F.Inode.Number.value
          c.args.ctx.now at.yielded c.in-Some.inode c.in-Some.count c.args.fs.now at.fs c.forget.new.self
          at.invariant.forgot c.forget.ensures;
    }

pub returns : goal.returns
returns g c =
    let at = c.loop-inode in
    let none = sym at.invariant.left ∙ c.in-None.ensures.steps.0 in
    let empty = nothing_left (into_iter_items at.inode-iterator) none in
    let all = sym (append-nil at.yielded) ∙ rw empty at at.invariant.rest in
    rw (← all) at.invariant.forgot
