use Rattle.std.proofs.Common.{◌≡◌, ◌+◌, ◌-◌, suc, length, sym, ap, ◌∙◌, arith}
use Rattle.fs_tree.specs.Rename.{is_below}
use Rattle.fs_tree.specs.State.{State}
use Rattle.fs_tree.proofs.Below.{below_itself, below_root, below_next}
use Rattle.fs_tree.proofs.fs.TreeFs.is_below.Goals as goal

pub loop-init : goal.loop-init
loop-init c =
    let s = c.args.self.now in
    let all : length s.nodes - 0 ≡ length s.nodes = omega arith in
    ap (λ k. is_below s k c.args.number c.args.start) all

pub returns-then-at-number : goal.returns-then-at-number
returns-then-at-number c =
    let s = c.args.self.now in
    let count = ap (λ (s : State). length s.nodes) c.self.view_is in
    let left : length s.nodes - c.loop.counter ≡ suc (length s.nodes - (c.loop.counter + 1)) =
    omega (arith, count) in
    sym (below_itself s (length s.nodes - (c.loop.counter + 1)) c.args.number c.loop.at c.if-at-number.true)
    ∙ (rw left at c.loop.invariant)

pub returns-then-at-eq-ROOT_ID : goal.returns-then-at-eq-ROOT_ID
returns-then-at-eq-ROOT_ID c =
    let s = c.args.self.now in
    let count = ap (λ (s : State). length s.nodes) c.self.view_is in
    let left : length s.nodes - c.loop.counter ≡ suc (length s.nodes - (c.loop.counter + 1)) =
    omega (arith, count) in
    sym (below_root s (length s.nodes - (c.loop.counter + 1)) c.args.number c.loop.at
    c.if-at-number.false c.if-at-eq-ROOT_ID.true)
    ∙ (rw left at c.loop.invariant)

pub loop-preserved : goal.loop-preserved
loop-preserved c =
    let s = c.args.self.now in
    let count = ap (λ (s : State). length s.nodes) c.self.view_is in
    let left : length s.nodes - c.loop.counter ≡ suc (length s.nodes - (c.loop.counter + 1)) =
    omega (arith, count) in
    ap (is_below s (length s.nodes - (c.loop.counter + 1)) c.args.number) c.parent_of-at.ensures
    ∙ sym (below_next s (length s.nodes - (c.loop.counter + 1)) c.args.number c.loop.at
    c.if-at-number.false c.if-at-eq-ROOT_ID.false)
    ∙ (rw left at c.loop.invariant)

pub returns : goal.returns
returns c =
    let s = c.args.self.now in
    let count = ap (λ (s : State). length s.nodes) c.self.view_is in
    let none : length s.nodes - c.loop.counter ≡ 0 = omega (arith, count) in
    rw none at c.loop.invariant
