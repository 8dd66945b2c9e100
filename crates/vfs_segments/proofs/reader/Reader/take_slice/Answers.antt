use Rattle.std.proofs.Common.{arith, ap, ◌≡◌, ◌∙◌, ◌+◌, ◌≤◌, sym, rules}
use Rattle.std.proofs.lemmas.Grind.{common_steps}
use Rattle.vfs_segments.specs.Lengths.{lie_together}
use Rattle.vfs_segments.specs.Segments.{lengths_of}
use Rattle.vfs_segments.proofs.Places.{length-left, moved_on, together_is}
use Rattle.vfs_segments.proofs.reader.Reader.take_slice.Goals as goal

pub returns-in_default-clause-variant : goal.returns-in_default-clause-variant
returns-in_default-clause-variant c =
    let r = c.self.inside in
    let all = lengths_of r.segments in
    let left = length-left r c.self.invariant c.args.self.now c.self.view_is in
    let at : r.at + 0 ≡ r.at = omega arith in
    let h : r.at + 0 + c.args.n ≤ r.end = omega (arith, left, c.available_bytes.ensures.left, c.self.invariant.before_end) in
    c.in_default.ensures.found ∙ ap (λ k. lie_together k c.args.n all) (sym at)
    ∙ sym (together_is r c.self.invariant c.args.self.now c.self.view_is 0 c.args.n h)

pub returns-clause-variant : goal.returns-clause-variant
returns-clause-variant c =
    let r = c.self.inside in
    let all = lengths_of r.segments in
    let left = length-left r c.self.invariant c.args.self.now c.self.view_is in
    let at : r.at + 0 ≡ r.at = omega arith in
    let h : r.at + 0 + c.args.n ≤ r.end = omega (arith, left, c.available_bytes.ensures.left, c.self.invariant.before_end) in
    c.in-Some.ensures.found ∙ ap (λ k. lie_together k c.args.n all) (sym at)
    ∙ sym (together_is r c.self.invariant c.args.self.now c.self.view_is 0 c.args.n h)

pub returns-clause-moved : goal.returns-clause-moved
returns-clause-moved c =
    let r = c.self.inside in
    let left = length-left r c.self.invariant c.args.self.now c.self.view_is in
    let h : r.at + c.args.n ≤ r.end = omega (arith, left, c.available_bytes.ensures.left, c.self.invariant.before_end) in
    moved_on r c.self.invariant c.args.self.now c.self.view_is c.args.n h

pub returns-in_default-clause-none : goal.returns-in_default-clause-none
returns-in_default-clause-none c = search rules

pub lent-requires : goal.lent-requires
lent-requires c = grind (arith, common_steps)

pub overflow_add-self : goal.overflow_add-self
overflow_add-self c = grind (arith, common_steps)

pub invariant_of-self-2 : goal.invariant_of-self-2
invariant_of-self-2 c = grind (arith, common_steps)

pub returns-clause-bytes : goal.returns-clause-bytes
returns-clause-bytes c = grind (arith, common_steps)
