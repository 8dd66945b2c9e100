use Rattle.std.proofs.Common.{arith, ap, refl, sym, ◌∙◌, ◌≡◌, ◌-◌, ◌+◌, ◌≤◌, min, length, take, drop}
use Rattle.std.proofs.lemmas.Grind.{common_steps}
use Rattle.std.proofs.lemmas.List.{take-take}
use Rattle.vfs_segments.specs.Unread.{Unread}
use Rattle.std.specs.List.{concat}
use Rattle.vfs_segments.proofs.Places.{length-left, moved_on}
use Rattle.vfs_segments.proofs.reader.Reader.write_to_file_at.Goals as goal

pub returns-in-Ok-clause-lent : goal.returns-in-Ok-clause-lent
returns-in-Ok-clause-lent g c = λ some.
    let r = c.self.inside in
    let m = c.in-Ok.moved in
    let bytes = concat r.segments in
    let left = c.args.self.now.left in
    let k = min c.args.count (length left) in
    let size : length left ≡ r.end - r.at = length-left r c.self.invariant c.args.self.now c.self.view_is in
    let n : c.min-n.result ≡ k = omega (arith, c.min-n.ensures, c.available_bytes.ensures) in
    let b = c.in-Ok.ensures.bound in
    let h : r.at + m ≤ r.end = omega (arith, b, n, size, c.self.invariant.before_end) in
    let is : take c.min-n.result (drop r.at bytes) ≡ take k left =
    ap (λ j. take j (drop r.at bytes)) n ∙ sym (take-take k (r.end - r.at) (drop r.at bytes) (omega (arith, size)))
    ∙ ap (λ (u : Unread). take k u.left) c.self.view_is in (
      moved_on r c.self.invariant c.args.self.now c.self.view_is m h,
      rw is at c.in-Ok.ensures.gives,
    )

pub returns-in-Err-clause-lent : goal.returns-in-Err-clause-lent
returns-in-Err-clause-lent g c = λ some.
    let r = c.self.inside in
    let bytes = concat r.segments in
    let left = c.args.self.now.left in
    let k = min c.args.count (length left) in
    let size : length left ≡ r.end - r.at = length-left r c.self.invariant c.args.self.now c.self.view_is in
    let n : c.min-n.result ≡ k = omega (arith, c.min-n.ensures, c.available_bytes.ensures) in
    let is : take c.min-n.result (drop r.at bytes) ≡ take k left =
    ap (λ j. take j (drop r.at bytes)) n ∙ sym (take-take k (r.end - r.at) (drop r.at bytes) (omega (arith, size)))
    ∙ ap (λ (u : Unread). take k u.left) c.self.view_is in
    (refl, rw is at c.in-Err.ensures.gives)

pub write_from-requires-clause-fits : goal.write_from-requires-clause-fits
write_from-requires-clause-fits g c = grind (arith, common_steps)

pub write_from-requires-clause-small : goal.write_from-requires-clause-small
write_from-requires-clause-small g c = grind (arith, common_steps)

pub overflow_add-self : goal.overflow_add-self
overflow_add-self g c = grind (arith, common_steps)

pub invariant_of-self : goal.invariant_of-self
invariant_of-self g c = grind (arith, common_steps)
