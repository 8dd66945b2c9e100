use Rattle.std.proofs.Common.{◌≡◌, ◌≤◌, ◌∙◌, length, drop, arith, rules}
use Rattle.vfs_print.specs.Lines.{shown, short_line}
use Rattle.vfs_print.proofs.LineLemmas.{copied_after, copied_printable, ended, no_more, same_further}
use Rattle.vfs_print.proofs.message.Message.write_line.Goals as goal

pub loop-at-preserved : goal.loop-at-preserved
loop-at-preserved c =
    let at = c.loop-at.at in
    let end = c.min-end.result in
    let next = c.copy_to-at-in-loop-at.result in
    let old = c.loop-at.text in
    let new = c.copy_to-at-in-loop-at.new.text in
    let bytes = c.part.result.bytes in
    let e = c.copy_to-at-in-loop-at.ensures in
    let so_far = c.loop-at.invariant in
    let order : at ≤ next = omega (arith, e.next, so_far.0) in
    let last : next ≤ end = omega (arith, e.next) in
    let within : next ≤ length old = search rules in (
      last,
      search rules,
      copied_printable old bytes new at next order within e.enough e.copied so_far.2 c.part.result.printable,
      copied_after old bytes new at next order within e.enough e.copied
          ∙ same_further old c.copy_to-at.new.text at next order so_far.3,
      no_more (short_line c.args.self.now) _ _ at end c.loop-at-test.true so_far.4,
    )

pub returns-clause-line : goal.returns-clause-line
returns-clause-line c = λ some.
    let len = c.part-part.result.len in
    let at = c.loop-at.at in
    let end = c.min-end.result in
    let old = c.args.text.now in
    let first = c.copy_to-at.new.text in
    let text = c.loop-at.text in
    let e = c.copy_to-at.ensures in
    let so_far = c.loop-at.invariant in
    let is : end ≡ shown len old = search rules in
    let done : at ≡ end = omega (arith, so_far.0, c.loop-at-test.false) in
    let within : c.copy_to-at.result ≤ length old = search rules in
    let following : drop end first ≡ drop end old =
    same_further first old c.copy_to-at.result end (omega (arith, e.next))
    (copied_after old c.part-part.result.bytes first 0 c.copy_to-at.result (omega arith) within e.enough e.copied) in
    let all : drop end text ≡ drop end old = (rw done at so_far.3) ∙ following in
    rw is (ended len old text (search rules) (rw (done, is) at so_far.2) (rw is at all))
