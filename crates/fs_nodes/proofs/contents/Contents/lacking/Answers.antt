use Rattle.std.proofs.Common.{◌≡◌, ◌-◌, ◌/◌, ℕ, true, false, sym, ap, ◌∙◌, arith}
use Rattle.std.proofs.lemmas.Bool.{cond-true, cond-false}
use Rattle.fs_nodes.specs.Pages.{holds, missing}
use Rattle.fs_nodes.specs.Contents.{Contents, pages_over}
use Rattle.fs_nodes.proofs.HeldPages.{missing_more}
use Rattle.fs_nodes.proofs.contents.Contents.lacking.Goals as goal
use Rattle.fs_nodes.proofs.contents.Contents.lacking.Goals.{then-not-holds, else-not-holds}

pub returns : goal.returns
returns c =
    let held = c.args.self.now.held in
    let off = c.args.offset in
    let first = c.span-first.result.0 in
    let end = c.span-first.result.1 in
    let first_is = c.span-first.ensures.first in
    let none : end - c.count.page ≡ 0 = omega arith in
    let left = ap (missing held c.count.page) none in
    let over : end - first ≡ pages_over off c.args.length =
    omega (arith, first_is, c.span-first.ensures.end) in
    let sum : c.count.missing ≡ missing held first (end - first) =
    omega (arith, c.count.invariant.sum, left) in
    sum ∙ ap (λ n. missing held n (end - first)) first_is ∙ ap (missing held (off / 4096)) over

pub count-preserved : goal.count-preserved
count-preserved c =
    let held = c.args.self.now.held in
    let page = c.count.page in
    let end = c.span-first.result.1 in
    let more = missing_more held page end c.count-test.true in
    let test = c.holds.ensures ∙ ap (λ (k : Contents). holds k.held page) c.self.view_is in
    elim c.if-not-holds.branch [
      | then-not-holds w ↦
          let free : holds held page ≡ false = sym test ∙ w.if-not-holds.true in
          let one = cond-false {A = ℕ} (holds held page) 0 1 free in
          record {
            sum = omega (arith, w.missing-is, more, one, c.count.invariant.sum);
            small = omega (arith, w.missing-is, c.count.invariant.small);
          }
      | else-not-holds w ↦
          let there : holds held page ≡ true = sym test ∙ w.if-not-holds.false in
          let one = cond-true {A = ℕ} (holds held page) 0 1 there in
          record {
            sum = omega (arith, w.missing-is, more, one, c.count.invariant.sum);
            small = omega (arith, w.missing-is, c.count.invariant.small);
          }
    ]
