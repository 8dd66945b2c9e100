use Rattle.std.proofs.Common.{◌≡◌, ◌+◌, ◌-◌, ◌==◌, ℕ, true, false, cond, sym, ap, ◌∙◌, arith}
use Rattle.std.proofs.lemmas.Bool.{cond-true, cond-false, ne_eqb}
use Rattle.fs_nodes.specs.Pages.{holds, reach}
use Rattle.fs_nodes.specs.Contents.{Contents}
use Rattle.fs_nodes.proofs.Counts.{reach_all}
use Rattle.fs_nodes.proofs.HeldPages.{reach_more}
use Rattle.fs_nodes.proofs.contents.Contents.stop.Goals as goal

pub returns-then-end-first-clause-stop : goal.returns-then-end-first-clause-stop
returns-then-end-first-clause-stop c =
    let held = c.args.self.now.held in
    let all = reach_all held c.args.free c.args.first (c.args.end - c.args.first) (omega arith) in
    omega (arith, all)

pub go-preserved-then-holds : goal.go-preserved-then-holds
go-preserved-then-holds c =
    let held = c.args.self.now.held in
    let page = c.go.page in
    let end = c.args.end in
    let left = c.go.left in
    let there : holds held page ≡ true =
    sym (c.holds.ensures ∙ ap (λ (k : Contents). holds k.held page) c.self.view_is) ∙ c.if-holds.true in
    sym (reach_more held left page end c.go-test.true
    ∙ cond-true (holds held page) (reach held left (page + 1) (end - (page + 1)))
    (cond (left == 0) page (reach held (left - 1) (page + 1) (end - (page + 1)))) there)
    ∙ c.go.invariant

pub go-preserved : goal.go-preserved
go-preserved c =
    let held = c.args.self.now.held in
    let page = c.go.page in
    let end = c.args.end in
    let left = c.go.left in
    let next : ℕ = reach held (left - 1) (page + 1) (end - (page + 1)) in
    let free : holds held page ≡ false =
    sym (c.holds.ensures ∙ ap (λ (k : Contents). holds k.held page) c.self.view_is) ∙ c.if-holds.false in
    sym (reach_more held left page end c.go-test.true
    ∙ cond-false (holds held page) (reach held left (page + 1) (end - (page + 1)))
    (cond (left == 0) page next) free
    ∙ cond-false (left == 0) page next (ne_eqb left 0 c.if-left-eq0.false))
    ∙ c.go.invariant
