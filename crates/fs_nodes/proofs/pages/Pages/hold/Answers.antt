use Rattle.std.proofs.Common.{◌≡◌, ◌≤◌, ℕ, List, false, nat_cmp, refl, sym, ap, ◌∙◌, arith, rules}
use Rattle.std.specs.Map.{keys_of}
use Rattle.std.specs.BTreeMap.{is_at}
use Rattle.std.proofs.lemmas.Bool.{false_from_ne_true, both_ways}
use Rattle.fs_nodes.specs.Pages.{holds, undone}
use Rattle.fs_nodes.proofs.Counts.{holds_inserted}
use Rattle.fs_nodes.proofs.First.{none_from}
use Rattle.fs_nodes.proofs.HeldPages.{held_more, page_new, grown_by, missing_some}
use Rattle.fs_nodes.proofs.pages.Pages.hold.Goals as goal
use Rattle.fs_nodes.proofs.pages.Pages.hold.Goals.{else-some-via-then-some+else-holds, else-some-via-else-some}

pub hold-init : goal.hold-init
hold-init c = record {
  undo = ap (λ (ns : List ℕ). undone ns c.args.self.now) c.new-added.ensures.items;
  held = search rules;
  same = λ place. refl;
  free = λ none q from.
      none_from (keys_of c.args.self.now) c.args.page q (sym c.holds_from-some.ensures ∙ none) from;
  grown = λ q there. there;
}

pub hold-preserved : goal.hold-preserved
hold-preserved c =
    let now = keys_of c.hold.self in
    let n = c.hold.n in
    let here : n ≤ n = omega arith in
    let free : holds now n ≡ false =
    elim c.else-some.branch [
      | else-some-via-then-some+else-holds w ↦ sym w.holds.ensures ∙ w.if-holds.false
      | else-some-via-else-some w ↦ c.hold.invariant.free w.if-some.false n here
    ] in
    let new = c.in_default.ensures.keys in
    record {
      undo = c.add_noted.ensures.noted ∙ c.hold.invariant.undo;
      held = held_more now (keys_of c.add_noted.new.self) n _ (omega arith) (new ∙ page_new now n free)
          ∙ c.hold.invariant.held;
      free = λ none q following.
          ap (λ ks. holds ks q) new ∙ holds_inserted now n q (omega arith)
          ∙ c.hold.invariant.free none q (omega arith);
      same = λ place. c.add_noted.ensures.same place ∙ c.hold.invariant.same place;
      grown = λ q there.
          ap (λ ks. holds ks q) new
          ∙ grown_by (is_at (nat_cmp q)) now n (c.hold.invariant.grown q there);
    }

pub returns-in-Err-clause-err : goal.returns-in-Err-clause-err
returns-in-Err-clause-err c =
    let old = keys_of c.args.self.now in
    let now = keys_of c.hold.self in
    let n = c.hold.n in
    let here : n ≤ n = omega arith in
    let free : holds now n ≡ false =
    elim c.else-some.branch [
      | else-some-via-then-some+else-holds w ↦ sym w.holds.ensures ∙ w.if-holds.false
      | else-some-via-else-some w ↦ c.hold.invariant.free w.if-some.false n here
    ] in
    let was : holds old n ≡ false =
    false_from_ne_true (holds old n) (λ there. both_ways (holds now n) free (c.hold.invariant.grown n there)) in (
      c.in-Err.ensures.err,
      c.take_out.ensures ∙ c.add_noted.ensures.noted ∙ c.hold.invariant.undo,
      missing_some old c.args.page c.args.count n (omega arith) (omega arith) was,
    )
