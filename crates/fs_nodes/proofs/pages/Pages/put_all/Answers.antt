use Rattle.std.proofs.Common.{◌≡◌, ◌≤◌, ◌+◌, ◌-◌, ◌/◌, ◌%◌, ℕ, List, length, take, drop, sym, ap, ◌∙◌, arith, length-take, length-drop}
use Rattle.std.specs.Map.{keys_of}
use Rattle.std.proofs.Math.Seq.{take-add}
use Rattle.std.proofs.lemmas.List.{take_rest}
use Rattle.fs_nodes.specs.Pages.{byte_at, byte_over, holds}
use Rattle.fs_nodes.proofs.Fills.{over_more, put_most}
use Rattle.fs_nodes.proofs.pages.Pages.put_all.Goals as goal

pub fill-preserved : goal.fill-preserved
fill-preserved c =
    let bytes = c.args.bytes.now in
    let done = c.fill.done in
    let n = c.put-count.result in
    let at = c.args.at in
    let old = byte_at c.args.self.now in
    let rest = take_rest bytes done in
    let count = rw rest at c.put-count.ensures.count in
    let fits : n ≤ length bytes - done =
    omega (
      arith,
      put_most (holds (keys_of c.fill.self) (c.in-Some.place / 4096)) n
          (length (drop done bytes)) (4096 - c.in-Some.place % 4096) count,
      length-drop done bytes,
    ) in
    let place : c.in-Some.place ≡ at + done = c.in-Some.ensures.1 in
    let long : length (take done bytes) ≡ done = omega (arith, length-take done bytes, c.fill.invariant.within) in
    let next : c.in-Some.place ≡ at + length (take done bytes) = omega (arith, place, long) in
    record {
      within = omega (arith, fits, c.fill.invariant.within);
      keys = c.put-count.ensures.keys ∙ c.fill.invariant.keys;
      bytes = λ k.
          (rw rest at c.put-count.ensures.bytes) k
          ∙ over_more at c.in-Some.place (take done bytes) (take n (drop done bytes)) old
          (byte_at c.fill.self) k next (c.fill.invariant.bytes k)
          ∙ ap (λ (l : List ℕ). byte_over at l old k) (sym (take-add done n bytes));
    }
