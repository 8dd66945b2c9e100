use Rattle.std.proofs.Common.{ℕ, List, nat_cmp, arith, sym, ap, ◌∙◌}
use Rattle.std.specs.BTreeMap.{is_at}
use Rattle.fs_nodes.specs.Pages.{undone}
use Rattle.fs_nodes.proofs.HeldPages.{undone-append, pages_less}
use Rattle.fs_nodes.proofs.pages.Pages.take_out.Goals as goal

pub out-preserved : goal.out-preserved
out-preserved c =
    let now = c.out.self-inside.pages.entries in
    let left = c.pop.new.self.items in
    let page = c.in-Some.page in
    record {
      undo = ap (undone left) c.remove.ensures.entries ∙ sym (undone-append left page now)
          ∙ ap (λ (ns : List ℕ). undone ns now) (sym c.in-Some.ensures.items)
          ∙ c.out.invariant.undo;
      sound = record {
        each = pages_less now c.remove.new.self.entries (is_at (nat_cmp page)) c.remove.ensures.updates.0
            c.out.invariant.sound.each;
        few = omega (arith, c.remove.ensures.len, c.out.invariant.sound.few);
      };
    }

pub out-preserved-in-Some : goal.out-preserved-in-Some
out-preserved-in-Some c =
    let now = c.out.self-inside.pages.entries in
    let left = c.pop.new.self.items in
    let page = c.in-Some.page in
    record {
      undo = ap (undone left) c.remove.ensures.entries ∙ sym (undone-append left page now)
          ∙ ap (λ (ns : List ℕ). undone ns now) (sym c.in-Some.ensures.items)
          ∙ c.out.invariant.undo;
      sound = record {
        each = pages_less now c.remove.new.self.entries (is_at (nat_cmp page)) c.remove.ensures.updates.0
            c.out.invariant.sound.each;
        few = omega (arith, c.remove.ensures.len, c.out.invariant.sound.few);
      };
    }
