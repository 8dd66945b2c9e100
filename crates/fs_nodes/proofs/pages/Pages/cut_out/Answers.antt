use Rattle.std.proofs.Common.{nat_cmp, filter, sym, ap, ◌∙◌, arith}
use Rattle.std.specs.Map.{keys_of}
use Rattle.std.specs.BTreeMap.{is_at}
use Rattle.fs_nodes.specs.Pages.{Pages, is_outside}
use Rattle.fs_nodes.proofs.HeldPages.{filter_removed, filter_none, keys-filter, bytes_filtered, pages_less}
use Rattle.fs_nodes.proofs.Punch.{between, first_goes, none_goes}
use Rattle.fs_nodes.proofs.pages.Pages.cut_out.Goals as goal

pub returns-then-end-page-clause-keys : goal.returns-then-end-page-clause-keys
returns-then-end-page-clause-keys c =
    let now = c.args.self.now in
    let stays = is_outside c.args.page c.args.end in
    ap keys_of (sym (filter_none stays now (λ q goes.
    let within = between c.args.page c.args.end q goes in absurd (omega (arith, c.if-end-page.true, within)))))
    ∙ keys-filter stays now

pub out-preserved-in-Some : goal.out-preserved-in-Some
out-preserved-in-Some c =
    let now = c.out.self-inside.pages.entries in
    let n = c.in-Some.n in
    let stays = is_outside c.args.page c.args.end in
    let goes = first_goes c.args.page c.args.end n c.out.self-inside.pages c.in-Some.ensures.0 c.range.result
    c.in-Some.ensures.1 (c.range.ensures.in_range tt) c.in-Some.ensures.2 in
    record {
      left = ap (filter (λ e. stays e.0)) c.remove.ensures.entries ∙ filter_removed stays n goes now
          ∙ c.out.invariant.left;
      sound = record {
        each = pages_less now c.remove.new.self.entries (is_at (nat_cmp n)) c.remove.ensures.updates.0
            c.out.invariant.sound.each;
        few = omega (arith, c.remove.ensures.len, c.out.invariant.sound.few);
      };
    }

pub returns-clause-keys : goal.returns-clause-keys
returns-clause-keys c =
    let now : Pages = c.out.self-inside.pages.entries in
    let stays = is_outside c.args.page c.args.end in
    let all = sym (filter_none stays now (none_goes c.args.page c.args.end c.out.self-inside.pages c.range.result
    (c.range.ensures.in_range tt) c.in_default.ensures)) ∙ c.out.invariant.left in
    ap keys_of all ∙ keys-filter stays c.args.self.now

pub returns-clause-bytes : goal.returns-clause-bytes
returns-clause-bytes c =
    let now : Pages = c.out.self-inside.pages.entries in
    let stays = is_outside c.args.page c.args.end in
    let all = sym (filter_none stays now (none_goes c.args.page c.args.end c.out.self-inside.pages c.range.result
    (c.range.ensures.in_range tt) c.in_default.ensures)) ∙ c.out.invariant.left in
    bytes_filtered stays c.args.self.now now all
