use Rattle.std.proofs.Common.{◌≡◌, [], nat_lt, filter, sym, ap, ◌∙◌, arith}
use Rattle.std.specs.Map.{keys_of}
use Rattle.std.proofs.lemmas.Bool.{le-ltb}
use Rattle.fs_nodes.specs.Pages.{Pages}
use Rattle.fs_nodes.proofs.HeldPages.{filter_removed, filter_none, keys-filter, bytes_filtered, none_after, none_there, pages_less}
use Rattle.fs_nodes.proofs.pages.Pages.cut.Goals as goal

pub cut-preserved-else-last-page : goal.cut-preserved-else-last-page
cut-preserved-else-last-page c =
    let now = c.cut.self-inside.pages.entries in
    let page = c.args.page in
    record {
      left = ap (filter (λ e. nat_lt e.0 page)) c.remove.ensures.entries
          ∙ filter_removed (λ n. nat_lt n page) _ (le-ltb _ page c.if-last-page.false) now
          ∙ c.cut.invariant.left;
      sound = record {
        each = pages_less now c.remove.new.self.entries _ c.remove.ensures.updates.0
            c.cut.invariant.sound.each;
        few = omega (arith, c.remove.ensures.len, c.cut.invariant.sound.few);
      };
    }

pub returns-then-last-page-clause-keys : goal.returns-then-last-page-clause-keys
returns-then-last-page-clause-keys c =
    let now : Pages = c.cut.self-inside.pages.entries in
    let page = c.args.page in
    let all = sym (filter_none (λ n. nat_lt n page) now
    (none_after now _ page c.in-Some.ensures.greatest c.if-last-page.true)) ∙ c.cut.invariant.left in
    ap keys_of all ∙ keys-filter (λ n. nat_lt n page) c.args.self.now

pub returns-then-last-page-clause-bytes : goal.returns-then-last-page-clause-bytes
returns-then-last-page-clause-bytes c =
    let now : Pages = c.cut.self-inside.pages.entries in
    let page = c.args.page in
    let all = sym (filter_none (λ n. nat_lt n page) now
    (none_after now _ page c.in-Some.ensures.greatest c.if-last-page.true)) ∙ c.cut.invariant.left in
    bytes_filtered (λ n. nat_lt n page) c.args.self.now now all

pub returns-in_default-clause-keys : goal.returns-in_default-clause-keys
returns-in_default-clause-keys c =
    let now : Pages = c.cut.self-inside.pages.entries in
    let page = c.args.page in
    let none : now ≡ [] = none_there now c.last_key_value.result c.in_default.is c.last_key_value.ensures.variant.1 in
    let all = none ∙ sym (ap (filter (λ e. nat_lt e.0 page)) none) ∙ c.cut.invariant.left in
    ap keys_of all ∙ keys-filter (λ n. nat_lt n page) c.args.self.now

pub returns-in_default-clause-bytes : goal.returns-in_default-clause-bytes
returns-in_default-clause-bytes c =
    let now : Pages = c.cut.self-inside.pages.entries in
    let page = c.args.page in
    let none : now ≡ [] = none_there now c.last_key_value.result c.in_default.is c.last_key_value.ensures.variant.1 in
    let all = none ∙ sym (ap (filter (λ e. nat_lt e.0 page)) none) ∙ c.cut.invariant.left in
    bytes_filtered (λ n. nat_lt n page) c.args.self.now now all
