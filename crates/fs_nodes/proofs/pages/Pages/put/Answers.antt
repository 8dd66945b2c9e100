use Rattle.std.proofs.Common.{◌≡◌, ◌≤◌, ◌+◌, ◌-◌, ◌/◌, ◌%◌, ℕ, List, length, take, min, true, false, Some, None, sym, ap, ◌∙◌, arith, rules, length-take}
use Rattle.std.specs.Map.{keys_of}
use Rattle.std.proofs.lemmas.Bool.{cond-true, cond-false}
use Rattle.fs_nodes.specs.Pages.{Pages, byte_at, byte_over, holds}
use Rattle.fs_nodes.proofs.HeldPages.{held_found, bytes_put}
use Rattle.fs_nodes.proofs.pages.Pages.put.Goals as goal

pub returns-in_default-clause-count : goal.returns-in_default-clause-count
returns-in_default-clause-count c =
    let n : ℕ = c.args.at / 4096 in
    let free : holds (keys_of c.args.self.now) n ≡ false =
    ap (λ (es : Pages). holds (keys_of es) n) (sym c.self.view_is)
    ∙ held_found c.self.inside.pages.entries n None (sym c.in_default.ensures.value) in
    sym (cond-false (holds (keys_of c.args.self.now) n)
    (min (length c.args.bytes.now) (4096 - c.args.at % 4096)) 0 free)

pub returns-clause-count : goal.returns-clause-count
returns-clause-count c =
    let n : ℕ = c.args.at / 4096 in
    let there : holds (keys_of c.args.self.now) n ≡ true =
    ap (λ (es : Pages). holds (keys_of es) n) (sym c.self.view_is)
    ∙ held_found c.self.inside.pages.entries n (Some c.in-Some.page.now) (sym c.in-Some.ensures.value) in
    omega (
      arith,
      c.min-count.ensures,
      cond-true (holds (keys_of c.args.self.now) n)
          (min (length c.args.bytes.now) (4096 - c.args.at % 4096)) 0 there,
    )

pub returns-clause-bytes : goal.returns-clause-bytes
returns-clause-bytes c =
    λ place.
    let s = c.self.inside.pages.entries in
    let from : ℕ = c.args.at % 4096 in
    let v = c.in-Some.page.now in
    let w = c.write_over.new.page in
    let bs : List ℕ = take c.min-count.result c.args.bytes.now in
    let fits : from + length bs ≤ 4096 =
    omega (arith, length-take c.min-count.result c.args.bytes.now, c.min-count.ensures) in
    let updates = (c.get_mut.follows.holds w).3 (search rules) in
    bytes_put s (c.get_mut.follows.lender w).entries c.args.at (c.args.at / 4096) from v w bs
    (sym c.in-Some.ensures.value) updates.1 updates.2 (search rules) (search rules)
    fits c.write_over.ensures.bytes place
    ∙ ap (λ (es : Pages). byte_over c.args.at bs (byte_at es) place) c.self.view_is
