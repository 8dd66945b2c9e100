use Rattle.std.proofs.Common.{arith, ap, sym, ◌∙◌, ◌≡◌, ◌+◌, ◌-◌, ◌<◌, ◌≤◌, List, [], ℕ, length, take, drop, get_or, true, false, take_all}
use Rattle.std.specs.List.{concat}
use Rattle.std.specs.Prelude.{nat_le}
use Rattle.std.proofs.lemmas.Bool.Decides.{nat_tests}
use Rattle.vfs_segments.proofs.Found.{in_segment}
use Rattle.vfs_segments.proofs.Together.{together-at, together-end}
use Rattle.vfs_segments.proofs.lend.Segments+ref+slice+ref+slice+u8.lent.Goals as goal

pub returns-then-first-count-clause-found : goal.returns-then-first-count-clause-found
returns-then-first-count-clause-found c =
    let xs = c.args.self.now in
    let p = c.place-first in
    let all = ap (λ (l : List (List ℕ)). length (concat l)) (take_all p.result.0 xs (omega (arith, c.count.ensures))) in
    let none : c.args.n ≡ 0 = omega (arith, p.ensures.place, c.requires, all) in
    sym (together-end xs c.args.at c.args.n none)

pub returns-then-first-count-clause-bytes : goal.returns-then-first-count-clause-bytes
returns-then-first-count-clause-bytes c =
    let xs = c.args.self.now in
    let p = c.place-first in
    let all = ap (λ (l : List (List ℕ)). length (concat l)) (take_all p.result.0 xs (omega (arith, c.count.ensures))) in
    let none : c.args.n ≡ 0 = omega (arith, p.ensures.place, c.requires, all) in
    ap (λ n. take n (drop c.args.at (concat xs))) (sym none)

pub returns-then-n-segment-clause-found : goal.returns-then-n-segment-clause-found
returns-then-n-segment-clause-found c =
    let xs = c.args.self.now in
    let p = c.place-first in
    let i = p.result.0 in
    let listed : i < length xs = omega (arith, c.count.ensures) in
    let size = ap length c.segment-segment.ensures in
    let inside = p.ensures.before_end listed in
    let over : nat_le (p.result.1 + c.args.n) (length (get_or xs i [])) ≡ false = grind (arith, nat_tests) in
    sym (together-at xs i p.result.1 c.args.at c.args.n p.ensures.place listed inside ∙ over)

pub returns-clause-found : goal.returns-clause-found
returns-clause-found c =
    let xs = c.args.self.now in
    let p = c.place-first in
    let i = p.result.0 in
    let listed : i < length xs = omega (arith, c.count.ensures) in
    let size = ap length c.segment-segment.ensures in
    let inside = p.ensures.before_end listed in
    let fits : nat_le (p.result.1 + c.args.n) (length (get_or xs i [])) ≡ true = grind (arith, nat_tests) in
    sym (together-at xs i p.result.1 c.args.at c.args.n p.ensures.place listed inside ∙ fits)

pub returns-clause-bytes : goal.returns-clause-bytes
returns-clause-bytes c =
    let xs = c.args.self.now in
    let p = c.place-first in
    let i = p.result.0 in
    let n = c.args.n in
    let s = c.segment-segment.result.now in
    let here = c.segment-segment.ensures in
    let listed : i < length xs = omega (arith, c.count.ensures) in
    let cut : p.result.1 + n - p.result.1 ≡ n = omega arith in
    let part : p.result.1 + n ≤ length (get_or xs i []) = omega (arith, ap length here, p.ensures.before_end listed) in
    ap (λ k. take k (drop p.result.1 s)) cut
    ∙ ap (λ l. take n (drop p.result.1 l)) here
    ∙ sym (in_segment xs i p.result.1 c.args.at p.ensures.place n listed part)
