use Rattle.std.proofs.Common.{arith, ap, ◌≡◌, ◌<◌, ◌∙◌, ◌∷◌, ◌++◌, [], sym, take, drop, length, length-take, length-drop, set, get_or, ℕ, List}
use Rattle.std.proofs.lemmas.Grind.{common_steps}
use Rattle.std.proofs.lemmas.Result.{on_ok_weaker, IfOk-weaker}
use Rattle.std.specs.declared.vec.Vec.{Vec}
use Rattle.std.specs.declared.alloc.Global.{Global}
use Rattle.vfs_segments.proofs.Flat.{held_flat}
use Rattle.vfs_segments.proofs.Cuts.{between_front, between_back, IsListed, first_is, length-first, inside_first, inside_front, inside_back}
use Rattle.vfs_segments.proofs.LengthCuts.{held_lengths, between_lengths_before, between_lengths_from, inside_lengths_before, inside_lengths_from}
use Rattle.vfs_segments.proofs.cut.cut_off.Goals as goal

pub returns-then-inside-eq0-clause-front : goal.returns-then-inside-eq0-clause-front
returns-then-inside-eq0-clause-front c =
    let xs = c.args.segments.now.items in
    let i = c.args.first in
    let place = c.requires.place in
    let e : length (held_flat (take i xs)) ≡ c.args.at = omega (arith, place) in
    on_ok_weaker c.split_off.result (λ (h : c.split_off.new.self.items ≡ take i xs). ap held_flat h ∙ between_front xs i c.args.at e) c.split_off.ensures.items

pub returns-then-inside-eq0-clause-back : goal.returns-then-inside-eq0-clause-back
returns-then-inside-eq0-clause-back c =
    let xs = c.args.segments.now.items in
    let i = c.args.first in
    let place = c.requires.place in
    let e : length (held_flat (take i xs)) ≡ c.args.at = omega (arith, place) in
    IfOk-weaker c.split_off.result _ _ (λ w h. ap held_flat h ∙ between_back xs i c.args.at e) c.split_off.ensures.tail

pub returns-clause-front : goal.returns-clause-front
returns-clause-front c =
    let xs = c.args.segments.now.items in
    let i = c.args.first in
    let n = c.args.inside in
    let s = c.index_mut.result.now in
    let place = c.requires.place in
    let inside = c.requires.inside in
    let listed : i < length xs = IsListed xs i n (omega arith) inside in
    let r : get_or xs i s ≡ s = first_is xs c.in_ok-rest.rest.items i s c.in_ok-rest.ensures.tail c.index_mut.ensures.value in
    let head : c.truncate.new.self.items ≡ take n s.items = c.truncate.ensures.items ∙ ap (λ (v : Vec ℕ Global). take n v.items) c.replace-head.ensures.value in
    let pushed = rw c.unwrap.ensures at c.push.ensures.items in
    ap held_flat (pushed ∙ ap (λ l. l ++ c.truncate.new.self ∷ []) c.in_ok-rest.ensures.items)
    ∙ inside_front xs i n c.args.at s c.truncate.new.self listed r place (length-first xs i n s listed r inside) head

pub returns-clause-back : goal.returns-clause-back
returns-clause-back c =
    let xs = c.args.segments.now.items in
    let i = c.args.first in
    let n = c.args.inside in
    let s = c.index.result.now in
    let place = c.requires.place in
    let inside = c.requires.inside in
    let listed : i < length xs = IsListed xs i n (omega arith) inside in
    let r : get_or xs i s ≡ s = sym c.index.ensures in
    let copied : c.in_ok-tail.tail.items ≡ drop n s.items = grind (arith, common_steps) in
    let tail : c.replace-head.new.dest.items ≡ drop n s.items = ap (λ (v : Vec ℕ Global). v.items) c.replace-head.ensures.after ∙ copied in
    ap (λ (l : List (Vec ℕ Global)). held_flat (set l 0 c.replace-head.new.dest)) c.in_ok-rest.ensures.tail
    ∙ inside_back xs i n c.args.at s c.replace-head.new.dest listed r place (length-first xs i n s listed r inside) tail

pub returns-then-inside-eq0-clause-front_lengths : goal.returns-then-inside-eq0-clause-front_lengths
returns-then-inside-eq0-clause-front_lengths c =
    let xs = c.args.segments.now.items in
    let i = c.args.first in
    let place = c.requires.place in
    let some = c.requires.before_end in
    let e : length (held_flat (take i xs)) ≡ c.args.at = omega (arith, place) in
    on_ok_weaker c.split_off.result
    (λ (h : c.split_off.new.self.items ≡ take i xs).
    ap held_lengths h ∙ between_lengths_before xs i c.args.at e (λ h. omega (arith, some h)))
    c.split_off.ensures.items

pub returns-then-inside-eq0-clause-back_lengths : goal.returns-then-inside-eq0-clause-back_lengths
returns-then-inside-eq0-clause-back_lengths c =
    let xs = c.args.segments.now.items in
    let i = c.args.first in
    let place = c.requires.place in
    let some = c.requires.before_end in
    let e : length (held_flat (take i xs)) ≡ c.args.at = omega (arith, place) in
    IfOk-weaker c.split_off.result _ _
    (λ w h. ap held_lengths h ∙ between_lengths_from xs i c.args.at e (λ h. omega (arith, some h)))
    c.split_off.ensures.tail

pub returns-clause-front_lengths : goal.returns-clause-front_lengths
returns-clause-front_lengths c =
    let xs = c.args.segments.now.items in
    let i = c.args.first in
    let n = c.args.inside in
    let s = c.index_mut.result.now in
    let place = c.requires.place in
    let inside = c.requires.inside in
    let listed : i < length xs = IsListed xs i n (omega arith) inside in
    let strictly = c.requires.before_end in
    let r : get_or xs i s ≡ s = first_is xs c.in_ok-rest.rest.items i s c.in_ok-rest.ensures.tail c.index_mut.ensures.value in
    let below : n < length s.items = inside_first xs i n s listed r (strictly listed) in
    let head : c.truncate.new.self.items ≡ take n s.items = c.truncate.ensures.items ∙ ap (λ (v : Vec ℕ Global). take n v.items) c.replace-head.ensures.value in
    let pushed = rw c.unwrap.ensures at c.push.ensures.items in
    ap held_lengths (pushed ∙ ap (λ l. l ++ c.truncate.new.self ∷ []) c.in_ok-rest.ensures.items)
    ∙ inside_lengths_before xs i n c.args.at s c.truncate.new.self listed r place (omega arith) below
    (omega (arith, ap length head, length-take n s.items))

pub returns-clause-back_lengths : goal.returns-clause-back_lengths
returns-clause-back_lengths c =
    let xs = c.args.segments.now.items in
    let i = c.args.first in
    let n = c.args.inside in
    let s = c.index.result.now in
    let place = c.requires.place in
    let inside = c.requires.inside in
    let listed : i < length xs = IsListed xs i n (omega arith) inside in
    let strictly = c.requires.before_end in
    let r : get_or xs i s ≡ s = sym c.index.ensures in
    let below : n < length s.items = inside_first xs i n s listed r (strictly listed) in
    let copied : c.in_ok-tail.tail.items ≡ drop n s.items = grind (arith, common_steps) in
    let tail : c.replace-head.new.dest.items ≡ drop n s.items = ap (λ (v : Vec ℕ Global). v.items) c.replace-head.ensures.after ∙ copied in
    ap (λ (l : List (Vec ℕ Global)). held_lengths (set l 0 c.replace-head.new.dest)) c.in_ok-rest.ensures.tail
    ∙ inside_lengths_from xs i n c.args.at s c.replace-head.new.dest listed r place below
    (omega (arith, ap length tail, length-drop n s.items))

pub index-requires : goal.index-requires
index-requires c = grind (arith, common_steps)

pub slice_bounds-to_vec-count : goal.slice_bounds-to_vec-count
slice_bounds-to_vec-count c = grind (arith, common_steps)

pub slice_bounds-to_vec-start : goal.slice_bounds-to_vec-start
slice_bounds-to_vec-start c = grind (arith, common_steps)

pub index_mut-requires : goal.index_mut-requires
index_mut-requires c = grind (arith, common_steps)

pub unwrap-requires : goal.unwrap-requires
unwrap-requires c = grind (arith, common_steps)
