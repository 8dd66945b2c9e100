use Rattle.std.proofs.Common.{◌≡◌, ◌∙◌, ◌≤◌, ℕ, List, drop, length, take, ◌-◌, arith, refl, ap, subst, sym, length-drop}
use Rattle.std.proofs.lemmas.List.{drop-drop, take_all}
use Rattle.vfs_wire.specs.Records.{ext_header}
use Rattle.vfs_wire.specs.Fields.{value_of}
use Rattle.vfs_wire.specs.declared.extensions.ExtHeader.{ExtHeader}
use Rattle.vfs_grammar.specs.Words.{block_size}
use Rattle.codec_decode.proofs.Blocks.{Left, all_left, next, skipped, stands_here}
use Rattle.codec_decode.proofs.contexts.context_place.Goals as goal
use Rattle.codec_decode.proofs.contexts.context_place.Goals.{then-size-lt-SIZE-via-then-size-lt-SIZE, then-size-lt-SIZE-via-else-size-lt-SIZE+then-left-size}

pub loop-left-init : goal.loop-left-init
loop-left-init c = (refl, omega arith, λ options ext context is some. all_left options c.args.blocks.now ext context is some)

pub returns-then-header-eq-ONE_CONTEXT : goal.returns-then-header-eq-ONE_CONTEXT
returns-then-header-eq-ONE_CONTEXT c = λ options ext context is some.
    let i = c.loop-left.invariant in
    let one : (value_of ext_header c.loop-left.left.now).ext_type ≡ 1 =
    ap (λ (h : ExtHeader). h.ext_type) (sym c.part_at-header.ensures.read) ∙ c.if-header-eq-ONE_CONTEXT.true in
    stands_here options c.args.blocks.now c.loop-left.left.now c.loop-left.at ext context i.0 (i.2 options ext context is some) some one

pub returns-then-size-lt-SIZE : goal.returns-then-size-lt-SIZE
returns-then-size-lt-SIZE c = λ options ext context is some.
    let n = next options c.loop-left.left.now ext context (c.loop-left.invariant.2 options ext context is some) some in
    let size : block_size c.loop-left.left.now ≡ c.part_at-header.result.size = ap (λ (h : ExtHeader). h.size) (sym c.part_at-header.ensures.read) in
    absurd (elim c.then-size-lt-SIZE.branch [
      | then-size-lt-SIZE-via-then-size-lt-SIZE w ↦ omega (arith, n.first.least, size, w.if-size-lt-SIZE.true)
      | then-size-lt-SIZE-via-else-size-lt-SIZE+then-left-size w ↦ omega (arith, n.first.fits, size, w.if-left-size.true)
    ])

-- the blocks after one
after_block : (n : ℕ) (left : List ℕ) → n ≤ length left → take (length left - n) (drop n left) ≡ drop n left
after_block n left h = take_all (length left - n) (drop n left) (omega (arith, length-drop n left))

pub loop-left-preserved : goal.loop-left-preserved
loop-left-preserved c =
    let i = c.loop-left.invariant in
    let left = c.loop-left.left.now in
    let n = c.part_at-header.result.size in
    let size : block_size left ≡ n = ap (λ (h : ExtHeader). h.size) (sym c.part_at-header.ensures.read) in
    let kind : c.part_at-header.result.ext_type ≡ (value_of ext_header left).ext_type = ap (λ (h : ExtHeader). h.ext_type) c.part_at-header.ensures.read in
    let rest : take (length left - n) (drop n left) ≡ drop n left = after_block n left c.if-left-size.false in
    let same : drop (block_size left) left ≡ take (length left - n) (drop n left) = ap (λ (k : ℕ). drop k left) size ∙ sym rest in (
      rest ∙ ap (drop n) i.0 ∙ drop-drop n c.loop-left.at c.args.blocks.now,
      omega (arith, ap length rest, length-drop n left, c.if-left-size.false, i.1),
      λ options ext context is some.
          subst (λ (xs : List ℕ). Left options xs ext) same
          (skipped options left ext context (i.2 options ext context is some) some (λ e. c.if-header-eq-ONE_CONTEXT.false (kind ∙ e))),
    )

pub returns : goal.returns
returns c = λ options ext context is some.
    let n = next options c.loop-left.left.now ext context (c.loop-left.invariant.2 options ext context is some) some in
    absurd (omega (arith, n.first.least, n.first.fits, c.loop-left-test.false))
