use Rattle.std.proofs.Common.{◌≡◌, ◌-◌, ◌<◌, length, min, take, ℕ, ◌+◌, List, arith, ap, ◌∙◌, sym, length-take}
use Rattle.std.proofs.lemmas.List.{take_min}
use Rattle.std.specs.List.{concat}
use Rattle.vfs_segments.specs.Memory.{with_bytes_at}
use Rattle.vfs_files.specs.Bytes.{lengthened, fitting}
use Rattle.vfs_files.proofs.Pieces.{written_some}
use Rattle.vfs_files.proofs.bytes_mut.write_view.Goals as goal

-- what is written is what fits
lent_fits : (most off count : ℕ) (bytes : List ℕ) → count ≡ min (length bytes) (most - off)
    → take (off + count - off) bytes ≡ fitting most off bytes
lent_fits most off count bytes e =
    let same : off + count - off ≡ min (most - off) (length bytes) = omega (arith, e) in
    ap (λ k. take k bytes) same ∙ take_min (most - off) bytes

pub returns-clause-wrote : goal.returns-clause-wrote
returns-clause-wrote c =
    let old = c.args.bytes.now.items in
    let off = c.args.off in
    let most = c.args.most in
    let count = c.min-count.result in
    let bytes = concat c.args.view.now in
    let few : count ≡ min (length bytes) (most - off) =
    omega (arith, c.min-count.ensures, c.total.ensures, c.total-2.ensures) in
    let fits : List ℕ = fitting most off bytes in
    let size : count ≡ length fits = omega (arith, few, length-take (most - off) bytes) in
    let some : 0 < length fits = omega (
      arith,
      size,
      few,
      c.if-off-most.false,
      c.if-total-eq0.false,
      c.total.ensures,
    ) in (
      size,
      c.overwrite.ensures
          ∙ ap (λ w. with_bytes_at off w c.lengthen.new.bytes.items)
          (lent_fits most off count bytes few)
          ∙ ap (with_bytes_at off fits) c.in_ok-lengthen.ensures.ok
          ∙ ap (λ k. with_bytes_at off fits (lengthened old (off + k))) size
          ∙ sym (written_some old fits off some),
    )
