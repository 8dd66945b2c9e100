use Rattle.std.proofs.Common.{◌≡◌, ◌∙◌, List, [], ◌∷◌, ℕ, length, ap, arith, length-append}
use Rattle.std.specs.Borrow.{Bor}
use Rattle.vfs_segments.specs.Lengths.{lengths_from}
use Rattle.vfs_segments.specs.Segments.{segments_of, flat_bytes, lengths_of}
use Rattle.nizwarf_codec.proofs.check.reader_of.Goals as goal

-- one piece has all bytes
only_length : (pieces : List (Bor (List ℕ))) → length pieces ≡ 1
    → lengths_of (segments_of pieces) ≡ length (flat_bytes (segments_of pieces)) ∷ []
only_length [] one = absurd (omega (arith, one))
only_length (p ∷ []) one =
    let all : length p.now ≡ length (flat_bytes (segments_of (p ∷ []))) = omega (arith, length-append p.now []) in
    ap (λ (n : ℕ). n ∷ []) all
only_length (p ∷ q ∷ pieces) one = absurd (omega (arith, one))

pub unreachable-requires : goal.unreachable-requires
unreachable-requires c =
    let whole = c.new.ensures.few (omega (arith, c.requires.one)) c.requires.fits in
    let failed = rw (c.in-Err.is) at whole in
    let e = failed in cc

pub returns : goal.returns
returns c = record {
  left = c.in-Ok.ensures.ok.0;
  one_piece = c.in-Ok.ensures.pieces ∙ ap (lengths_from 0) (only_length c.args.pieces.now c.requires.one);
}
