use Rattle.std.proofs.Common.{arith, ap, ◌∙◌, ◌+◌, ◌≤◌, length}
use Rattle.vfs_segments.specs.Segments.{with_bytes_at}
use Rattle.vfs_segments.proofs.Puts.{vec_written}
use Rattle.vfs_segments.proofs.scatter.spell_over.Goals as goal

pub returns-clause-wrote : goal.returns-clause-wrote
returns-clause-wrote g c =
    let v = c.args.segment.now in
    let same = c.spell.ensures.wrote in
    let part : c.args.at + length c.spell.new.out ≤ length v.items = grind (arith, c.requires.fits, v.ok.0, c.spell.auto.out) in
    vec_written v.len c.args.at c.spell.new.out v.items v.ok.0 part ∙ ap (λ w. with_bytes_at c.args.at w v.items) same
