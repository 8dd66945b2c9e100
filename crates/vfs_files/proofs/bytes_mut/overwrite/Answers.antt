use Rattle.std.proofs.Common.{◌≡◌, ◌-◌, length, take, arith, rules, ap, ◌∙◌, length-take}
use Rattle.std.specs.List.{concat}
use Rattle.vfs_segments.specs.Memory.{with_bytes_at}
use Rattle.vfs_files.proofs.Pieces.{vec_written}
use Rattle.vfs_files.proofs.bytes_mut.overwrite.Goals as goal

pub returns : goal.returns
returns c =
    let v = c.args.bytes.now in
    let size : length c.slice_mut.result.now ≡ c.args.end - c.args.from = search rules in
    let same : c.take_pieces.new.room ≡ take (c.args.end - c.args.from) (concat c.args.view.now) =
    c.take_pieces.ensures ∙ ap (λ k. take k (concat c.args.view.now)) size in
    let long = ap length same ∙ length-take (c.args.end - c.args.from) (concat c.args.view.now) in
    vec_written v.len c.args.from c.take_pieces.new.room v.items v.ok.0
    (omega (arith, c.requires.ordered, c.requires.within, c.requires.lent, v.ok.0, long))
    ∙ ap (λ w. with_bytes_at c.args.from w v.items) same
