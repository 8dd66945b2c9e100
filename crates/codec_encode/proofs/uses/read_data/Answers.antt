use Rattle.std.proofs.Common.{[], arith}
use Rattle.vfs_files.specs.Calls.{Read}
use Rattle.codec_encode.proofs.Using.{in_room, in_each}
use Rattle.codec_encode.proofs.uses.read_data.Goals as goal

pub returns : goal.returns
returns c echo ctx node handle space size offset flags owner e t =
    in_each c.answer.result _ _ (λ came h. (h.kept.0, h.kept.1, h.kept.2))
    (in_room c.args.limits c.args.call.now c.args.said.now [] c.args.w.now c.answer.new.w echo (Read ctx node handle space size offset owner flags) c.answer.result c.answer.ensures.calls e t (λ h. cc) c.requires.room (λ h. omega (arith, h, c.requires.header)))
