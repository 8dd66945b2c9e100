use Rattle.std.proofs.Common.{[], pos, refl, arith}
use Rattle.vfs_files.specs.Calls.{Lookup}
use Rattle.codec_encode.proofs.Using.{in_room, in_each, unfit}
use Rattle.codec_encode.proofs.uses.find_without_room.Goals as goal

pub returns : goal.returns
returns c echo ctx parent name e t =
    let a = record c.default-2.result { error = pos 0; entry = record c.default.result { node = c.args.node } } in
    in_each c.answer.result _ _ (λ came h. unfit c.args.limits echo ctx parent name c.args.call.now.options c.args.node a [] c.args.w.now c.answer.new.w came refl refl c.requires.small h)
    (in_room c.args.limits c.args.call.now a [] c.args.w.now c.answer.new.w echo (Lookup ctx parent name) c.answer.result c.answer.ensures.calls e t (λ h. cc) c.requires.room (λ h. omega (arith, h)))
