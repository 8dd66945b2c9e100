use Rattle.std.proofs.Common.{[], pos, refl, arith}
use Rattle.vfs_files.specs.Calls.{Init}
use Rattle.codec_encode.proofs.Using.{in_room, in_each, agrees}
use Rattle.codec_encode.proofs.uses.agree.Goals as goal

pub returns : goal.returns
returns c echo offered e t =
    let a = record c.default.result { error = pos 0; count = c.args.want } in
    in_each c.answer.result _ _ (λ came h. agrees c.args.limits echo offered c.args.call.now.options c.args.want a [] c.args.w.now c.answer.new.w came refl refl h)
    (in_room c.args.limits c.args.call.now a [] c.args.w.now c.answer.new.w echo (Init offered) c.answer.result c.answer.ensures.calls e t (λ h. cc) c.requires.room (λ h. omega (arith, h)))
