use Rattle.std.proofs.Common.{[], pos, refl, arith}
use Rattle.vfs_files.specs.Calls.{Getattr}
use Rattle.codec_encode.proofs.Using.{in_room, in_each, refused}
use Rattle.codec_encode.proofs.uses.refuse_getattr.Goals as goal

pub returns : goal.returns
returns c echo ctx node handle e t =
    let a = record c.default.result { error = pos 5 } in
    in_each c.answer.result _ _ (λ came h. refused c.args.limits echo ctx node handle c.args.call.now.options a [] c.args.w.now c.answer.new.w came refl h)
    (in_room c.args.limits c.args.call.now a [] c.args.w.now c.answer.new.w echo (Getattr ctx node handle) c.answer.result c.answer.ensures.calls e t (λ h. cc) c.requires.room (λ h. omega (arith, h)))
