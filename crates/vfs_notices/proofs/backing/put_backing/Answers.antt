use Rattle.std.proofs.Common.{ap, ◌∙◌, ◌++◌, ◌-◌, length, take, arith}
use Rattle.vfs_wire.specs.Fields.{bytes_of}
use Rattle.vfs_wire_more.specs.Records.{open_out}
use Rattle.vfs_wire_more.specs.declared.files.OpenOut.{OpenOut}
use Rattle.vfs_notices.specs.Backing.{with_backing}
use Rattle.vfs_notices.proofs.Joined.{replaced}
use Rattle.vfs_notices.proofs.backing.put_backing.Goals as goal

pub returns : goal.returns
returns c =
    let reply = c.args.reply.now in
    let at = length reply - 16 in
    let made = c.with_backing.ensures
    ∙ ap (λ (said : OpenOut). with_backing c.args.id said) c.part_at-said.ensures.read in
    let put = replaced (bytes_of open_out c.with_backing.result) c.split_at_mut-before.result.0.now
    c.split_at_mut-before.result.1.now reply c.put_first.new.out at 16 c.split_at_mut-before.ensures.front_len
    c.split_at_mut-before.ensures.value (omega (arith, c.requires.long)) c.put_first.ensures.bytes in
    put ∙ ap (λ (said : OpenOut). take at reply ++ bytes_of open_out said) made
