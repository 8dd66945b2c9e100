use Rattle.std.proofs.Common.{ap, ◌∙◌, ◌++◌, take}
use Rattle.vfs_wire.specs.Fields.{bytes_of}
use Rattle.vfs_wire.specs.Records.{init_out}
use Rattle.vfs_wire.specs.declared.init.InitOut.{InitOut}
use Rattle.vfs_notices.proofs.Nothing.{written_again}
use Rattle.vfs_notices.proofs.init.said.Goals as goal

pub returns-clause-written : goal.returns-clause-written
returns-clause-written c =
    let reply = c.args.reply.now in
    ap (λ (said : InitOut). take 16 reply ++ bytes_of init_out said) c.part_at.ensures.read
    ∙ written_again 16 init_out.widths reply (λ i. (c.type_inv.reply i).fits) c.requires
