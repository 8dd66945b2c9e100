use Rattle.std.proofs.Common.{ap, subst, ◌∙◌, ◌++◌, ◌≡◌, take}
use Rattle.vfs_wire.specs.Fields.{bytes_of}
use Rattle.vfs_wire.specs.Records.{init_out}
use Rattle.vfs_wire.specs.declared.init.InitOut.{InitOut}
use Rattle.vfs_notices.specs.Init.{further_agreed, reply_with_more, with_more}
use Rattle.vfs_notices.proofs.Joined.{replaced}
use Rattle.vfs_notices.proofs.Nothing.{none_agreed, same_reply}
use Rattle.vfs_notices.proofs.init.add_to_init.Goals as goal

pub returns-clause-added : goal.returns-clause-added
returns-clause-added c says =
    let reply = c.args.reply.now in
    let made = c.with_more.ensures
    ∙ ap (λ (said : InitOut). with_more c.agreed_by-agreed.result c.args.more.now said) c.said-said.ensures.read in
    let put = replaced (bytes_of init_out c.with_more.result) c.split_at_mut-header.result.0.now
    c.split_at_mut-header.result.1.now reply c.put_first.new.out 16 64 c.split_at_mut-header.ensures.front_len
    c.split_at_mut-header.ensures.value says.whole c.put_first.ensures.bytes in
    put ∙ ap (λ (said : InitOut). take 16 reply ++ bytes_of init_out said) made

pub returns-clause-nothing : goal.returns-clause-nothing
returns-clause-nothing c none =
    let reply = c.args.reply.now in
    let more = c.args.more.now in
    let says = c.agrees.ensures.yes c.if-not-agrees.false in
    let agreed = c.agreed_by-agreed.ensures
    ∙ ap (λ want. further_agreed c.args.offered want c.said-said.result.flags) none.want
    ∙ none_agreed c.args.offered c.said-said.result.flags in
    let written = subst (λ (said : InitOut). take 16 reply ++ bytes_of init_out said ≡ reply)
    c.said-said.ensures.read c.said-said.ensures.written in (
      agreed,
      returns-clause-added c says
          ∙ ap (λ agreed. reply_with_more agreed more reply) agreed
          ∙ same_reply more reply none says written,
    )
