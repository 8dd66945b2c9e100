use Rattle.std.proofs.Common.{◌∙◌, ℕ, Some, Ok, ap, arith, refl}
use Rattle.vfs_flags.specs.Numbers.{eproto}
use Rattle.vfs_grammar.specs.Reply.{fault_reply}
use Rattle.vfs_grammar.proofs.Rooms.{length-fault_reply}
use Rattle.vfs_messages.proofs.Versions.{version_ends}
use Rattle.test_uses.proofs.messages.versions.reply_to_minor_26.Goals as goal

pub returns : goal.returns
returns c =
    let u : ℕ = c.args.header.now.unique in
    let size = length-fault_reply (Some eproto) u in
    version_ends _ _ c.args.w.now c.reply_unserved.result c.reply_unserved.new.w (fault_reply (Some eproto) u) refl (omega (arith, size, c.requires)) c.reply_unserved.ensures
    ∙ ap (λ (n : ℕ). Some (Ok n)) size
