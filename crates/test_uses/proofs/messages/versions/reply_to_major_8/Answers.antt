use Rattle.std.proofs.Common.{◌≡◌, ◌∙◌, ◌+◌, ℕ, length, Some, Ok, ap, arith, refl}
use Rattle.vfs_wire.specs.Fields.{bytes_of, little}
use Rattle.vfs_wire.specs.Records.{init_out}
use Rattle.vfs_grammar.specs.Reply.{body_reply, version_out}
use Rattle.vfs_grammar.proofs.Rooms.{length-body_reply}
use Rattle.vfs_messages.proofs.Versions.{version_ends}
use Rattle.test_uses.proofs.messages.versions.reply_to_major_8.Goals as goal

pub returns : goal.returns
unfolding little
returns c =
    let u : ℕ = c.args.header.now.unique in
    let long : length (bytes_of init_out version_out) ≡ 64 = refl in
    let size : length (body_reply (bytes_of init_out version_out) u) ≡ 80 = length-body_reply (bytes_of init_out version_out) u ∙ ap (λ (n : ℕ). 16 + n) long in
    version_ends _ _ c.args.w.now c.reply_unserved.result c.reply_unserved.new.w (body_reply (bytes_of init_out version_out) u) refl (omega (arith, size, c.requires)) c.reply_unserved.ensures
    ∙ ap (λ (n : ℕ). Some (Ok n)) size
