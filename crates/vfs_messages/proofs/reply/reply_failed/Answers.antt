use Rattle.std.proofs.Common.{◌∙◌, ap, sym, take, length}
use Rattle.vfs_wire.specs.Fields.{bytes_of}
use Rattle.vfs_wire.specs.Records.{out_header}
use Rattle.vfs_wire.specs.declared.headers.OutHeader.{OutHeader}
use Rattle.vfs_segments.specs.Written.{wrote}
use Rattle.vfs_grammar.specs.Reply.{fault_reply}
use Rattle.vfs_messages.proofs.Rooms.{replied}
use Rattle.vfs_grammar.proofs.Rooms.{length-fault_reply, put_outcome-lengths}
use Rattle.vfs_messages.proofs.reply.reply_failed.Goals as goal

pub returns-clause-replied : goal.returns-clause-replied
returns-clause-replied c =
    let reply = fault_reply c.args.fault c.args.unique in
    let same = ap (λ (h : OutHeader). wrote c.args.w.now (take (length c.args.w.now.left) (bytes_of out_header h))) c.fault_header.ensures.header in
    replied c.args.w.now c.put_header.new.w reply _ (c.put_header.ensures ∙ same)
    (c.outcome_of.ensures ∙ put_outcome-lengths reply _ 16 _ (sym (length-fault_reply c.args.fault c.args.unique)) c.available_bytes-room.ensures)
