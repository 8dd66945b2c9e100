use Rattle.std.proofs.Common.{◌≡◌, ◌+◌, ◌%◌, ◌^◌, ◌++◌, ◌∙◌, ℕ, sym, ap, arith, take, length, pos, length-append}
use Rattle.vfs_wire.specs.Fields.{bytes_of}
use Rattle.vfs_wire.specs.Records.{out_header}
use Rattle.vfs_segments.specs.Written.{wrote}
use Rattle.vfs_messages.specs.Rooms.{bytes_of_option}
use Rattle.vfs_grammar.specs.Reply.{body_reply}
use Rattle.vfs_messages.proofs.Rooms.{replied, wrote_three, length-bytes_of_option}
use Rattle.vfs_grammar.proofs.Rooms.{put_outcome-lengths, length-body_reply}
use Rattle.vfs_messages.proofs.reply.reply_parts.Goals as goal

pub returns-clause-replied : goal.returns-clause-replied
returns-clause-replied g c short =
    let old = c.args.w.now in
    let part = bytes_of_option g.T.ByteValued.table c.args.out in
    let body = c.args.body.now in
    let unique = c.args.unique in
    let size : c.part_size.result ≡ length part =
    c.part_size.ensures.size ∙ sym (length-bytes_of_option g.T.ByteValued.table c.args.out c.put_parts.ensures.in_width) in
    let all : 16 + c.part_size.result + length body ≡ 16 + length (part ++ body) = omega (arith, size, length-append part body) in
    let len : (16 + c.part_size.result + length body) % 2 ^ 32 ≡ 16 + length (part ++ body) = omega (arith, all, short) in
    let same =
    ap (λ (n : ℕ). wrote old (take (length old.left) (bytes_of out_header (record { len = n; error = pos 0; unique = unique }) ++ part))) len in
    let written =
    wrote_three old c.put_parts.new.w c.put_body.new.w _ part body
    (c.put_parts.ensures.wrote ∙ same) c.put_body.ensures in
    replied old c.put_body.new.w (body_reply (part ++ body) unique) _ written
    (c.outcome_of.ensures
    ∙ put_outcome-lengths _ _ _ _ (all ∙ sym (length-body_reply (part ++ body) unique)) c.available_bytes-room.ensures)
