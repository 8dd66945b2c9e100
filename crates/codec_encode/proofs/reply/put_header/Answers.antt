use Rattle.std.proofs.Common.{◌≡◌, ◌∙◌, ℕ, List, Ok, length, ap, arith}
use Rattle.std.proofs.lemmas.List.{take_all}
use Rattle.vfs_wire.specs.Fields.{bytes_of}
use Rattle.vfs_wire.specs.Records.{out_header}
use Rattle.vfs_segments.specs.Written.{wrote}
use Rattle.vfs_messages.specs.Rooms.{data_header}
use Rattle.vfs_grammar.proofs.Rooms.{length-header}
use Rattle.codec_encode.proofs.reply.put_header.Goals as goal

pub returns-clause-header : goal.returns-clause-header
returns-clause-header c =
    let head : List ℕ = bytes_of out_header (data_header (Ok c.args.count) c.args.unique) in
    let n : length head ≡ 16 = length-header (data_header (Ok c.args.count) c.args.unique) in
    c.write_obj.ensures.wrote ∙ ap (wrote c.args.w.now) (take_all (length c.args.w.now.left) head (omega (arith, n, c.requires.room)))
