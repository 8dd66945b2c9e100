use Rattle.std.proofs.Common.{◌≤◌, ◌*◌, arith, length, rules}
use Rattle.vfs_messages.proofs.Pairs.{given_pairs}
use Rattle.vfs_messages.proofs.request.read_pairs.Goals as goal

pub copy_pairs-requires : goal.copy_pairs-requires
copy_pairs-requires c = search rules

pub returns-in-Some : goal.returns-in-Some
returns-in-Some g c =
    let room : c.args.count * 16 ≤ length c.args.reader.now.left = omega (arith, c.available_bytes.ensures.left, c.if-available_bytes-count.false) in
    given_pairs g.I.Number.value c.pairs_in_bytes.result c.args.count c.in-Some.bytes.now c.args.reader.now.left room c.in-Some.ensures.bytes c.pairs_in_bytes.ensures.pairs c.pairs_in_bytes.ensures.err
