use Rattle.std.proofs.Common.{refl}
use Rattle.test_uses.proofs.clauses.segments.two_counts.Goals as goal

pub returns : goal.returns
returns c =
    let now = c.args.reader.now in
    (now, (c.available_bytes.ensures.answers, (now, (c.bytes_read.ensures.answers, record { left = refl; taken = refl }))))
