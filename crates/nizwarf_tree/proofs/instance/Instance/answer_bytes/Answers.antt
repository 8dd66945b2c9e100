use Rattle.std.proofs.Common.{◌≤◌, ◌^◌, ℕ, length, rules}
use Rattle.vfs_segments.specs.Segments.{flat_bytes, segments_of}
use Rattle.nizwarf_tree.proofs.Keeping.{not_less, wants_same}
use Rattle.nizwarf_tree.proofs.instance.Instance.answer_bytes.Goals as goal

pub returns-in-Ok-clause-memory : goal.returns-in-Ok-clause-memory
returns-in-Ok-clause-memory c few wants keeps code =
    c.answer_reader.ensures.memory
    (wants_same c.args.self.now.server.limits c.args.self.now.server.options c.args.total c.in-Ok.reader
    (segments_of c.args.request.now) c.in-Ok.ensures.ok.0 c.in-Ok.ensures.ok.1 c.in-Ok.ensures.pieces wants)
    keeps (search (rules, code))

pub returns-in-Err-clause-memory : goal.returns-in-Err-clause-memory
returns-in-Err-clause-memory c few wants keeps code =
    let n : ℕ = length (flat_bytes (segments_of c.args.request.now)) in
    let long : 2 ^ 64 ≤ n = not_less n (λ fits. let e = c.in-Err.ensures.few few fits in cc) in
    let chain = c.in-Err.ensures.too_long long in
    search (rules, chain)
