-- A known opcode within the limit asks as its line of the table says, and wants memory so.
use Rattle.std.proofs.Common.{◌≡◌, false, nat_lt, arith, rules, sym, Some}
use Rattle.std.proofs.lemmas.Bool.Decides.{nat_tests}
use Rattle.vfs_flags.specs.Numbers.{opcode_of}
use Rattle.vfs_grammar.specs.Limits.{max_len}
use Rattle.vfs_server.specs.Handling.{Serves}
use Rattle.vfs_server.proofs.handlers.session.Session.handle_header.Goals as goal

pub returns-in-Ok : goal.returns-in-Ok
unfolding Serves
returns-in-Ok g c =
    let h = c.args.q.header.now in
    let known : opcode_of h.opcode ≡ Some c.in-Ok.opcode = sym c.in-Ok.ensures.0 in
    let below : nat_lt (max_len c.args.self.now.limits) h.len ≡ false = grind (arith, nat_tests, c.max_len.ensures) in
    rw (below, known) c.dispatch.ensures

pub returns-then-q-max_len : goal.returns-then-q-max_len
returns-then-q-max_len c = search rules
