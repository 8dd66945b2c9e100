use Rattle.std.proofs.Common.{◌≡◌, arith, false, nat_lt}
use Rattle.std.proofs.lemmas.Bool.Decides.{nat_tests}
use Rattle.vfs_flags.specs.Flags.{fs_options_bits}
use Rattle.vfs_grammar.specs.Limits.{max_len}
use Rattle.codec_decode.proofs.InRoom.{noted_in_room}
use Rattle.codec_decode.proofs.asked.note_opcode.Goals as goal

pub returns-in-Lookup-clause-noted : goal.returns-in-Lookup-clause-noted
returns-in-Lookup-clause-noted c = rw (c.in-Lookup.is) (c.note_lookup.ensures c.args.terms.limits (fs_options_bits c.args.terms.options) c.args.terms.room c.args.w.now)

pub returns-in-Getattr-clause-noted : goal.returns-in-Getattr-clause-noted
returns-in-Getattr-clause-noted c = rw (c.in-Getattr.is) (c.note_getattr.ensures c.args.terms.limits (fs_options_bits c.args.terms.options) c.args.terms.room c.args.w.now)

pub returns-in-Read-clause-noted : goal.returns-in-Read-clause-noted
returns-in-Read-clause-noted c = rw (c.in-Read.is) (c.note_read.ensures c.args.terms.limits (fs_options_bits c.args.terms.options) c.args.w.now)

pub returns-in-Write-clause-noted : goal.returns-in-Write-clause-noted
returns-in-Write-clause-noted c = rw (c.in-Write.is) (c.note_write.ensures c.args.terms.limits (fs_options_bits c.args.terms.options) c.args.terms.room c.args.w.now)

pub returns-in_default-clause-noted : goal.returns-in_default-clause-noted
returns-in_default-clause-noted c =
    let below : nat_lt (max_len c.args.terms.limits) c.args.q.header.now.len ≡ false = grind (arith, nat_tests, c.requires.below) in
    noted_in_room c.args.terms.limits _ _ c.args.terms.room c.args.q.header.now c.args.q.r.now.left c.args.q.r.now.pieces _ _ _ _ c.args.opcode
    c.requires.no_readdir c.requires.no_readdirplus c.in_default.not-Read (rw (below, c.requires.known) at c.note.ensures.noted)
