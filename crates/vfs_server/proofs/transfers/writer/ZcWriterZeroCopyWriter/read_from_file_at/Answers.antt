use Rattle.std.proofs.Common.{◌≡◌, ◌<◌, ◌≤◌, ◌+◌, ◌^◌, Ok, Err, arith}
use Rattle.std.proofs.lemmas.Result.{err_from_is_err_and}
use Rattle.vfs_files.specs.Transfers.{reads_of}
use Rattle.vfs_server.proofs.Going.{going_start, going_more, going_none, going_past, going_broken, going_done}
use Rattle.vfs_server.proofs.Sides.{written, writer_next}
use Rattle.vfs_server.proofs.transfers.writer.ZcWriterZeroCopyWriter.read_from_file_at.Goals as goal

pub loop-moved-init : goal.loop-moved-init
loop-moved-init g c = going_start written (reads_of g.P.PositionedFile.read_gives) _ _ _ _

pub loop-moved-preserved : goal.loop-moved-preserved
loop-moved-preserved g c =
    let going = c.loop-moved.invariant in
    let call = c.in_ok-n.ensures in
    let did = writer_next g.P.PositionedFile.read_gives (Ok c.in_ok-n.n) going call.bound call.nothing call.lent in
    let some : 0 < c.in_ok-n.n = omega (arith, c.if-n-eq0.false) in
    let next : (c.loop-moved.place + c.in_ok-n.n < 2 ^ 64) × (c.in-Some.next ≡ c.loop-moved.place + c.in_ok-n.n) = c.in-Some.ensures in
    rw (next.1) (going_more written (reads_of g.P.PositionedFile.read_gives) _ _ _ _ going some did next.0)

pub returns-then-n-eq0 : goal.returns-then-n-eq0
returns-then-n-eq0 g c =
    let going = c.loop-moved.invariant in
    let call = c.in_ok-n.ensures in
    let did = writer_next g.P.PositionedFile.read_gives (Ok c.in_ok-n.n) going call.bound call.nothing call.lent in
    going_none written (reads_of g.P.PositionedFile.read_gives) _ _ _ _ going (rw c.if-n-eq0.true at did)

pub returns-in_default : goal.returns-in_default
returns-in_default g c =
    let going = c.loop-moved.invariant in
    let call = c.in_ok-n.ensures in
    let did = writer_next g.P.PositionedFile.read_gives (Ok c.in_ok-n.n) going call.bound call.nothing call.lent in
    let some : 0 < c.in_ok-n.n = omega (arith, c.if-n-eq0.false) in
    let past : 2 ^ 64 ≤ c.loop-moved.place + c.in_ok-n.n = omega (arith, c.in_default.ensures) in
    going_past written (reads_of g.P.PositionedFile.read_gives) _ _ _ _ going some did past

pub returns-in_err-n : goal.returns-in_err-n
returns-in_err-n g c =
    let going = c.loop-moved.invariant in
    let call = c.in_err-n.ensures in
    let did = writer_next g.P.PositionedFile.read_gives (Err c.in_err-n.field-0.0) going call.bound call.nothing call.lent in
    let same = err_from_is_err_and c.from_residual.result c.from_residual.ensures.1 in
    rw (same.1, same.2) (going_broken written (reads_of g.P.PositionedFile.read_gives) _ _ _ _ going did)

pub returns : goal.returns
returns g c = going_done written (reads_of g.P.PositionedFile.read_gives) _ _ _ _ c.loop-moved.invariant (omega (arith, c.loop-moved-test.false))
