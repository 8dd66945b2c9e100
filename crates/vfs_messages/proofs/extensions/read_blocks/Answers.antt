use Rattle.std.proofs.Common.{◌≡◌, ◌<◌, length, inl, arith}
use Rattle.std.proofs.lemmas.Bool.Decides.{nat_tests}
use Rattle.std.proofs.lemmas.Result.{err_from_is_err_and}
use Rattle.vfs_flags.specs.Flags.{fs_options_bits}
use Rattle.vfs_messages.specs.Parts.{found_values}
use Rattle.vfs_messages.proofs.Blocks.{says-fault, says-bad, says-end}
use Rattle.vfs_grammar.proofs.Blocks.{says-more}
use Rattle.vfs_messages.proofs.extensions.read_blocks.Goals as goal

pub returns-in_err-block : goal.returns-in_err-block
returns-in_err-block c =
    let p = err_from_is_err_and c.from_residual.result c.from_residual.ensures.1 in
    let some : 0 < length c.loop-left.left.now = grind (arith, nat_tests, c.loop-left-test.ensures) in
    rw (p.1, p.2)
    (inl (says-fault (fs_options_bits c.args.options)
    (found_values c.loop-left.found) c.loop-left.left.now _ _ c.loop-left.invariant some c.in_err-block.ensures))

pub returns-in_err-found : goal.returns-in_err-found
returns-in_err-found c =
    let p = err_from_is_err_and c.from_residual-in_err-found.result c.from_residual-in_err-found.ensures.1 in
    rw (p.1, p.2)
    (says-bad (fs_options_bits c.args.options)
    (found_values c.loop-left.found) c.loop-left.left.now _ _ _ c.loop-left.invariant c.in_ok-block.ensures.0
    c.in_err-found.ensures)

pub loop-left-preserved : goal.loop-left-preserved
loop-left-preserved c =
    says-more (fs_options_bits c.args.options) (found_values c.loop-left.found)
    (found_values c.in_ok-found.found) c.loop-left.left.now c.in_ok-block.block.following.now _ _
    c.loop-left.invariant c.in_ok-block.ensures.0 c.in_ok-block.ensures.1 c.in_ok-found.ensures

pub returns : goal.returns
returns c =
    let none : length c.loop-left.left.now ≡ 0 = grind (arith, nat_tests, c.loop-left-test.ensures) in
    says-end (fs_options_bits c.args.options)
    (found_values c.loop-left.found) c.loop-left.left.now c.received.result _ c.loop-left.invariant none
    c.received.ensures
