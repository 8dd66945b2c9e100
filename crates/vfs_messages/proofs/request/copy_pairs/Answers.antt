use Rattle.std.proofs.Common.{◌∙◌, arith, refl, ◌-◌, ◌+◌, ap, ℕ}
use Rattle.std.proofs.lemmas.Bool.Decides.{nat_tests}
use Rattle.vfs_grammar.specs.Forms.{pairs_of}
use Rattle.vfs_messages.proofs.Pairs.{copied_none, copied_one, copied_all}
use Rattle.vfs_messages.proofs.request.copy_pairs.Goals as goal

pub loop-i-init : goal.loop-i-init
loop-i-init g c = rw c.in-Ok.ensures.items (copied_none _ c.args.count (c.args.count - 0) c.args.reader.now.left (omega arith) c.requires refl)

pub loop-i-preserved : goal.loop-i-preserved
loop-i-preserved g c =
    copied_one (λ p. (g.I.Number.value p.0, p.1)) c.loop-i.pairs.items c.push.new.self.items c.pair_of.result c.in-Some.one (pairs_of c.args.count c.args.reader.now.left) (c.args.count - c.loop-i.i) (c.args.count - (c.loop-i.i + 1)) c.loop-i.reader.left c.read_obj_if_whole.new.self.left
    c.in-Ok-push.ensures.items (ap (λ (n : ℕ). (n, c.pair_of.result.1)) c.pair_of.ensures.node ∙ ap (λ (n : ℕ). (c.in-Some.one.nodeid, n)) c.pair_of.ensures.nlookup) c.in-Some.ensures.value (ap (λ u. u.left) c.in-Some.ensures.moved) (omega (arith, c.loop-i-test.true)) c.loop-i.invariant

pub unreachable-requires : goal.unreachable-requires
unreachable-requires g c =
    let room = c.loop-i.invariant.room in
    let test = c.loop-i-test.true in
    let short = c.in-None.ensures.variant in
    grind (arith, nat_tests)

pub returns-clause-pairs : goal.returns-clause-pairs
returns-clause-pairs g c = copied_all _ _ (c.args.count - c.loop-i.i) c.loop-i.reader.left (omega (arith, c.loop-i-test.false)) c.loop-i.invariant
