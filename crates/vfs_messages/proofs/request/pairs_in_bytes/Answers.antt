use Rattle.std.proofs.Common.{◌≡◌, ◌∙◌, ◌+◌, ◌-◌, ◌≤◌, ℕ, ap, arith, length, length-drop, drop, refl, take}
use Rattle.std.proofs.lemmas.List.{take_all}
use Rattle.vfs_wire.specs.Records.{forget_one}
use Rattle.vfs_wire.specs.FieldLaws.{value_of-take}
use Rattle.vfs_grammar.specs.Forms.{pairs_of}
use Rattle.vfs_messages.proofs.Pairs.{copied_none, copied_one, copied_all}
use Rattle.vfs_messages.proofs.request.pairs_in_bytes.Goals as goal

pub loop-i-init : goal.loop-i-init
loop-i-init g c = rw c.in-Ok.ensures.items (copied_none _ c.args.count (c.args.count - 0) c.args.bytes.now (omega arith) c.requires refl)

pub loop-i-preserved : goal.loop-i-preserved
loop-i-preserved g c =
    let left = c.loop-i.rest.now in
    let one = c.take-one.result in
    let x = c.pair_of.result in
    let test = c.loop-i-test.true in
    let room : 16 ≤ length left = omega (arith, test, c.loop-i.invariant.room) in
    let pair : ◌≡◌ {A = ℕ × ℕ} (g.I.Number.value x.0, x.1) (one.nodeid, one.nlookup) =
    ap (λ (n : ℕ). (n, x.1)) c.pair_of.ensures.node ∙ ap (λ (n : ℕ). (one.nodeid, n)) c.pair_of.ensures.nlookup in
    let moved : take (length left - 16) (drop 16 left) ≡ drop 16 left = take_all (length left - 16) (drop 16 left) (omega (arith, length-drop 16 left)) in
    copied_one (λ p. (g.I.Number.value p.0, p.1)) c.loop-i.pairs.items c.push.new.self.items x one (pairs_of c.args.count c.args.bytes.now) (c.args.count - c.loop-i.i) (c.args.count - (c.loop-i.i + 1)) left _
    c.in-Ok-push.ensures.items pair (c.take-one.ensures.read ∙ value_of-take forget_one 16 left (omega arith)) moved (omega (arith, test)) c.loop-i.invariant

pub returns-clause-pairs : goal.returns-clause-pairs
returns-clause-pairs g c = copied_all _ _ (c.args.count - c.loop-i.i) c.loop-i.rest.now (omega (arith, c.loop-i-test.false)) c.loop-i.invariant
