use Rattle.vhost_protocol.specs.Places.{NoneHas}
use Rattle.vhost_protocol.proofs.messages.place.place_of.Given as goal

abbrev pub invariant-loop-i : goal.invariant-loop-i
invariant-loop-i l = NoneHas l.view l.address l.len l.regions l.i
