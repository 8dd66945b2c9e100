use Rattle.std.proofs.Common.{◌≡◌, ap, arith, refl, rules, subst}
use Rattle.vfs_wire.specs.Fields.{little, number}
use Rattle.codec_calls.specs.declared.call.CallData.{CallData}
use Rattle.nizwarf_codec.specs.Kept.{HoldsAnswer, put_of}
use Rattle.nizwarf_codec.proofs.Asking.{call_of_tells, code_of_tells}
use Rattle.nizwarf_codec.proofs.Lookup.{are_limits}
use Rattle.nizwarf_codec.proofs.Promised.{call_told}
use Rattle.nizwarf_codec.proofs.uses.ask_with_locks.Goals as goal

pub returns-clause-code : goal.returns-clause-code
unfolding number
returns-clause-code c is_getlk =
    let is = code_of_tells _ _ _ _ (rw is_getlk at (c.nizwarf_decode_at.ensures.asked are_limits)).0 in
    search (rules, is)

pub returns-clause-call : goal.returns-clause-call
unfolding number
returns-clause-call c is_getlk code =
    call_of_tells _ _ _ _ (rw is_getlk at (c.nizwarf_decode_at.ensures.asked are_limits)).0
    (search (rules, code))

pub returns-clause-nothing : goal.returns-clause-nothing
unfolding number
returns-clause-nothing c is_getlk = (rw is_getlk at (c.nizwarf_decode_at.ensures.asked are_limits)).2

pub returns-clause-kept : goal.returns-clause-kept
unfolding number
returns-clause-kept c is_getlk code =
    subst (λ (call : CallData). HoldsAnswer call c.nizwarf_decode_at.new.handle.value)
    (returns-clause-call c is_getlk code) (c.nizwarf_decode_at.ensures.kept (search (rules, code)))

pub returns-clause-ready : goal.returns-clause-ready
returns-clause-ready c is_getlk code asks =
    let is = returns-clause-call c is_getlk code in
    let room : put_of c.nizwarf_decode_at.new.call c.nizwarf_decode_at.new.call.room ≡ 4096 =
    ap (λ (call : CallData). put_of call call.room) is in
    c.nizwarf_decode_at.ensures.ready (search (rules, code)) 4096 (omega (arith, room)) asks

pub returns-clause-plain : goal.returns-clause-plain
unfolding number little
returns-clause-plain c is_lookup code =
    let told = (rw is_lookup at (c.nizwarf_decode_at.ensures.plain are_limits)) refl in
    call_told _ _ _ _ _ _ _ _ _ told (search (rules, code))

pub returns-clause-stays : goal.returns-clause-stays
returns-clause-stays c asks = c.nizwarf_decode_at.ensures.stays 4096 asks

pub returns-clause-memory : goal.returns-clause-memory
unfolding number
returns-clause-memory c is_getlk few has lacks =
    let enough = rw is_getlk at c.nizwarf_decode_at.ensures.memory in
    enough has few (λ more. more) (search (rules, lacks))

pub returns-clause-keeps : goal.returns-clause-keeps
returns-clause-keeps c has = c.nizwarf_decode_at.ensures.keeps 4096 has
