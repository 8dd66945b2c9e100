use Rattle.laws_flight.proofs.uses.calls_told_alike.Goals as goal

pub returns : goal.returns
returns c = λ request options room one other told ctx inode handle space size offset flags owner call is_read is_call.
    c.what_is_told_is_the_call.ensures request options room other one call _ told is_call is_read
