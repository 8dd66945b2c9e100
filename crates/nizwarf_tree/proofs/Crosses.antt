-- What a pointer owns may go from thread to thread where its value may.
use mir.Raw.{raw}
use base.Fraction.{full_share}
use base.Shift.{Keyless}
use denote.RattleType.{RattleType}
use denote.Memory.{lone}
use denote.RawPtr.{Ptr, block_ptr, null_ptr}
use denote.Param.Send.{IsSend, part_keyless}
use Rattle.std.specs.declared.alloc.Global.{Global}
use Rattle.std.specs.declared.option.Option.{Option}
use Rattle.std.specs.declared.option.Option.TheVariants.{None, Some}
use Rattle.std.proofs.Crossing.{frees}
use Rattle.raw_box.specs.Held.{held}

-- any thread may give a block of `Global`'s back
pub held_keyless : (R : RattleType) → IsSend R → (a : Global) (p : Ptr) (x : Option R.Denot) → Keyless (held R a p x)
held_keyless R s a null_ptr None = tt
held_keyless R s a null_ptr (Some x) = tt
held_keyless R s a (block_ptr b o) None = tt
held_keyless R s a (block_ptr b o) (Some x) = (part_keyless R s full_share x b o, frees.frees a (raw (lone R.mir)) (block_ptr b o))
