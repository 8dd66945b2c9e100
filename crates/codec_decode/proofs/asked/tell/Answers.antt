use Rattle.std.proofs.Common.{inl, inr, refl}
use Rattle.codec_decode.proofs.asked.tell.Goals as goal

pub returns-then-call-eq0-clause-told : goal.returns-then-call-eq0-clause-told
returns-then-call-eq0-clause-told c = record {
  noted = c.note_opcode-outcome.new.call;
  outcome = c.note_opcode-outcome.result;
  is_noted = c.note_opcode-outcome.ensures.noted;
  told_so = inl (c.if-call-eq0.true, c.finished.ensures, refl);
}

pub returns-clause-told : goal.returns-clause-told
returns-clause-told c = record {
  noted = c.note_opcode-outcome.new.call;
  outcome = c.note_opcode-outcome.result;
  is_noted = c.note_opcode-outcome.ensures.noted;
  told_so = inr (c.if-call-eq0.false, refl, c.complete.ensures);
}
