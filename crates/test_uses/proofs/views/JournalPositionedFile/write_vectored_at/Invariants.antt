use Rattle.std.proofs.Common.{◌≡◌, ◌++◌, take}
use Rattle.std.specs.List.{concat}
use Rattle.test_uses.proofs.views.JournalPositionedFile.write_vectored_at.Given as goal

abbrev pub invariant-loop-i : goal.invariant-loop-i
invariant-loop-i l = l.self.bytes.items ≡ l.fn.self.bytes.items ++ concat (take l.i l.view)
