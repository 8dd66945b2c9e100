use Rattle.std.proofs.Common.{◌≡◌, ◌+◌, ◌≤◌, ◌++◌, length, take}
use Rattle.std.specs.Prelude.{All}
use Rattle.vfs_print.specs.Text.{IsPrintable}
use Rattle.vfs_print.proofs.part.Part.put_text.Given as goal

-- so far as the loop has come, the text was put
abbrev pub invariant-loop-byte : goal.invariant-loop-byte
invariant-loop-byte l =
    l.initial.self.from ≡ 0 → l.initial.self.len + length l.byte-items ≤ 4096 → All IsPrintable l.byte-items
    → (l.self.from ≡ 0) × (l.self.len ≡ l.initial.self.len + l.byte-index)
    × (take l.self.len l.self.bytes ≡ take l.initial.self.len l.initial.self.bytes ++ take l.byte-index l.byte-items)
