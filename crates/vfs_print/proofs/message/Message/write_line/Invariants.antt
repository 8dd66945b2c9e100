use Rattle.std.proofs.Common.{◌≡◌, ◌-◌, ◌≤◌, length, take, drop}
use Rattle.std.specs.Prelude.{All, IfSome}
use Rattle.vfs_print.specs.Lines.{short_line}
use Rattle.vfs_print.specs.Text.{IsPrintable}
use Rattle.vfs_print.proofs.message.Message.write_line.Given as goal

-- what is in memory so far; a short line is all there at once
abbrev pub invariant-loop-at : goal.invariant-loop-at
invariant-loop-at l =
    (l.at ≤ l.end)
    × (length l.text ≡ length l.initial.text)
    × All IsPrintable (take l.at l.text)
    × (drop l.at l.text ≡ drop l.at l.initial.text)
    × IfSome (short_line l.self) (λ line. (l.at ≡ l.end) × (take l.at l.text ≡ take l.at line))

abbrev pub decreases-loop-at : goal.decreases-loop-at
decreases-loop-at l = l.end - l.at
