use Rattle.std.proofs.Common.{◌≡◌, ◌<◌, ◌^◌, ℕ, List, true, take}
use Rattle.std.specs.List.{list_all}
use Rattle.std.specs.Char.{is_ascii_digit}
use Rattle.vfs_run.specs.Lines.{decimal_value}
use Rattle.vfs_run.proofs.line.parse_number.Given as goal

-- what the digits so far write, and that they are digits
pub record Read (text : List ℕ) (i number : ℕ) : Type 0 where
  pub value : number ≡ decimal_value (take i text)
  pub digits : list_all is_ascii_digit (take i text) ≡ true
  pub small : number < 10 ^ i

abbrev pub invariant-loop-byte : goal.invariant-loop-byte
invariant-loop-byte l = Read l.text l.byte-index l.number
