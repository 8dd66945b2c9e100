-- What C is told of a request that was checked.
use Rattle.std.specs.Prelude.{◌≡◌, ℕ, ℤ, List, [], ◌∷◌, length, Err}
use Rattle.vfs_segments.specs.Lengths.{lengths_from}
use Rattle.vfs_segments.specs.Unread.{Unread}
use Rattle.vfs_grammar.specs.declared.limits.Limits.{Limits}
use Rattle.codec_calls.specs.declared.call.CallData.{CallData}
use Rattle.codec_decode.specs.Checked.{IsChecked}
use Rattle.codec_decode.specs.declared.checked.Checked.{Checked}
use Rattle.codec_decode.specs.declared.checked.Checked.TheVariants as checked
use Rattle.c_rooms.specs.Codes.{ok, is_asked, outcome_code}

-- the code of what a request is
abbrev pub checked_code : Checked → ℤ
checked_code checked.Call = is_asked
checked_code (checked.Finished interrupts) = ok
checked_code (checked.Refused error) = outcome_code (Err error)

-- the request that it interrupts, and 0 where it interrupts none
abbrev pub interrupts_of : Checked → ℕ
interrupts_of checked.Call = 0
interrupts_of (checked.Finished interrupts) = interrupts
interrupts_of (checked.Refused error) = 0

-- a reader has this request left, in one piece
pub record IsWhole (request : List ℕ) (r : Unread) : Type 0 where
  pub left : r.left ≡ request
  pub one_piece : r.pieces ≡ lengths_from 0 (length request ∷ [])

-- The request in one piece is what the grammar says, with that much room for a reply. A call that it asks for is
-- in `call`.
pub record Checks (limits : Limits) (options : ℕ) (request : List ℕ) (room : ℕ) (code : ℤ) (call : CallData)
    (interrupts : ℕ) : Type 0 where
  pub reader : Unread
  pub whole : IsWhole request reader
  pub result : Checked
  pub checked : IsChecked limits options reader room result call
  pub says_code : code ≡ checked_code result
  pub says_number : interrupts ≡ interrupts_of result
