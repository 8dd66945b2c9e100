-- What C is told of a request that was asked for its call.
use Rattle.std.specs.Prelude.{◌≡◌, ◌≤◌, ◌^◌, ◌⊎◌, ℕ, ℤ, List, [], ◌∷◌, length, Result}
use Rattle.vfs_segments.specs.Lengths.{lengths_from}
use Rattle.vfs_segments.specs.Segments.{flat_bytes, lengths_of}
use Rattle.vfs_segments.specs.Unread.{Unread}
use Rattle.vfs_segments.specs.Written.{Written}
use Rattle.vfs_grammar.specs.declared.error.Error.{Error}
use Rattle.vfs_grammar.specs.declared.limits.Limits.{Limits}
use Rattle.codec_calls.specs.Shapes.{nothing}
use Rattle.codec_calls.specs.declared.call.CallData.{CallData}
use Rattle.codec_decode.specs.Asked.{IsAsked}
use Rattle.codec_decode.specs.declared.asked.Asked.{Asked}
use Rattle.codec_decode.specs.declared.asked.Asked.TheVariants as asked
use Rattle.c_rooms.specs.Codes.{no_memory, too_long, is_asked, outcome_code, length_of}
use Rattle.nizwarf_codec.specs.Shown.{AreFirst}
use Rattle.nizwarf_codec.specs.declared.data.ToldData.{ToldData}

-- The request was not asked, for want of memory, perhaps for an answer to its call, or since the lengths of its
-- pieces sum past the largest count. No call is told, and nothing is there to be copied out.
pub record IsNotAsked (request : List ℕ) (code : ℤ) (call_after : CallData) (told told_after : ToldData)
    (shown : List ℕ) : Type 0 where
  pub why : (code ≡ no_memory) ⊎ ((code ≡ too_long) × (2 ^ 64 ≤ length request))
  pub no_call : call_after ≡ nothing
  pub same_told : told_after ≡ told
  pub none_shown : shown ≡ []

-- ---- no more is of the promise: the rest is for the clause `asked`, which says the same over writers

-- what is told of a finished request: how long its reply is, and which request it interrupts
abbrev pub finished : Result ℕ Error → (interrupts : ℕ) → ToldData → ToldData
finished outcome interrupts told = record told {
  len = length_of outcome;
  put = length_of outcome;
  interrupts = interrupts;
}

-- What is told of this: that a call is told; or the number of the outcome, and the reply's bytes to be
-- copied out.
abbrev pub IsAskTold : Asked → (before after : Written) → (code : ℤ) → (told told_after : ToldData)
    → (shown : List ℕ) → Type 0
IsAskTold asked.Call before after code told told_after shown =
    (code ≡ is_asked) × (told_after ≡ told) × (shown ≡ [])
IsAskTold (asked.Finished outcome interrupts) before after code told told_after shown =
    (code ≡ outcome_code outcome)
    × (told_after ≡ finished outcome interrupts told)
    × AreFirst (length_of outcome) before after shown

-- The request was asked, as the grammar says, with a writer that had that many bytes left. A call that is
-- asked for is in `call_after`.
pub record AsksOver (limits : Limits) (options : ℕ) (request : List ℕ) (room : ℕ) (code : ℤ)
    (call_after : CallData) (told told_after : ToldData) (shown : List ℕ) : Type 0 where
  pub before : Written
  pub space : length before.left ≡ room
  pub result : Asked
  pub after : Written
  pub asked : IsAsked limits options request before result after call_after
  pub passed_on : IsAskTold result before after code told told_after shown

-- a request with that many bytes of room was asked, or not
abbrev pub AsksOrNot : (limits : Limits) → (options : ℕ) → (request : List ℕ) → (room : ℕ)
    → (code : ℤ) → (call_after : CallData) → (told told_after : ToldData) → (shown : List ℕ) → Type 0
AsksOrNot limits options request room code call_after told told_after shown =
    AsksOver limits options request room code call_after told told_after shown
    ⊎ IsNotAsked request code call_after told told_after shown

-- a reader of all bytes of a request that lies in these segments
abbrev pub unread_in : List (List ℕ) → Unread
unread_in segments =
    record { left = flat_bytes segments; taken = 0; pieces = lengths_from 0 (lengths_of segments) }

-- a request whose header lies in one piece, and in one all that follows it: it is in one segment, or in two of which
-- the first is the header
abbrev pub LiesInTwo : (segments : List (List ℕ)) → Type 0
LiesInTwo [] = ⊥
LiesInTwo (all ∷ []) = 40 ≤ length all
LiesInTwo (header ∷ rest ∷ []) = length header ≡ 40
LiesInTwo _ = ⊥
