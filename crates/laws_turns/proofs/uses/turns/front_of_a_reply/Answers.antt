use Rattle.std.proofs.Common.{◌≡◌, ◌++◌, ◌∙◌, ℕ, List, [], take, drop, sym, ap, arith, append_assoc, append-nil, length-append}
use Rattle.std.proofs.lemmas.List.{take_at, drop_at, take-take, drop-take}
use Rattle.std.specs.Int.{w32, cast_unsigned}
use Rattle.vfs_wire.specs.Fields.{little}
use Rattle.vfs_wire.specs.FieldLaws.{length-little}
use Rattle.laws_turns.specs.Turns.{BeginsWithHeader}
use Rattle.laws_turns.proofs.uses.turns.front_of_a_reply.Goals as goal

len_in_front : (n unique : ℕ) (bytes : List ℕ) → BeginsWithHeader n unique bytes → take 4 bytes ≡ little 4 n
len_in_front n unique bytes h =
    sym (take-take 4 16 bytes (omega arith)) ∙ ap (take 4) h.header ∙ take_at (little 4 n) _ 4 (length-little 4 n)

unique_after : (n unique : ℕ) (bytes : List ℕ) → BeginsWithHeader n unique bytes → take 8 (drop 8 bytes) ≡ little 8 unique
unique_after n unique bytes h =
    let error = little 4 (cast_unsigned w32 h.error) in
    sym (drop-take 8 8 bytes) ∙ ap (drop 8) h.header
    ∙ ap (drop 8) (sym (append_assoc (little 4 n) error (little 8 unique ++ [])))
    ∙ drop_at (little 4 n ++ error) (little 8 unique ++ []) 8 (omega (arith, length-append (little 4 n) error, length-little 4 n, length-little 4 (cast_unsigned w32 h.error)))
    ∙ append-nil (little 8 unique)

pub returns-clause-len : goal.returns-clause-len
returns-clause-len c = λ limits options after n t turn answer some.
    len_in_front n _ t.room_after (c.replies_begin_with_their_header.ensures limits options after n t turn answer some)

pub returns-clause-unique : goal.returns-clause-unique
returns-clause-unique c = λ limits options after n t turn answer some.
    unique_after n _ t.room_after (c.replies_begin_with_their_header.ensures limits options after n t turn answer some)
