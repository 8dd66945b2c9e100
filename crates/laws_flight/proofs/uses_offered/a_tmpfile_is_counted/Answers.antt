use Rattle.std.proofs.Common.{[], ◌∷◌, ◌++◌, subst}
use Rattle.vfs_grammar.specs.Books.{KeepsBooks}
use Rattle.codec_decode.specs.Further.{What}
use Rattle.laws_flight.specs.OfferedTurns.{seen_of}
use Rattle.laws_flight.proofs.uses_offered.a_tmpfile_is_counted.Goals as goal

pub returns : goal.returns
returns c = λ limits options after t is turn.
    subst (λ (what : What). KeepsBooks (seen_of t.turn what ++ [])) is
    (c.offered_turns_keep_books.ensures.each limits (t ∷ []) (options, after, turn, tt))
