-- What the books see of turns by both tables are turns of virtiofsd's table.
use Rattle.std.proofs.Common.{ℕ, List, [], ◌∷◌, ◌++◌}
use Rattle.vfs_grammar.specs.Books.{KeepsBooks}
use Rattle.vfs_grammar.specs.Turn.{Turn}
use Rattle.vfs_grammar.specs.declared.limits.Limits.{Limits}
use Rattle.laws_turns.proofs.InOrder.{AreEachTurns, keeps_books}
use Rattle.codec_decode.specs.Further.{What, Ordinary, Short, Row, Unnamed, what_of}
use Rattle.laws_flight.specs.OfferedTurns.{AreOffered, AreOfferedInOrder, FollowsOffered, OfferedTurn, all_seen, seen_of}

-- what is seen of one turn, before what is seen of others
seen_first : (limits : Limits) (options after : ℕ) (t : OfferedTurn) (what : What)
    → FollowsOffered t limits options what after → (others : List Turn) → AreEachTurns limits others
    → AreEachTurns limits (seen_of t.turn what ++ others)
seen_first limits options after t Ordinary follows others are = ((options, after, follows.1), are)
seen_first limits options after t Short follows others are = are
seen_first limits options after t (Row told) follows others are = are
seen_first limits options after t Unnamed follows others are = ((options, after, follows.1), are)

are_each : (limits : Limits) (turns : List OfferedTurn) → AreOffered limits turns
    → AreEachTurns limits (all_seen limits turns)
are_each limits [] are = tt
are_each limits (t ∷ ts) are =
    seen_first limits are.0 are.1 t (what_of t.offers limits t.turn.request) are.2 (all_seen limits ts)
    (are_each limits ts are.3)

pub keep_books : (limits : Limits) (turns : List OfferedTurn) → AreOffered limits turns
    → KeepsBooks (all_seen limits turns)
keep_books limits turns are = keeps_books limits (all_seen limits turns) (are_each limits turns are)

-- turns in order are such turns
are_offered : (limits : Limits) (options after : ℕ) (turns : List OfferedTurn)
    → AreOfferedInOrder limits options turns after → AreOffered limits turns
are_offered limits options after [] are = tt
are_offered limits options after (t ∷ ts) are =
    (options, are.0, are.1, are_offered limits are.0 after ts are.2)

pub keep_books_in_order : (limits : Limits) (options after : ℕ) (turns : List OfferedTurn)
    → AreOfferedInOrder limits options turns after → KeepsBooks (all_seen limits turns)
keep_books_in_order limits options after turns are =
    keep_books limits turns (are_offered limits options after turns are)
