use Rattle.std.proofs.Common.{ap}
use Rattle.vfs_grammar.specs.Books.{answered}
use Rattle.std.proofs.lemmas.List.{append-nil}
use Rattle.laws_flight.proofs.Books.{keep_books, keep_books_in_order}
use Rattle.laws_flight.proofs.laws.offered_turns_keep_books.Goals as goal

pub returns-clause-each : goal.returns-clause-each
returns-clause-each c = keep_books

pub returns-clause-in_order : goal.returns-clause-in_order
returns-clause-in_order c = keep_books_in_order

pub returns-clause-unnamed : goal.returns-clause-unnamed
returns-clause-unnamed c = λ limits t is n. rw is (ap (answered n) (append-nil t.turn.events))
