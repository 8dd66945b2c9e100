use Rattle.std.proofs.Common.{refl, arith, zero-add}
use Rattle.vfs_files.specs.Calls.{Lookup}
use Rattle.laws_turns.proofs.BookCallers.{delivers_once}
use Rattle.laws_turns.proofs.uses.books.a_whole_reply_delivers_its_entry.Goals as goal

pub returns : goal.returns
returns c = λ limits options after t ctx parent name entry turn called five whole.
    let books = c.each_turn_balances.ensures limits options after 5 t (λ e. omega arith) turn in
    delivers_once t (Lookup ctx parent name) entry books called (zero-add _) refl five whole
