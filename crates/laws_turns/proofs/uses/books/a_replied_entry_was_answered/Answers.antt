use Rattle.std.proofs.Common.{refl, arith}
use Rattle.vfs_flags.specs.declared.opcode.Opcode.TheVariants.{Symlink, Mknod, Mkdir, Link}
use Rattle.laws_turns.proofs.BookCallers.{reply_was_answered}
use Rattle.laws_turns.proofs.uses.books.a_replied_entry_was_answered.Goals as goal

pub returns-clause-symlink : goal.returns-clause-symlink
returns-clause-symlink c = λ limits options after t following turn asked whole room.
    reply_was_answered t Symlink following (c.each_turn_balances.ensures limits options after 5 t (λ e. omega arith) turn)
    asked (λ reply. refl) whole room

pub returns-clause-mknod : goal.returns-clause-mknod
returns-clause-mknod c = λ limits options after t following turn asked whole room.
    reply_was_answered t Mknod following (c.each_turn_balances.ensures limits options after 5 t (λ e. omega arith) turn)
    asked (λ reply. refl) whole room

pub returns-clause-mkdir : goal.returns-clause-mkdir
returns-clause-mkdir c = λ limits options after t following turn asked whole room.
    reply_was_answered t Mkdir following (c.each_turn_balances.ensures limits options after 5 t (λ e. omega arith) turn)
    asked (λ reply. refl) whole room

pub returns-clause-link : goal.returns-clause-link
returns-clause-link c = λ limits options after t following turn asked whole room.
    reply_was_answered t Link following (c.each_turn_balances.ensures limits options after 5 t (λ e. omega arith) turn)
    asked (λ reply. refl) whole room
