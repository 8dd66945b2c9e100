use Rattle.std.proofs.Common.{false, true, length}
use Rattle.vfs_grammar.specs.Limits.{default_limits}
use Rattle.laws_turns.proofs.DirectoryCallers.{echo, listing, asks_small_readdir, asks_small_readdirplus, not_two, not_two_with_entries}
use Rattle.laws_turns.proofs.uses.directories.one_item_is_taken.Goals as goal

pub returns-clause-plain : goal.returns-clause-plain
returns-clause-plain c = λ options after t first second events turn request room are.
    not_two t.events first second events _ are
    (c.directories_are_read.ensures.few (default_limits 4096) options after t echo (listing false 23) turn
    (asks_small_readdir options (length t.room) t.request request room))

pub returns-clause-with_entries : goal.returns-clause-with_entries
returns-clause-with_entries c = λ options after t first second name answer events turn request room are.
    not_two_with_entries t.events first second events _ _ answer are
    (c.directories_are_read.ensures.few (default_limits 4096) options after t echo (listing true 151) turn
    (asks_small_readdirplus options (length t.room) t.request request room))
