use Rattle.std.proofs.Common.{false, length}
use Rattle.vfs_grammar.specs.Limits.{default_limits}
use Rattle.laws_turns.proofs.DirectoryCallers.{echo, listing, asks_readdir, refusal_replied}
use Rattle.laws_turns.proofs.uses.directories.a_reply_of_a_refusal.Goals as goal

pub returns : goal.returns
returns c = λ options after t turn request room events.
    let s = c.directories_are_read.ensures.stops (default_limits 4096) options after t echo (listing false 64) turn
    (asks_readdir options (length t.room) t.request request room) in
    refusal_replied t.room t.outcome t.room_after s.records s.answer t.events events s.stops s.replied
